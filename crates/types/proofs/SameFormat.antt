-- The derived `==` of formats goes by their variants, and so tells what their codes tell.
use Rattle.std.proofs.Common.{◌≡◌, suc, sym, refl}
use lib.Dec.{eqb-suc-suc}
use denote.Enum.Bare.{sameb}
use denote.Enum.Declared.{tag_of}
use Rattle.types.specs.Format.{code_of, same_format}
use Rattle.types.specs.contracts.format.TextureFormat.{the_type}
use Rattle.types.specs.declared.format.TextureFormat.{TextureFormat}
use Rattle.types.specs.declared.format.TextureFormat.TheVariants.{R8Unorm, Rg8Unorm, Rgba8Unorm, Rgba8UnormSrgb, Bgra8Unorm, Bgra8UnormSrgb, R32Uint, R32Float, Rgba16Float, Rgba32Float, Depth16Unorm, Depth24Plus, Depth32Float, Stencil8, Depth24PlusStencil8, Depth32FloatStencil8, Bc1RgbaUnorm, Bc1RgbaUnormSrgb, EacR11Unorm, Astc8x5Unorm, Astc8x5UnormSrgb, NV12}

-- a code is one more than the variant's place
place : (f : TextureFormat) → suc (tag_of the_type f) ≡ code_of f
place R8Unorm = refl
place Rg8Unorm = refl
place Rgba8Unorm = refl
place Rgba8UnormSrgb = refl
place Bgra8Unorm = refl
place Bgra8UnormSrgb = refl
place R32Uint = refl
place R32Float = refl
place Rgba16Float = refl
place Rgba32Float = refl
place Depth16Unorm = refl
place Depth24Plus = refl
place Depth32Float = refl
place Stencil8 = refl
place Depth24PlusStencil8 = refl
place Depth32FloatStencil8 = refl
place Bc1RgbaUnorm = refl
place Bc1RgbaUnormSrgb = refl
place EacR11Unorm = refl
place Astc8x5Unorm = refl
place Astc8x5UnormSrgb = refl
place NV12 = refl

pub same_tags : (a b : TextureFormat) → sameb the_type a b ≡ same_format a b
same_tags a b = rw (← place a, ← place b) (sym (eqb-suc-suc (tag_of the_type a) (tag_of the_type b)))
