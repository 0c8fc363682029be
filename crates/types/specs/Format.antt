-- The formats, by number.
use Rattle.std.specs.Prelude.{ℕ, Bool, List, [], ◌∷◌, ◌==◌}
use Rattle.types.specs.declared.format.TextureFormat.{TextureFormat}
use Rattle.types.specs.declared.format.TextureFormat.TheVariants.{R8Unorm, Rg8Unorm, Rgba8Unorm, Rgba8UnormSrgb, Bgra8Unorm, Bgra8UnormSrgb, R32Uint, R32Float, Rgba16Float, Rgba32Float, Depth16Unorm, Depth24Plus, Depth32Float, Stencil8, Depth24PlusStencil8, Depth32FloatStencil8, Bc1RgbaUnorm, Bc1RgbaUnormSrgb, EacR11Unorm, Astc8x5Unorm, Astc8x5UnormSrgb, NV12}

abbrev pub code_of : TextureFormat → ℕ
code_of R8Unorm = 1
code_of Rg8Unorm = 2
code_of Rgba8Unorm = 3
code_of Rgba8UnormSrgb = 4
code_of Bgra8Unorm = 5
code_of Bgra8UnormSrgb = 6
code_of R32Uint = 7
code_of R32Float = 8
code_of Rgba16Float = 9
code_of Rgba32Float = 10
code_of Depth16Unorm = 11
code_of Depth24Plus = 12
code_of Depth32Float = 13
code_of Stencil8 = 14
code_of Depth24PlusStencil8 = 15
code_of Depth32FloatStencil8 = 16
code_of Bc1RgbaUnorm = 17
code_of Bc1RgbaUnormSrgb = 18
code_of EacR11Unorm = 19
code_of Astc8x5Unorm = 20
code_of Astc8x5UnormSrgb = 21
code_of NV12 = 22

-- every format, in the order of the codes
abbrev pub formats : List TextureFormat
formats =
    R8Unorm
    ∷ Rg8Unorm
    ∷ Rgba8Unorm
    ∷ Rgba8UnormSrgb
    ∷ Bgra8Unorm
    ∷ Bgra8UnormSrgb
    ∷ R32Uint
    ∷ R32Float
    ∷ Rgba16Float
    ∷ Rgba32Float
    ∷ Depth16Unorm
    ∷ Depth24Plus
    ∷ Depth32Float
    ∷ Stencil8
    ∷ Depth24PlusStencil8
    ∷ Depth32FloatStencil8
    ∷ Bc1RgbaUnorm
    ∷ Bc1RgbaUnormSrgb
    ∷ EacR11Unorm
    ∷ Astc8x5Unorm
    ∷ Astc8x5UnormSrgb
    ∷ NV12
    ∷ []

abbrev pub same_format : TextureFormat → TextureFormat → Bool
same_format a b = code_of a == code_of b
