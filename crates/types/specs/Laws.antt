-- What holds of every row of the table of formats.
use Rattle.std.specs.Prelude.{◌≡◌, ℕ, true, Some}
use Rattle.types.specs.Aspect.{COLOR, DEPTH, STENCIL}
use Rattle.types.specs.Bits.{contains}
use Rattle.types.specs.Formats.{aspects_of, block_dimensions, part_of, required_features_of, twin_of}
use Rattle.types.specs.Row.{row_of}
use Rattle.types.specs.declared.aspect.TextureAspect.{TextureAspect}
use Rattle.types.specs.declared.aspect.TextureAspect.TheVariants.{All, DepthOnly, StencilOnly, Plane0, Plane1}
use Rattle.types.specs.declared.format.TextureFormat.{TextureFormat}

-- the usages of WebGPU: copies, binding, storage, attachments that are kept and transient ones
abbrev pub WEBGPU_USAGES : ℕ
WEBGPU_USAGES = 63

-- the aspects of what stands at an aspect of a format
abbrev pub aspects_at : TextureFormat → TextureAspect → ℕ
aspects_at f All = aspects_of f
aspects_at f DepthOnly = DEPTH
aspects_at f StencilOnly = STENCIL
aspects_at f Plane0 = COLOR
aspects_at f Plane1 = COLOR

pub record RowLaw (f : TextureFormat) : Type 0 where
  -- a twin's twin is the format itself, and twins agree in all but the way that colours are told
  pub twin_back : (t : TextureFormat) → twin_of f ≡ Some t → twin_of t ≡ Some f
  pub twin_block : (t : TextureFormat) → twin_of f ≡ Some t → block_dimensions t ≡ block_dimensions f
  pub twin_aspects : (t : TextureFormat) → twin_of f ≡ Some t → aspects_of t ≡ aspects_of f
  pub twin_needs : (t : TextureFormat) → twin_of f ≡ Some t → required_features_of t ≡ required_features_of f
  -- the part at an aspect is a format that has that aspect and no other
  pub part_aspects : (a : TextureAspect) (p : TextureFormat) → part_of f a ≡ Some p → aspects_of p ≡ aspects_at f a
  -- no row allows a usage that is not WebGPU's
  pub usages : contains WEBGPU_USAGES (row_of f).guaranteed.allowed_usages.0 ≡ true
