-- What WebGPU asks of a view of a texture: conditions without an order, on a view descriptor whose omitted fields are resolved.
use Rattle.std.specs.Prelude.{◌≡◌, ℕ, ◌+◌, ◌%◌, ◌<◌, ◌≤◌, true, ◌⊎◌, Some}
use Rattle.checks.specs.WebGpu.{Enabled, Renderable, Storable}
use Rattle.types.specs.Aspect.{DEPTH, STENCIL}
use Rattle.types.specs.Bits.{contains}
use Rattle.types.specs.Formats.{aspects_of, part_of, twin_of}
use Rattle.types.specs.Textures.{layers_of}
use Rattle.types.specs.Usage.{RENDER_ATTACHMENT, STORAGE_BINDING, TRANSIENT_ATTACHMENT}
use Rattle.types.specs.declared.aspect.TextureAspect.{TextureAspect}
use Rattle.types.specs.declared.aspect.TextureAspect.TheVariants.{All, DepthOnly, StencilOnly, Plane0, Plane1}
use Rattle.types.specs.declared.capabilities.Capabilities.{Capabilities}
use Rattle.types.specs.declared.dimension.TextureDimension.{TextureDimension}
use Rattle.types.specs.declared.dimension.TextureDimension.TheVariants.{D1 as Texture1D, D2 as Texture2D, D3 as Texture3D}
use Rattle.types.specs.declared.dimension.TextureViewDimension.{TextureViewDimension}
use Rattle.types.specs.declared.dimension.TextureViewDimension.TheVariants.{D1, D2, D2Array, Cube, CubeArray, D3}
use Rattle.types.specs.declared.extent.Extent3d.{Extent3d}
use Rattle.types.specs.declared.format.TextureFormat.{TextureFormat}
use Rattle.types.specs.declared.texture.Texture.{Texture}
use Rattle.view_checks.specs.declared.resolve.ResolvedView.{ResolvedView}

-- The aspect is present in the format. (WebGPU has no planes: of them the same is said.)
abbrev pub Present : TextureFormat → TextureAspect → Type 0
Present f All = Unit {0}
Present f DepthOnly = contains (aspects_of f) DEPTH ≡ true
Present f StencilOnly = contains (aspects_of f) STENCIL ≡ true
Present f Plane0 = contains (aspects_of f) 8 ≡ true
Present f Plane1 = contains (aspects_of f) 16 ≡ true

-- The texture's format, or one of its view formats. Of these the twin alone can differ from the format.
abbrev pub ViewFormat : Texture → TextureFormat → Type 0
ViewFormat t format = (format ≡ t.format) ⊎ ((t.twin_listed ≡ true) × (twin_of t.format ≡ Some format))

-- the format in which an aspect is viewed: all of them in a view format, one of them in its part of the texture's format
abbrev pub FormatFor : Texture → TextureAspect → TextureFormat → Type 0
FormatFor t All format = ViewFormat t format
FormatFor t DepthOnly format = part_of t.format DepthOnly ≡ Some format
FormatFor t StencilOnly format = part_of t.format StencilOnly ≡ Some format
FormatFor t Plane0 format = part_of t.format Plane0 ≡ Some format
FormatFor t Plane1 format = part_of t.format Plane1 ≡ Some format

-- the textures that a view of a dimension can be of
abbrev pub ViewsTexture : TextureViewDimension → TextureDimension → Type 0
ViewsTexture D1 dimension = dimension ≡ Texture1D
ViewsTexture D2 dimension = dimension ≡ Texture2D
ViewsTexture D2Array dimension = dimension ≡ Texture2D
ViewsTexture Cube dimension = dimension ≡ Texture2D
ViewsTexture CubeArray dimension = dimension ≡ Texture2D
ViewsTexture D3 dimension = dimension ≡ Texture3D

-- the layers that a view of a dimension can have
abbrev pub HasLayers : TextureViewDimension → ℕ → Type 0
HasLayers D1 layers = layers ≡ 1
HasLayers D2 layers = layers ≡ 1
HasLayers D2Array layers = Unit {0}
HasLayers Cube layers = layers ≡ 6
HasLayers CubeArray layers = layers % 6 ≡ 0
HasLayers D3 layers = layers ≡ 1

-- the faces of a cube are square
abbrev pub HasSides : TextureViewDimension → Extent3d → Type 0
HasSides D1 size = Unit {0}
HasSides D2 size = Unit {0}
HasSides D2Array size = Unit {0}
HasSides Cube size = size.width ≡ size.height
HasSides CubeArray size = size.width ≡ size.height
HasSides D3 size = Unit {0}

pub record Accepts (device : Capabilities) (t : Texture) (v : ResolvedView) : Type 0 where
  pub format_enabled : Enabled device v.format
  pub aspect_present : Present t.format v.aspect
  pub format_for_aspect : FormatFor t v.aspect v.format
  pub usage_within : contains t.usage.0 v.usage.0 ≡ true
  pub transient_usage : contains t.usage.0 TRANSIENT_ATTACHMENT ≡ true → v.usage.0 ≡ t.usage.0
  pub rendering : contains v.usage.0 RENDER_ATTACHMENT ≡ true → Renderable device v.format
  pub storage : contains v.usage.0 STORAGE_BINDING ≡ true → Storable device v.format
  pub levels_positive : 0 < v.mip_level_count
  pub levels_within : v.base_mip_level + v.mip_level_count ≤ t.mip_level_count
  pub layers_positive : 0 < v.array_layer_count
  pub layers_within : v.base_array_layer + v.array_layer_count ≤ layers_of t
  pub one_image_if_multisampled : 1 < t.sample_count → v.dimension ≡ D2
  pub dimension : ViewsTexture v.dimension t.dimension
  pub layers : HasLayers v.dimension v.array_layer_count
  pub sides : HasSides v.dimension t.size
