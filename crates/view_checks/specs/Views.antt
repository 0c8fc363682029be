-- The view that an accepted request is worked out to.
use Rattle.std.specs.Prelude.{◌≡◌, ℕ, Bool, true, false, if◌then◌else◌, not, ◌&&◌, ◌||◌, List, [], ◌∷◌, ◌==◌, bit_and}
use Rattle.checks.specs.Check.{Check, answered, refuse}
use Rattle.checks.specs.Checks.{is_this}
use Rattle.types.specs.Aspect.{plane_of}
use Rattle.types.specs.Bits.{contains}
use Rattle.types.specs.Features.{MULTIVIEW}
use Rattle.types.specs.Formats.{aspects_of, guaranteed_features, is_planar, part_of, selected_aspects}
use Rattle.types.specs.Ranges.{Spans}
use Rattle.types.specs.Textures.{layers_of, render_extent_of}
use Rattle.types.specs.Usage.{RENDER_ATTACHMENT}
use Rattle.types.specs.Uses.{host_uses}
use Rattle.types.specs.declared.aspect.TextureAspect.TheVariants.{DepthOnly, StencilOnly}
use Rattle.types.specs.declared.dimension.TextureViewDimension.{TextureViewDimension}
use Rattle.types.specs.declared.dimension.TextureViewDimension.TheVariants.{D1, D2, D2Array, Cube, CubeArray, D3}
use Rattle.types.specs.declared.extent.Extent3d.{Extent3d}
use Rattle.types.specs.declared.format.TextureFormat.{TextureFormat}
use Rattle.types.specs.declared.texture.Texture.{Texture}
use Rattle.types.specs.declared.view.TextureView.{TextureView}
use Rattle.types.specs.declared.view.TextureViewNotRenderableReason.{TextureViewNotRenderableReason}
use Rattle.types.specs.declared.view.TextureViewNotRenderableReason.TheVariants.{Usage, Dimension, MipLevelCount, ArrayLayerCount, Aspects}
use Rattle.view_checks.specs.declared.resolve.ResolvedView.{ResolvedView}

-- ---- what the host is told

-- depth and stencil go by the whole format that they are a part of, anything else by its own
abbrev pub host_format : TextureFormat → TextureFormat → TextureFormat
host_format texture view = if is_this (part_of texture DepthOnly) view || is_this (part_of texture StencilOnly) view then texture else view

-- every host usage
abbrev pub ALL_USES : ℕ
ALL_USES = 2047

-- binding alone
abbrev pub BOUND : ℕ
BOUND = 4

-- binding, and storage in each of its ways
abbrev pub BOUND_OR_STORED : ℕ
BOUND_OR_STORED = 452

-- everything but the two copies
abbrev pub NOT_COPIED : ℕ
NOT_COPIED = 2044

-- the faces of a cube are only bound; a 3D view can be storage too
abbrev pub dimension_uses : TextureViewDimension → ℕ
dimension_uses D1 = ALL_USES
dimension_uses D2 = ALL_USES
dimension_uses D2Array = ALL_USES
dimension_uses Cube = BOUND
dimension_uses CubeArray = BOUND
dimension_uses D3 = BOUND_OR_STORED

-- several levels are only bound
abbrev pub level_uses : ℕ → ℕ
level_uses levels = if levels == 1 then ALL_USES else BOUND

-- what was asked for, as far as such a view can be used so
abbrev pub view_uses : ResolvedView → ℕ → ℕ
view_uses v flags =
    bit_and (bit_and (bit_and (host_uses v.usage.0 (aspects_of v.format) flags) NOT_COPIED) (dimension_uses v.dimension)) (level_uses v.mip_level_count)

-- ---- rendering

abbrev pub can_be_rendered : TextureViewDimension → Bool
can_be_rendered D1 = false
can_be_rendered D2 = true
can_be_rendered D2Array = true
can_be_rendered Cube = false
can_be_rendered CubeArray = false
can_be_rendered D3 = true

-- why a view cannot be rendered to, the first reason first
abbrev pub render_checks : ℕ → Texture → ResolvedView → List (Check TextureViewNotRenderableReason)
render_checks features t v =
    refuse (not (contains v.usage.0 RENDER_ATTACHMENT)) (Usage v.usage)
    ∷ refuse (not (can_be_rendered v.dimension)) (Dimension v.dimension)
    ∷ refuse (not (v.mip_level_count == 1)) (MipLevelCount v.mip_level_count)
    ∷ refuse (not (v.array_layer_count == 1) && not (contains features MULTIVIEW)) (ArrayLayerCount v.array_layer_count)
    ∷ refuse (not (is_planar t.format) && not (selected_aspects t.format v.aspect == aspects_of t.format))
    (Aspects (record { 0 = selected_aspects t.format v.aspect }))
    ∷ []

-- the size of the first level that is viewed
abbrev pub extent_of : Texture → ResolvedView → Extent3d
extent_of t v = render_extent_of t.size v.base_mip_level (plane_of v.aspect)

-- ---- the whole view: one line for each of its fields

pub record WorkedOut (features : ℕ) (t : Texture) (v : ResolvedView) (view : TextureView) : Type 0 where
  pub format : view.format ≡ v.format
  pub dimension : view.dimension ≡ v.dimension
  pub usage : view.usage ≡ v.usage
  pub mips : Spans v.base_mip_level v.mip_level_count t.mip_level_count view.mips
  pub layers : Spans v.base_array_layer v.array_layer_count (layers_of t) view.layers
  pub aspect : view.aspect ≡ v.aspect
  pub aspects : view.aspects.0 ≡ selected_aspects t.format v.aspect
  pub samples : view.samples ≡ t.sample_count
  pub hal_format : view.hal_format ≡ host_format t.format v.format
  pub hal_usage : view.hal_usage.0 ≡ view_uses v (guaranteed_features v.format features).flags.0
  pub render_extent : view.render_extent ≡ answered (render_checks features t v) (extent_of t v)

-- these lines leave no other view
abbrev pub OnlyView : ℕ → Texture → ResolvedView → TextureView → Type 0
OnlyView features t v view = (other : TextureView) → WorkedOut features t v other → other ≡ view
