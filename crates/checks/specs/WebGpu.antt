-- What WebGPU asks of a texture descriptor: conditions without an order, for the formats of the table.
use Rattle.std.specs.Prelude.{◌≡◌, ℕ, ◌+◌, ◌%◌, ◌^◌, ◌<◌, ◌≤◌, true, false, ◌⊎◌, [], Some}
use Rattle.std.specs.List.{AllByRecursion}
use Rattle.types.specs.Bits.{contains, intersects}
use Rattle.types.specs.Dimension.{is_1d, is_2d}
use Rattle.types.specs.Extent.{largest_side}
use Rattle.types.specs.Features.{ASTC_SLICED_3D, BC_SLICED_3D, MULTISAMPLE_ARRAY, NV12_FORMAT, VIEW_FORMATS}
use Rattle.types.specs.Formats.{block_dimensions, guaranteed_features, is_astc, is_bcn, is_compressed, is_depth_stencil, required_features_of, twin_of}
use Rattle.types.specs.Laws.{WEBGPU_USAGES}
use Rattle.types.specs.Samples.{X4}
use Rattle.types.specs.Usage.{RENDER_ATTACHMENT, STORAGE_BINDING, TRANSIENT_ATTACHMENT}
use Rattle.types.specs.declared.capabilities.Capabilities.{Capabilities}
use Rattle.types.specs.declared.descriptor.TextureDescriptor.{TextureDescriptor}
use Rattle.types.specs.declared.dimension.TextureDimension.{TextureDimension}
use Rattle.types.specs.declared.dimension.TextureDimension.TheVariants.{D1, D2, D3}
use Rattle.types.specs.declared.format.TextureFormat.{TextureFormat}

-- A device of which WebGPU speaks: views may have other formats, and wgpu's own features are off. MULTIVIEW plays no part in a
-- texture. A host takes 16 levels, which is enough where no side is longer than 65,535.
pub record WebGpuDevice (device : Capabilities) : Type 0 where
  pub view_formats : contains device.downlevel_flags.0 VIEW_FORMATS ≡ true
  pub no_nv12 : contains device.features.0 NV12_FORMAT ≡ false
  pub no_multisample_array : contains device.features.0 MULTISAMPLE_ARRAY ≡ false
  pub sides_2d : device.limits.max_texture_dimension_2d ≤ 65535
  pub sides_3d : device.limits.max_texture_dimension_3d ≤ 65535

module _ (device : Capabilities) where
  -- the device has the feature that a format needs
  abbrev pub Enabled : TextureFormat → Type 0
  Enabled f = contains device.features.0 (required_features_of f) ≡ true

  abbrev pub Renderable : TextureFormat → Type 0
  Renderable f = contains (guaranteed_features f device.features.0).allowed_usages.0 RENDER_ATTACHMENT ≡ true

  -- storage with one way of access at least: reading, writing or both
  abbrev pub Storable : TextureFormat → Type 0
  Storable f = intersects (guaranteed_features f device.features.0).flags.0 112 ≡ true

  abbrev pub Multisamplable : TextureFormat → Type 0
  Multisamplable f = contains (guaranteed_features f device.features.0).flags.0 X4 ≡ true

  -- a compressed format can be 3D where its family can be sliced
  abbrev pub Sliceable : TextureFormat → Type 0
  Sliceable f =
      ((is_bcn f ≡ true) × (contains device.features.0 BC_SLICED_3D ≡ true))
      ⊎ ((is_astc f ≡ true) × (contains device.features.0 ASTC_SLICED_3D ≡ true))

-- equal, or different in the -srgb suffix alone
abbrev pub Compatible : TextureFormat → TextureFormat → Type 0
Compatible f view = (view ≡ f) ⊎ (twin_of f ≡ Some view)

abbrev pub width : TextureDescriptor → ℕ
width d = d.size.width

abbrev pub height : TextureDescriptor → ℕ
height d = d.size.height

-- the depth of a 3D texture, the layers of a 2D one
abbrev pub depth : TextureDescriptor → ℕ
depth d = d.size.depth_or_array_layers

abbrev pub levels : TextureDescriptor → ℕ
levels d = d.mip_level_count

abbrev pub samples : TextureDescriptor → ℕ
samples d = d.sample_count

abbrev pub Has : TextureDescriptor → ℕ → Type 0
Has d usage = contains d.usage.0 usage ≡ true

pub record Rules1D (device : Capabilities) (d : TextureDescriptor) : Type 0 where
  pub width_limit : width d ≤ device.limits.max_texture_dimension_1d
  pub one_row : height d ≡ 1
  pub one_slice : depth d ≡ 1
  pub one_sample : samples d ≡ 1
  pub not_compressed : is_compressed d.format ≡ false
  pub no_depth_stencil : is_depth_stencil d.format ≡ false

pub record Rules2D (device : Capabilities) (d : TextureDescriptor) : Type 0 where
  pub width_limit : width d ≤ device.limits.max_texture_dimension_2d
  pub height_limit : height d ≤ device.limits.max_texture_dimension_2d
  pub layer_limit : depth d ≤ device.limits.max_texture_array_layers

pub record Rules3D (device : Capabilities) (d : TextureDescriptor) : Type 0 where
  pub width_limit : width d ≤ device.limits.max_texture_dimension_3d
  pub height_limit : height d ≤ device.limits.max_texture_dimension_3d
  pub depth_limit : depth d ≤ device.limits.max_texture_dimension_3d
  pub one_sample : samples d ≡ 1
  pub no_depth_stencil : is_depth_stencil d.format ≡ false
  pub compressed : is_compressed d.format ≡ true → Sliceable device d.format

abbrev pub DimensionRules : Capabilities → TextureDescriptor → TextureDimension → Type 0
DimensionRules device d D1 = Rules1D device d
DimensionRules device d D2 = Rules2D device d
DimensionRules device d D3 = Rules3D device d

pub record MultisampleRules (device : Capabilities) (d : TextureDescriptor) : Type 0 where
  pub one_level : levels d ≡ 1
  pub one_layer : depth d ≡ 1
  pub no_storage : contains d.usage.0 STORAGE_BINDING ≡ false
  pub attachment : Has d RENDER_ATTACHMENT
  pub format : Multisamplable device d.format

pub record TransientRules (d : TextureDescriptor) : Type 0 where
  -- TRANSIENT_ATTACHMENT and RENDER_ATTACHMENT, and nothing else
  pub usage : d.usage.0 ≡ 48
  pub two_dimensional : is_2d d.dimension ≡ true
  pub one_level : levels d ≡ 1
  pub one_layer : depth d ≡ 1
  pub no_view_formats : d.view_formats.now ≡ []

-- k is the whole part of the logarithm of n to the base 2
abbrev pub FloorLog2 : ℕ → ℕ → Type 0
FloorLog2 n k = (2 ^ k ≤ n) × (n < 2 ^ (k + 1))

-- the level count is within the maximum: one in 1D, else one more than the logarithm of the largest side
abbrev pub LevelsWithin : TextureDescriptor → TextureDimension → Type 0
LevelsWithin d D1 = levels d ≤ 1
LevelsWithin d D2 = (k : ℕ) × FloorLog2 (largest_side d.size D2) k × (levels d ≤ k + 1)
LevelsWithin d D3 = (k : ℕ) × FloorLog2 (largest_side d.size D3) k × (levels d ≤ k + 1)

pub record Accepts (device : Capabilities) (d : TextureDescriptor) : Type 0 where
  pub format_enabled : Enabled device d.format
  pub view_formats_enabled : AllByRecursion (Enabled device) d.view_formats.now
  pub usage_not_empty : 0 < d.usage.0
  pub usage_known : contains WEBGPU_USAGES d.usage.0 ≡ true
  pub width_positive : 0 < width d
  pub height_positive : 0 < height d
  pub depth_positive : 0 < depth d
  pub levels_positive : 0 < levels d
  pub sample_count : (samples d ≡ 1) ⊎ (samples d ≡ 4)
  pub dimension_rules : DimensionRules device d d.dimension
  pub whole_blocks_across : width d % (block_dimensions d.format).0 ≡ 0
  pub whole_blocks_down : height d % (block_dimensions d.format).1 ≡ 0
  pub multisample_rules : 1 < samples d → MultisampleRules device d
  pub levels_within : LevelsWithin d d.dimension
  pub rendering : Has d RENDER_ATTACHMENT → Renderable device d.format × (is_1d d.dimension ≡ false)
  pub storage : Has d STORAGE_BINDING → Storable device d.format
  pub transient_rules : Has d TRANSIENT_ATTACHMENT → TransientRules d
  pub view_formats_compatible : AllByRecursion (Compatible d.format) d.view_formats.now
