-- The checks of a texture request, in their order. Each line is a test that a request fails and the refusal for it; the headings
-- have the refusals' numbers.
use Rattle.std.specs.Prelude.{ℕ, ◌-◌, ◌*◌, ◌%◌, ◌^◌, Bool, true, false, if◌then◌else◌, not, ◌&&◌, ◌||◌, List, [], ◌∷◌, ◌++◌, map, Some, None, Option, ◌==◌, bit_and, count_ones, nat_lt}
use Rattle.checks.specs.Check.{Check, refuse}
use Rattle.checks.specs.declared.error.CreateTextureError.{CreateTextureError}
use Rattle.checks.specs.declared.error.CreateTextureError.TheVariants.{InvalidUsage, InvalidDimension, InvalidDepthDimension, InvalidDimensionUsages, InvalidCompressedDimension, MissingFeatures, InvalidMipLevelCount, InvalidTransientTextureUsage, InvalidTransientTextureMipLevelCount, InvalidTransientTextureLayerCount, InvalidTransientTextureViewFormats, InvalidMultisampledStorageBinding, MultisampledNotRenderAttachment, InvalidMultisampledFormat, InvalidSampleCount, InvalidFormatUsages, InvalidViewFormat, MissingDownlevelFlags}
use Rattle.checks.specs.declared.error.TextureDimensionError.{TextureDimensionError}
use Rattle.checks.specs.declared.error.TextureDimensionError.TheVariants.{Zero, LimitExceeded, InvalidSampleCount as BadSampleCount, NotMultipleOfBlockWidth, NotMultipleOfBlockHeight, WidthNotMultipleOf, HeightNotMultipleOf, MultisampledDepthOrArrayLayer}
use Rattle.checks.specs.declared.error.TextureErrorDimension.{TextureErrorDimension}
use Rattle.checks.specs.declared.error.TextureErrorDimension.TheVariants.{X, Y, Z}
use Rattle.types.specs.Bits.{contains, intersects, difference}
use Rattle.types.specs.Dimension.{is_1d, is_2d, is_3d}
use Rattle.types.specs.Extent.{max_mips}
use Rattle.types.specs.Features.{BC_SLICED_3D, ASTC_SLICED_3D, MULTISAMPLE_ARRAY, VIEW_FORMATS}
use Rattle.types.specs.Format.{same_format}
use Rattle.types.specs.Formats.{block_dimensions, guaranteed_features, is_astc, is_bcn, is_compressed, is_depth_stencil, is_planar, required_features_of, size_multiple, twin_of}
use Rattle.types.specs.Samples.{MULTISAMPLED, sample_count_supported, supported_sample_counts}
use Rattle.types.specs.Usage.{ALL_USAGES, RENDER_ATTACHMENT, STORAGE_BINDING, TRANSIENT_ATTACHMENT}
use Rattle.types.specs.declared.capabilities.Capabilities.{Capabilities}
use Rattle.types.specs.declared.descriptor.TextureDescriptor.{TextureDescriptor}
use Rattle.types.specs.declared.dimension.TextureDimension.{TextureDimension}
use Rattle.types.specs.declared.dimension.TextureDimension.TheVariants.{D1, D2, D3}
use Rattle.types.specs.declared.extent.Extent3d.{Extent3d}
use Rattle.types.specs.declared.format.TextureFormat.{TextureFormat}
use Rattle.types.specs.declared.format.TextureFormat.TheVariants.{R8Unorm, Rg8Unorm}
use Rattle.types.specs.declared.limits.Limits.{Limits}
use Rattle.types.specs.declared.usages.TextureUsages.{TextureUsages}

-- ---- 3: the usage: none at all, or one that is not known

abbrev pub usage_checks : TextureUsages → List (Check CreateTextureError)
usage_checks usage = refuse (usage.0 == 0 || not (difference usage.0 ALL_USAGES == 0)) (InvalidUsage usage) ∷ []

-- ---- 4, 5, 6: the size and the sample count, against the limits of the dimension

-- the greatest width, height, and depth or layers
abbrev pub extent_limits : TextureDimension → Limits → ℕ × ℕ × ℕ
extent_limits D1 l = (l.max_texture_dimension_1d, 1, 1)
extent_limits D2 l = (l.max_texture_dimension_2d, l.max_texture_dimension_2d, l.max_texture_array_layers)
extent_limits D3 l = (l.max_texture_dimension_3d, l.max_texture_dimension_3d, l.max_texture_dimension_3d)

abbrev pub sample_limit : TextureDimension → ℕ
sample_limit D1 = 1
sample_limit D2 = 32
sample_limit D3 = 1

abbrev pub axis_checks : TextureErrorDimension → ℕ → ℕ → List (Check TextureDimensionError)
axis_checks side given limit =
    refuse (given == 0) (Zero side)
    ∷ refuse (nat_lt limit given) (LimitExceeded side given limit)
    ∷ []

-- a power of two within the limit
abbrev pub sample_checks : TextureDimension → ℕ → List (Check TextureDimensionError)
sample_checks dimension samples =
    refuse (samples == 0 || (nat_lt (sample_limit dimension) samples || not (count_ones samples == 1))) (BadSampleCount samples)
    ∷ []

abbrev pub size_checks : TextureDimension → Extent3d → ℕ → Limits → List (Check TextureDimensionError)
size_checks dimension size samples limits =
    axis_checks X size.width (extent_limits dimension limits).0
    ++ axis_checks Y size.height (extent_limits dimension limits).1
    ++ axis_checks Z size.depth_or_array_layers (extent_limits dimension limits).2
    ++ sample_checks dimension samples

-- the same, as refusals of a request
abbrev pub as_dimension : Check TextureDimensionError → Check CreateTextureError
as_dimension c = refuse c.fails (InvalidDimension c.refusal)

-- ---- 7, 8, 9, 8: what only some dimensions allow

abbrev pub dimension_checks : TextureDescriptor → List (Check CreateTextureError)
dimension_checks d =
    refuse (not (is_2d d.dimension) && is_depth_stencil d.format) (InvalidDepthDimension d.dimension d.format)
    ∷ refuse (not (is_2d d.dimension) && contains d.usage.0 TRANSIENT_ATTACHMENT) (InvalidDimensionUsages (record { 0 = TRANSIENT_ATTACHMENT }) d.dimension)
    ∷ refuse (is_1d d.dimension && is_compressed d.format) (InvalidCompressedDimension d.dimension d.format)
    ∷ refuse (is_1d d.dimension && contains d.usage.0 RENDER_ATTACHMENT) (InvalidDimensionUsages (record { 0 = RENDER_ATTACHMENT }) d.dimension)
    ∷ []

-- ---- 10, 11: whole blocks of compressed formats

abbrev pub multiple_of : ℕ → ℕ → Bool
multiple_of n of = n % of == 0

abbrev pub block_checks : TextureDescriptor → List (Check CreateTextureError)
block_checks d =
    refuse (is_compressed d.format && not (multiple_of d.size.width (block_dimensions d.format).0))
    (InvalidDimension (NotMultipleOfBlockWidth d.size.width (block_dimensions d.format).0 d.format))
    ∷ refuse (is_compressed d.format && not (multiple_of d.size.height (block_dimensions d.format).1))
    (InvalidDimension (NotMultipleOfBlockHeight d.size.height (block_dimensions d.format).1 d.format))
    ∷ []

-- ---- 12: a feature that is not on, refused for a format
abbrev pub feature_checks : ℕ → TextureFormat → ℕ → List (Check CreateTextureError)
feature_checks features format needed =
    refuse (not (contains features needed)) (MissingFeatures format (record { 0 = record { 0 = needed } })) ∷ []

-- ---- 12, 12, 9: compressed formats in 3D: the device has to slice them

abbrev pub is_sliced : TextureDescriptor → Bool
is_sliced d = is_3d d.dimension && is_compressed d.format

abbrev pub sliced_checks : ℕ → TextureDescriptor → List (Check CreateTextureError)
sliced_checks features d =
    refuse (is_sliced d && (is_bcn d.format && not (contains features BC_SLICED_3D))) (MissingFeatures d.format (record { 0 = record { 0 = BC_SLICED_3D } }))
    ∷ refuse (is_sliced d && (is_astc d.format && not (contains features ASTC_SLICED_3D))) (MissingFeatures d.format (record { 0 = record { 0 = ASTC_SLICED_3D } }))
    ∷ refuse (is_sliced d && (not (is_bcn d.format) && not (is_astc d.format))) (InvalidCompressedDimension d.dimension d.format)
    ∷ []

-- ---- 13, 14, 15: levels, and the multiples that the size is of

-- each further level of a planar format doubles the multiple
abbrev pub level_multiple : TextureFormat → ℕ → ℕ × ℕ
level_multiple f levels =
    if is_planar f then ((size_multiple f).0 * 2 ^ (levels - 1), (size_multiple f).1 * 2 ^ (levels - 1)) else size_multiple f

abbrev pub level_checks : TextureDescriptor → List (Check CreateTextureError)
level_checks d =
    refuse (d.mip_level_count == 0 || nat_lt (max_mips d.size d.dimension) d.mip_level_count)
    (InvalidMipLevelCount d.mip_level_count (max_mips d.size d.dimension))
    ∷ refuse (not (multiple_of d.size.width (level_multiple d.format d.mip_level_count).0))
    (InvalidDimension (WidthNotMultipleOf d.size.width (level_multiple d.format d.mip_level_count).0 d.format))
    ∷ refuse (not (multiple_of d.size.height (level_multiple d.format d.mip_level_count).1))
    (InvalidDimension (HeightNotMultipleOf d.size.height (level_multiple d.format d.mip_level_count).1 d.format))
    ∷ []

-- ---- 16 to 19: transient attachments

abbrev pub is_empty : List TextureFormat → Bool
is_empty [] = true
is_empty (_ ∷ _) = false

abbrev pub is_transient : TextureDescriptor → Bool
is_transient d = contains d.usage.0 TRANSIENT_ATTACHMENT

abbrev pub transient_checks : TextureDescriptor → List (Check CreateTextureError)
transient_checks d =
    refuse (is_transient d && not (d.usage.0 == 48)) (InvalidTransientTextureUsage d.usage)
    ∷ refuse (is_transient d && not (d.mip_level_count == 1)) (InvalidTransientTextureMipLevelCount d.mip_level_count)
    ∷ refuse (is_transient d && not (d.size.depth_or_array_layers == 1)) (InvalidTransientTextureLayerCount d.size.depth_or_array_layers)
    ∷ refuse (is_transient d && not (is_empty d.view_formats.now)) InvalidTransientTextureViewFormats
    ∷ []

-- ---- 13, 20 to 24: more samples than one

abbrev pub is_multisampled : TextureDescriptor → Bool
is_multisampled d = nat_lt 1 d.sample_count

abbrev pub multisample_checks : ℕ → ℕ → TextureDescriptor → List (Check CreateTextureError)
multisample_checks features flags d =
    refuse (is_multisampled d && not (d.mip_level_count == 1)) (InvalidMipLevelCount d.mip_level_count 1)
    ∷ refuse (is_multisampled d && (not (d.size.depth_or_array_layers == 1) && not (contains features MULTISAMPLE_ARRAY)))
    (InvalidDimension (MultisampledDepthOrArrayLayer d.size.depth_or_array_layers))
    ∷ refuse (is_multisampled d && contains d.usage.0 STORAGE_BINDING) InvalidMultisampledStorageBinding
    ∷ refuse (is_multisampled d && not (contains d.usage.0 RENDER_ATTACHMENT)) MultisampledNotRenderAttachment
    ∷ refuse (is_multisampled d && not (intersects flags MULTISAMPLED)) (InvalidMultisampledFormat d.format)
    ∷ refuse (is_multisampled d && not (sample_count_supported flags d.sample_count))
    (InvalidSampleCount d.sample_count d.format (supported_sample_counts flags))
    ∷ []

-- ---- 25: the usage against the format

-- what a planar format allows is what both of its planes allow
abbrev pub allowed_usages_of : ℕ → TextureFormat → ℕ
allowed_usages_of features f =
    if is_planar f then bit_and (guaranteed_features R8Unorm features).allowed_usages.0 (guaranteed_features Rg8Unorm features).allowed_usages.0
    else (guaranteed_features f features).allowed_usages.0

abbrev pub format_usage_checks : ℕ → TextureDescriptor → List (Check CreateTextureError)
format_usage_checks features d =
    refuse (not (difference d.usage.0 (allowed_usages_of features d.format) == 0))
    (InvalidFormatUsages (record { 0 = difference d.usage.0 (allowed_usages_of features d.format) }) d.format
    (difference d.usage.0 (guaranteed_features d.format features).allowed_usages.0 == 0))
    ∷ []

-- ---- 26, 27: view formats: each is the format itself or its twin

abbrev pub is_this : Option TextureFormat → TextureFormat → Bool
is_this None g = false
is_this (Some f) g = same_format f g

abbrev pub is_twin : TextureFormat → TextureFormat → Bool
is_twin f g = is_this (twin_of f) g

-- a view format that is neither the format nor its twin
abbrev pub view_format_check : TextureFormat → TextureFormat → Check CreateTextureError
view_format_check f view = refuse (not (same_format view f) && not (is_twin f view)) (InvalidViewFormat view f)

abbrev pub each_view_format : TextureFormat → List TextureFormat → List (Check CreateTextureError)
each_view_format f views = map (view_format_check f) views

abbrev pub is_twin_listed : TextureFormat → List TextureFormat → Bool
is_twin_listed f [] = false
is_twin_listed f (view ∷ views) = is_twin f view || is_twin_listed f views

abbrev pub downlevel_checks : ℕ → TextureFormat → List TextureFormat → List (Check CreateTextureError)
downlevel_checks flags f views =
    refuse (is_twin_listed f views && not (contains flags VIEW_FORMATS)) (MissingDownlevelFlags (record { 0 = record { 0 = VIEW_FORMATS } })) ∷ []

abbrev pub view_format_checks : ℕ → TextureFormat → List TextureFormat → List (Check CreateTextureError)
view_format_checks flags f views = each_view_format f views ++ downlevel_checks flags f views

-- ---- all of them

abbrev pub shape_checks : Capabilities → TextureDescriptor → List (Check CreateTextureError)
shape_checks device d =
    usage_checks d.usage
    ++ map as_dimension (size_checks d.dimension d.size d.sample_count device.limits)
    ++ dimension_checks d
    ++ block_checks d
    ++ sliced_checks device.features.0 d

abbrev pub mip_checks : TextureDescriptor → List (Check CreateTextureError)
mip_checks d = level_checks d ++ transient_checks d

abbrev pub format_checks : ℕ → TextureDescriptor → List (Check CreateTextureError)
format_checks features d =
    feature_checks features d.format (required_features_of d.format)
    ++ multisample_checks features (guaranteed_features d.format features).flags.0 d
    ++ format_usage_checks features d

abbrev pub create_checks : Capabilities → TextureDescriptor → List (Check CreateTextureError)
create_checks device d =
    shape_checks device d
    ++ mip_checks d
    ++ format_checks device.features.0 d
    ++ view_format_checks device.downlevel_flags.0 d.format d.view_formats.now
