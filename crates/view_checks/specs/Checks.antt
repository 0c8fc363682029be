-- The checks of a view request whose omitted fields are filled in, in their order. Each line is a test that a request fails and the
-- refusal for it; the headings have the refusals' numbers.
use Rattle.std.specs.Prelude.{ℕ, ◌+◌, Bool, true, false, not, ◌&&◌, ◌||◌, List, [], ◌∷◌, ◌++◌, ◌==◌, nat_lt}
use Rattle.checks.specs.Check.{Check, refuse}
use Rattle.checks.specs.Checks.{is_this, is_twin, multiple_of}
use Rattle.types.specs.Bits.{contains}
use Rattle.types.specs.Dimension.{dimension_code, texture_dimension}
use Rattle.types.specs.Features.{MULTISAMPLE_ARRAY}
use Rattle.types.specs.Format.{same_format}
use Rattle.types.specs.Formats.{guaranteed_features, part_of, required_features_of, selected_aspects}
use Rattle.types.specs.Textures.{layers_of}
use Rattle.types.specs.Usage.{RENDER_ATTACHMENT, STORAGE_BINDING, TRANSIENT_ATTACHMENT}
use Rattle.types.specs.declared.aspect.TextureAspect.{TextureAspect}
use Rattle.types.specs.declared.aspect.TextureAspect.TheVariants.{All, DepthOnly, StencilOnly, Plane0, Plane1}
use Rattle.types.specs.declared.dimension.TextureViewDimension.{TextureViewDimension}
use Rattle.types.specs.declared.dimension.TextureViewDimension.TheVariants.{D1, D2, D2Array, Cube, CubeArray, D3}
use Rattle.types.specs.declared.format.TextureFormat.{TextureFormat}
use Rattle.types.specs.declared.texture.Texture.{Texture}
use Rattle.types.specs.declared.usages.TextureUsages.{TextureUsages}
use Rattle.view_checks.specs.declared.error.CreateTextureViewError.{CreateTextureViewError}
use Rattle.view_checks.specs.declared.error.CreateTextureViewError.TheVariants.{InvalidTransientTextureViewUsage, InvalidTextureViewUsage, MissingFeatures, TextureViewFormatNotRenderable, TextureViewFormatNotStorage, InvalidAspect, FormatReinterpretation, InvalidMultisampledTextureViewDimension, InvalidTextureViewDimension, InvalidArrayLayerCount, InvalidCubemapTextureDepth, InvalidCubemapArrayTextureDepth, InvalidCubeTextureViewSize, ZeroMipLevelCount, TooManyMipLevels, ZeroArrayLayerCount, TooManyArrayLayers}
use Rattle.view_checks.specs.declared.resolve.ResolvedView.{ResolvedView}

-- ---- 33, 34: the usage: all of a transient attachment's, a part of any other texture's

abbrev pub usage_checks : TextureUsages → TextureUsages → List (Check CreateTextureViewError)
usage_checks texture view =
    refuse (contains texture.0 view.0 && (contains texture.0 TRANSIENT_ATTACHMENT && not (view.0 == texture.0))) (InvalidTransientTextureViewUsage texture view)
    ∷ refuse (not (contains texture.0 view.0)) (InvalidTextureViewUsage view texture)
    ∷ []

-- ---- 12, 35, 36: the format against the device and the usage

abbrev pub allowed_usages_of : ℕ → TextureFormat → ℕ
allowed_usages_of features f = (guaranteed_features f features).allowed_usages.0

abbrev pub ability_checks : ℕ → ResolvedView → List (Check CreateTextureViewError)
ability_checks features v =
    refuse (not (contains features (required_features_of v.format))) (MissingFeatures (record { 0 = record { 0 = required_features_of v.format } }))
    ∷ refuse (contains v.usage.0 RENDER_ATTACHMENT && not (contains (allowed_usages_of features v.format) RENDER_ATTACHMENT))
    (TextureViewFormatNotRenderable v.format)
    ∷ refuse (contains v.usage.0 STORAGE_BINDING && not (contains (allowed_usages_of features v.format) STORAGE_BINDING))
    (TextureViewFormatNotStorage v.format)
    ∷ []

-- ---- 37, 38: the aspect and the format against the texture

abbrev pub is_all : TextureAspect → Bool
is_all All = true
is_all DepthOnly = false
is_all StencilOnly = false
is_all Plane0 = false
is_all Plane1 = false

-- all aspects: the texture's format, or its twin if that was listed; one aspect: its part of the texture's format
abbrev pub format_fits : Texture → TextureAspect → TextureFormat → Bool
format_fits t All format = same_format format t.format || (t.twin_listed && is_twin t.format format)
format_fits t DepthOnly format = is_this (part_of t.format DepthOnly) format
format_fits t StencilOnly format = is_this (part_of t.format StencilOnly) format
format_fits t Plane0 format = is_this (part_of t.format Plane0) format
format_fits t Plane1 format = is_this (part_of t.format Plane1) format

abbrev pub aspect_checks : Texture → ResolvedView → List (Check CreateTextureViewError)
aspect_checks t v =
    refuse (selected_aspects t.format v.aspect == 0) (InvalidAspect t.format v.aspect)
    ∷ refuse (not (format_fits t v.aspect v.format)) (FormatReinterpretation t.format v.format)
    ∷ []

-- ---- 39, 40: the dimension against the texture

-- several samples are viewed as one image, or as an array on a device that has MULTISAMPLE_ARRAY
abbrev pub can_be_multisampled : ℕ → TextureViewDimension → Bool
can_be_multisampled features D1 = false
can_be_multisampled features D2 = true
can_be_multisampled features D2Array = contains features MULTISAMPLE_ARRAY
can_be_multisampled features Cube = false
can_be_multisampled features CubeArray = false
can_be_multisampled features D3 = false

-- ---- 41 to 44: the dimension against the layers and the sides

abbrev pub has_one_layer : TextureViewDimension → Bool
has_one_layer D1 = true
has_one_layer D2 = true
has_one_layer D2Array = false
has_one_layer Cube = false
has_one_layer CubeArray = false
has_one_layer D3 = true

abbrev pub is_cube : TextureViewDimension → Bool
is_cube D1 = false
is_cube D2 = false
is_cube D2Array = false
is_cube Cube = true
is_cube CubeArray = false
is_cube D3 = false

abbrev pub is_cube_array : TextureViewDimension → Bool
is_cube_array D1 = false
is_cube_array D2 = false
is_cube_array D2Array = false
is_cube_array Cube = false
is_cube_array CubeArray = true
is_cube_array D3 = false

abbrev pub dimension_checks : ℕ → Texture → ResolvedView → List (Check CreateTextureViewError)
dimension_checks features t v =
    refuse (nat_lt 1 t.sample_count && not (can_be_multisampled features v.dimension)) (InvalidMultisampledTextureViewDimension v.dimension)
    ∷ refuse (not (dimension_code t.dimension == dimension_code (texture_dimension v.dimension)))
    (InvalidTextureViewDimension v.dimension t.dimension)
    ∷ refuse (has_one_layer v.dimension && not (v.array_layer_count == 1)) (InvalidArrayLayerCount v.array_layer_count v.dimension)
    ∷ refuse (is_cube v.dimension && not (v.array_layer_count == 6)) (InvalidCubemapTextureDepth v.array_layer_count)
    ∷ refuse (is_cube_array v.dimension && not (multiple_of v.array_layer_count 6)) (InvalidCubemapArrayTextureDepth v.array_layer_count)
    ∷ refuse ((is_cube v.dimension || is_cube_array v.dimension) && not (t.size.width == t.size.height)) InvalidCubeTextureViewSize
    ∷ []

-- ---- 45 to 48: levels and layers: some, and no more than the texture has. The ends are true sums.

-- so many from the first on, of a total
abbrev pub range_checks : ℕ → ℕ → ℕ → CreateTextureViewError → CreateTextureViewError → List (Check CreateTextureViewError)
range_checks first count total none too_many = refuse (count == 0) none ∷ refuse (nat_lt total (first + count)) too_many ∷ []

abbrev pub level_checks : Texture → ResolvedView → List (Check CreateTextureViewError)
level_checks t v =
    range_checks v.base_mip_level v.mip_level_count t.mip_level_count ZeroMipLevelCount
    (TooManyMipLevels v.base_mip_level v.mip_level_count t.mip_level_count)

abbrev pub layer_checks : Texture → ResolvedView → List (Check CreateTextureViewError)
layer_checks t v =
    range_checks v.base_array_layer v.array_layer_count (layers_of t) ZeroArrayLayerCount
    (TooManyArrayLayers v.base_array_layer v.array_layer_count (layers_of t))

-- ---- all of them

abbrev pub view_checks : ℕ → Texture → ResolvedView → List (Check CreateTextureViewError)
view_checks features t v =
    usage_checks t.usage v.usage
    ++ ability_checks features v
    ++ aspect_checks t v
    ++ dimension_checks features t v
    ++ level_checks t v
    ++ layer_checks t v
