-- What the container is told of a refusal: its number, and the values that it carries.
use Rattle.std.specs.Prelude.{ℕ, Bool, true, false, ◌&&◌, List, [], ◌∷◌, Ok, Err, Result, nat_le}
use Rattle.checks.specs.declared.error.CreateTextureError.{CreateTextureError}
use Rattle.checks.specs.declared.error.CreateTextureError.TheVariants.{InvalidUsage, InvalidDimension, InvalidDepthDimension, InvalidDimensionUsages, InvalidCompressedDimension, MissingFeatures, InvalidMipLevelCount, InvalidTransientTextureUsage, InvalidTransientTextureMipLevelCount, InvalidTransientTextureLayerCount, InvalidTransientTextureViewFormats, InvalidMultisampledStorageBinding, MultisampledNotRenderAttachment, InvalidMultisampledFormat, InvalidSampleCount, InvalidFormatUsages, InvalidViewFormat, MissingDownlevelFlags}
use Rattle.checks.specs.declared.error.TextureDimensionError.{TextureDimensionError}
use Rattle.checks.specs.declared.error.TextureDimensionError.TheVariants.{Zero, LimitExceeded, InvalidSampleCount as BadSampleCount, NotMultipleOfBlockWidth, NotMultipleOfBlockHeight, WidthNotMultipleOf, HeightNotMultipleOf, MultisampledDepthOrArrayLayer}
use Rattle.checks.specs.declared.error.TextureErrorDimension.{TextureErrorDimension}
use Rattle.checks.specs.declared.error.TextureErrorDimension.TheVariants.{X, Y, Z}
use Rattle.checks.specs.declared.refusal.Values.{Values}
use Rattle.checks.specs.declared.refusal.Values.TheVariants.{Nothing, One, Two, Three}
use Rattle.types.specs.Dimension.{dimension_code}
use Rattle.types.specs.Format.{code_of}

-- width, height, and depth or layers
abbrev pub side_code : TextureErrorDimension → ℕ
side_code X = 1
side_code Y = 2
side_code Z = 3

abbrev pub yes : Bool → ℕ
yes true = 1
yes false = 0

abbrev pub listed : Values → List ℕ
listed Nothing = []
listed (One a) = a ∷ []
listed (Two a b) = a ∷ b ∷ []
listed (Three a b c) = a ∷ b ∷ c ∷ []

abbrev pub dimension_number : TextureDimensionError → ℕ
dimension_number (Zero side) = 4
dimension_number (LimitExceeded side given limit) = 5
dimension_number (BadSampleCount count) = 6
dimension_number (NotMultipleOfBlockWidth width block format) = 10
dimension_number (NotMultipleOfBlockHeight height block format) = 11
dimension_number (WidthNotMultipleOf width multiple format) = 14
dimension_number (HeightNotMultipleOf height multiple format) = 15
dimension_number (MultisampledDepthOrArrayLayer layers) = 20

abbrev pub dimension_values : TextureDimensionError → List ℕ
dimension_values (Zero side) = side_code side ∷ []
dimension_values (LimitExceeded side given limit) = side_code side ∷ given ∷ limit ∷ []
dimension_values (BadSampleCount count) = count ∷ []
dimension_values (NotMultipleOfBlockWidth width block format) = width ∷ block ∷ code_of format ∷ []
dimension_values (NotMultipleOfBlockHeight height block format) = height ∷ block ∷ code_of format ∷ []
dimension_values (WidthNotMultipleOf width multiple format) = width ∷ multiple ∷ code_of format ∷ []
dimension_values (HeightNotMultipleOf height multiple format) = height ∷ multiple ∷ code_of format ∷ []
dimension_values (MultisampledDepthOrArrayLayer layers) = layers ∷ []

abbrev pub number_of : CreateTextureError → ℕ
number_of (InvalidUsage usage) = 3
number_of (InvalidDimension error) = dimension_number error
number_of (InvalidDepthDimension dimension format) = 7
number_of (InvalidDimensionUsages usage dimension) = 8
number_of (InvalidCompressedDimension dimension format) = 9
number_of (MissingFeatures format missing) = 12
number_of (InvalidMipLevelCount requested maximum) = 13
number_of (InvalidTransientTextureUsage usage) = 16
number_of (InvalidTransientTextureMipLevelCount levels) = 17
number_of (InvalidTransientTextureLayerCount layers) = 18
number_of InvalidTransientTextureViewFormats = 19
number_of InvalidMultisampledStorageBinding = 21
number_of MultisampledNotRenderAttachment = 22
number_of (InvalidMultisampledFormat format) = 23
number_of (InvalidSampleCount count format supported) = 24
number_of (InvalidFormatUsages missing format allowed) = 25
number_of (InvalidViewFormat view format) = 26
number_of (MissingDownlevelFlags missing) = 27

abbrev pub values_of : CreateTextureError → List ℕ
values_of (InvalidUsage usage) = usage.0 ∷ []
values_of (InvalidDimension error) = dimension_values error
values_of (InvalidDepthDimension dimension format) = dimension_code dimension ∷ code_of format ∷ []
values_of (InvalidDimensionUsages usage dimension) = usage.0 ∷ dimension_code dimension ∷ []
values_of (InvalidCompressedDimension dimension format) = dimension_code dimension ∷ code_of format ∷ []
values_of (MissingFeatures format missing) = code_of format ∷ missing.0.0 ∷ []
values_of (InvalidMipLevelCount requested maximum) = requested ∷ maximum ∷ []
values_of (InvalidTransientTextureUsage usage) = usage.0 ∷ []
values_of (InvalidTransientTextureMipLevelCount levels) = levels ∷ []
values_of (InvalidTransientTextureLayerCount layers) = layers ∷ []
values_of InvalidTransientTextureViewFormats = []
values_of InvalidMultisampledStorageBinding = []
values_of MultisampledNotRenderAttachment = []
values_of (InvalidMultisampledFormat format) = code_of format ∷ []
values_of (InvalidSampleCount count format supported) = count ∷ code_of format ∷ supported ∷ []
values_of (InvalidFormatUsages missing format allowed) = missing.0 ∷ code_of format ∷ yes allowed ∷ []
values_of (InvalidViewFormat view format) = code_of view ∷ code_of format ∷ []
values_of (MissingDownlevelFlags missing) = missing.0.0 ∷ []

-- an answer that is a refusal with a number from the first to the last
abbrev pub refused_by : {X : Type 0} → ℕ → ℕ → Result X CreateTextureError → Bool
refused_by first last (Ok x) = false
refused_by first last (Err e) = nat_le first (number_of e) && nat_le (number_of e) last
