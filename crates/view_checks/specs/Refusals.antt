-- What the container is told of a refused view: its number, and the values that it carries.
use Rattle.std.specs.Prelude.{ℕ, Bool, false, ◌&&◌, ◌||◌, List, [], ◌∷◌, Ok, Err, Result, ◌==◌, nat_le}
use Rattle.types.specs.Aspect.{aspect_code}
use Rattle.types.specs.Dimension.{dimension_code, view_dimension_code}
use Rattle.types.specs.Format.{code_of}
use Rattle.view_checks.specs.declared.error.CreateTextureViewError.{CreateTextureViewError}
use Rattle.view_checks.specs.declared.error.CreateTextureViewError.TheVariants.{InvalidTransientTextureViewUsage, InvalidTextureViewUsage, MissingFeatures, TextureViewFormatNotRenderable, TextureViewFormatNotStorage, InvalidAspect, FormatReinterpretation, InvalidMultisampledTextureViewDimension, InvalidTextureViewDimension, InvalidArrayLayerCount, InvalidCubemapTextureDepth, InvalidCubemapArrayTextureDepth, InvalidCubeTextureViewSize, ZeroMipLevelCount, TooManyMipLevels, ZeroArrayLayerCount, TooManyArrayLayers}

abbrev pub number_of : CreateTextureViewError → ℕ
number_of (MissingFeatures missing) = 12
number_of (InvalidTransientTextureViewUsage texture view) = 33
number_of (InvalidTextureViewUsage view texture) = 34
number_of (TextureViewFormatNotRenderable format) = 35
number_of (TextureViewFormatNotStorage format) = 36
number_of (InvalidAspect format aspect) = 37
number_of (FormatReinterpretation texture view) = 38
number_of (InvalidMultisampledTextureViewDimension dimension) = 39
number_of (InvalidTextureViewDimension view texture) = 40
number_of (InvalidArrayLayerCount requested dimension) = 41
number_of (InvalidCubemapTextureDepth depth) = 42
number_of (InvalidCubemapArrayTextureDepth depth) = 43
number_of InvalidCubeTextureViewSize = 44
number_of ZeroMipLevelCount = 45
number_of (TooManyMipLevels first count total) = 46
number_of ZeroArrayLayerCount = 47
number_of (TooManyArrayLayers first count total) = 48

abbrev pub values_of : CreateTextureViewError → List ℕ
values_of (MissingFeatures missing) = missing.0.0 ∷ []
values_of (InvalidTransientTextureViewUsage texture view) = texture.0 ∷ view.0 ∷ []
values_of (InvalidTextureViewUsage view texture) = view.0 ∷ texture.0 ∷ []
values_of (TextureViewFormatNotRenderable format) = code_of format ∷ []
values_of (TextureViewFormatNotStorage format) = code_of format ∷ []
values_of (InvalidAspect format aspect) = code_of format ∷ aspect_code aspect ∷ []
values_of (FormatReinterpretation texture view) = code_of texture ∷ code_of view ∷ []
values_of (InvalidMultisampledTextureViewDimension dimension) = view_dimension_code dimension ∷ []
values_of (InvalidTextureViewDimension view texture) = view_dimension_code view ∷ dimension_code texture ∷ []
values_of (InvalidArrayLayerCount requested dimension) = requested ∷ view_dimension_code dimension ∷ []
values_of (InvalidCubemapTextureDepth depth) = depth ∷ []
values_of (InvalidCubemapArrayTextureDepth depth) = depth ∷ []
values_of InvalidCubeTextureViewSize = []
values_of ZeroMipLevelCount = []
values_of (TooManyMipLevels first count total) = first ∷ count ∷ total ∷ []
values_of ZeroArrayLayerCount = []
values_of (TooManyArrayLayers first count total) = first ∷ count ∷ total ∷ []

-- an answer that is a refusal with 12, or with a number from 33 to 48
abbrev pub refused_as_view : {X : Type 0} → Result X CreateTextureViewError → Bool
refused_as_view (Ok x) = false
refused_as_view (Err e) = number_of e == 12 || (nat_le 33 (number_of e) && nat_le (number_of e) 48)
