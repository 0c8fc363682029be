-- What the answer to a view request tells of WebGPU's conditions.
use Rattle.std.proofs.Common.{◌≡◌, true, false, not, Ok, Err, Decides, Result, sym, refl, ap, ◌∙◌}
use Rattle.std.proofs.lemmas.Bool.{false≢true}
use Rattle.checks.proofs.Apart.{ok_not_err}
use Rattle.checks.proofs.Passed.{all_pass, from_all}
use Rattle.checks.specs.Check.{as_outcome, outcome}
use Rattle.types.specs.Bits.{contains}
use Rattle.types.specs.Features.{MULTISAMPLE_ARRAY}
use Rattle.types.specs.declared.capabilities.Capabilities.{Capabilities}
use Rattle.types.specs.declared.texture.Texture.{Texture}
use Rattle.types.specs.declared.view.TextureView.{TextureView}
use Rattle.view_checks.proofs.WebGpu.{accepts, checks_pass}
use Rattle.view_checks.specs.Checks.{view_checks}
use Rattle.view_checks.specs.Refusals.{refused_as_view}
use Rattle.view_checks.specs.WebGpu.{Accepts}
use Rattle.view_checks.specs.declared.error.CreateTextureViewError.{CreateTextureViewError}
use Rattle.view_checks.specs.declared.error.CreateTextureViewError.TheVariants.{InvalidTransientTextureViewUsage, InvalidTextureViewUsage, MissingFeatures, TextureViewFormatNotRenderable, TextureViewFormatNotStorage, InvalidAspect, FormatReinterpretation, InvalidMultisampledTextureViewDimension, InvalidTextureViewDimension, InvalidArrayLayerCount, InvalidCubemapTextureDepth, InvalidCubemapArrayTextureDepth, InvalidCubeTextureViewSize, ZeroMipLevelCount, TooManyMipLevels, ZeroArrayLayerCount, TooManyArrayLayers}
use Rattle.view_checks.specs.declared.resolve.ResolvedView.{ResolvedView}

-- every refusal of the checks has the number 12, or one from 33 to 48
numbered : (e : CreateTextureViewError) → refused_as_view {X = TextureView} (Err e) ≡ true
numbered (InvalidTransientTextureViewUsage a b) = refl
numbered (InvalidTextureViewUsage a b) = refl
numbered (MissingFeatures m) = refl
numbered (TextureViewFormatNotRenderable f) = refl
numbered (TextureViewFormatNotStorage f) = refl
numbered (InvalidAspect f a) = refl
numbered (FormatReinterpretation f g) = refl
numbered (InvalidMultisampledTextureViewDimension d) = refl
numbered (InvalidTextureViewDimension d e) = refl
numbered (InvalidArrayLayerCount n d) = refl
numbered (InvalidCubemapTextureDepth n) = refl
numbered (InvalidCubemapArrayTextureDepth n) = refl
numbered InvalidCubeTextureViewSize = refl
numbered ZeroMipLevelCount = refl
numbered (TooManyMipLevels a b c) = refl
numbered ZeroArrayLayerCount = refl
numbered (TooManyArrayLayers a b c) = refl

module _ (device : Capabilities) (t : Texture) (v : ResolvedView) (no_arrays : contains device.features.0 MULTISAMPLE_ARRAY ≡ false) where
  pub decided : (r : Result TextureView CreateTextureViewError) → as_outcome r ≡ outcome (view_checks device.features.0 t v)
      → Decides (not (refused_as_view r)) (Accepts device t v)
  decided (Ok view) h = (λ _. accepts device t v no_arrays (all_pass (view_checks device.features.0 t v) h), λ _. refl)
  decided (Err e) h = (
    λ p. absurd (false≢true (sym (ap not (numbered e)) ∙ p)),
    λ a. absurd (ok_not_err (from_all (view_checks device.features.0 t v) (checks_pass device t v no_arrays a) ∙ sym h)),
  )
