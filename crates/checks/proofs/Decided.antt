-- What the answer to a request tells of WebGPU's conditions.
use Rattle.std.proofs.Common.{◌≡◌, Bool, true, not, Ok, Err, Decides, Result, sym, refl, ap, ◌∙◌, subst}
use Rattle.std.proofs.lemmas.Bool.{false≢true}
use Rattle.checks.proofs.Passed.{all_pass, from_all}
use Rattle.checks.proofs.WebGpu.{accepts, checks_pass}
use Rattle.checks.specs.Check.{outcome, answered, and_then}
use Rattle.checks.specs.Checks.{create_checks, is_twin_listed}
use Rattle.checks.specs.Refusals.{refused_by}
use Rattle.checks.specs.WebGpu.{Accepts, WebGpuDevice}
use Rattle.checks.specs.declared.error.CreateTextureError.{CreateTextureError}
use Rattle.checks.specs.declared.error.CreateTextureError.TheVariants.{InvalidUsage, InvalidDimension, InvalidDepthDimension, InvalidDimensionUsages, InvalidCompressedDimension, MissingFeatures, InvalidMipLevelCount, InvalidTransientTextureUsage, InvalidTransientTextureMipLevelCount, InvalidTransientTextureLayerCount, InvalidTransientTextureViewFormats, InvalidMultisampledStorageBinding, MultisampledNotRenderAttachment, InvalidMultisampledFormat, InvalidSampleCount, InvalidFormatUsages, InvalidViewFormat, MissingDownlevelFlags}
use Rattle.checks.specs.declared.error.TextureDimensionError.TheVariants.{Zero, LimitExceeded, InvalidSampleCount as BadSampleCount, NotMultipleOfBlockWidth, NotMultipleOfBlockHeight, WidthNotMultipleOf, HeightNotMultipleOf, MultisampledDepthOrArrayLayer}
use Rattle.types.specs.declared.capabilities.Capabilities.{Capabilities}
use Rattle.types.specs.declared.descriptor.TextureDescriptor.{TextureDescriptor}

-- every refusal of the checks has a number from 3 to 27
numbered : (e : CreateTextureError) → refused_by {X = Bool} 3 27 (Err e) ≡ true
numbered (InvalidUsage u) = refl
numbered (InvalidDimension (Zero side)) = refl
numbered (InvalidDimension (LimitExceeded side given limit)) = refl
numbered (InvalidDimension (BadSampleCount n)) = refl
numbered (InvalidDimension (NotMultipleOfBlockWidth w b f)) = refl
numbered (InvalidDimension (NotMultipleOfBlockHeight h b f)) = refl
numbered (InvalidDimension (WidthNotMultipleOf w m f)) = refl
numbered (InvalidDimension (HeightNotMultipleOf h m f)) = refl
numbered (InvalidDimension (MultisampledDepthOrArrayLayer n)) = refl
numbered (InvalidDepthDimension d f) = refl
numbered (InvalidDimensionUsages u d) = refl
numbered (InvalidCompressedDimension d f) = refl
numbered (MissingFeatures f m) = refl
numbered (InvalidMipLevelCount r m) = refl
numbered (InvalidTransientTextureUsage u) = refl
numbered (InvalidTransientTextureMipLevelCount n) = refl
numbered (InvalidTransientTextureLayerCount n) = refl
numbered InvalidTransientTextureViewFormats = refl
numbered InvalidMultisampledStorageBinding = refl
numbered MultisampledNotRenderAttachment = refl
numbered (InvalidMultisampledFormat f) = refl
numbered (InvalidSampleCount n f s) = refl
numbered (InvalidFormatUsages u f b) = refl
numbered (InvalidViewFormat g f) = refl
numbered (MissingDownlevelFlags m) = refl

module _ (v : Capabilities) (d : TextureDescriptor) where
  abbrev listed : Bool
  listed = is_twin_listed d.format d.view_formats.now

  passed : (o : Result Unit CreateTextureError) → not (refused_by 3 27 (and_then o (Ok listed))) ≡ true → Ok tt ≡ o
  passed (Ok u) h = refl
  passed (Err e) h = absurd (false≢true (sym (ap not (numbered e)) ∙ h))

  unrefused : (o : Result Unit CreateTextureError) → Ok tt ≡ o → not (refused_by 3 27 (and_then o (Ok listed))) ≡ true
  unrefused o h = subst (λ (p : Result Unit CreateTextureError). not (refused_by 3 27 (and_then p (Ok listed))) ≡ true) h refl

  pub decided : (r : Result Bool CreateTextureError) → r ≡ answered (create_checks v d) listed
      → WebGpuDevice v → Decides (not (refused_by 3 27 r)) (Accepts v d)
  decided r e w = (
    λ h. accepts v d w (all_pass (create_checks v d) (passed (outcome (create_checks v d)) (ap (λ (x : Result Bool CreateTextureError). not (refused_by 3 27 x)) (sym e) ∙ h))),
    λ a. ap (λ (x : Result Bool CreateTextureError). not (refused_by 3 27 x)) e
        ∙ unrefused (outcome (create_checks v d)) (from_all (create_checks v d) (checks_pass v d a w)),
  )
