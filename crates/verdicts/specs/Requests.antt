-- Requests of the file, and what the checks make of them.
use Rattle.std.specs.Prelude.{◌≡◌, is_some, IfSome, is_ok, vec_items}
use Rattle.types.specs.declared.capabilities.Capabilities.{Capabilities}
use Rattle.types.specs.declared.descriptor.TextureDescriptor.{TextureDescriptor}
use Rattle.types.specs.declared.texture.Texture.{Texture}
use Rattle.checks.specs.Accepted.{Kept}
use Rattle.checks.specs.Check.{outcome}
use Rattle.checks.specs.Checks.{create_checks}
use Rattle.checks.specs.Refusals.{number_of}
use Rattle.view_checks.specs.Checks.{view_checks}
use Rattle.view_checks.specs.Refusals.{number_of as view_number_of}
use Rattle.view_checks.specs.Resolved.{resolved}
use Rattle.answers.specs.declared.line.StoredAnswer.{StoredAnswer}
use Rattle.answers.specs.declared.line.TextureRequest.{TextureRequest}
use Rattle.types.specs.declared.view_descriptor.TextureViewDescriptor.{TextureViewDescriptor}
use Rattle.verdicts.specs.Verdicts.{refusal_of, verdict_of}
use Rattle.verdicts.specs.declared.judge.JudgedTexture.{JudgedTexture}
use Rattle.verdicts.specs.declared.verdict.Verdict.{Verdict}

-- the descriptor asks for what the request asks for
pub record Asks (t : TextureRequest) (d : TextureDescriptor) : Type 0 where
  pub size : d.size ≡ t.size
  pub levels : d.mip_level_count ≡ t.mip_level_count
  pub samples : d.sample_count ≡ t.sample_count
  pub dimension : d.dimension ≡ t.dimension
  pub format : d.format ≡ t.format
  pub usage : d.usage ≡ t.usage
  pub views : d.view_formats.now ≡ vec_items t.view_formats

-- the verdict on what the checks answer to a descriptor for the request, and what is kept of the texture where none of them fails
pub record Judged (device : Capabilities) (a : StoredAnswer TextureRequest) (d : TextureDescriptor) (judged : JudgedTexture) : Type 0 where
  pub asks : Asks a.request d
  pub verdict : judged.verdict ≡ verdict_of (refusal_of number_of (outcome (create_checks device d))) a.accepted
  pub made : is_some judged.texture ≡ is_ok (outcome (create_checks device d))
  pub texture : IfSome judged.texture (Kept device d)

abbrev pub TextureJudged : Capabilities → StoredAnswer TextureRequest → JudgedTexture → Type 0
TextureJudged device a judged = (d : TextureDescriptor) × Judged device a d judged

-- the verdict on what the checks answer to a view of the texture, its omitted fields filled in
abbrev pub view_verdict : Capabilities → Texture → StoredAnswer TextureViewDescriptor → Verdict
view_verdict device t a =
    verdict_of (refusal_of view_number_of (outcome (view_checks device.features.0 t (resolved t a.request)))) a.accepted
