-- What is promised of an answer follows from the checks and the view worked out.
use Rattle.std.proofs.Common.{◌≡◌, false, not, List, ◌++◌, IsErrAnd, IfOk, Ok, Err, Decides, Result, ◌∙◌, subst}
use Rattle.checks.proofs.Joins.{exits, stops, unmade}
use Rattle.checks.proofs.Passed.{all_pass}
use Rattle.checks.specs.Check.{Check, as_outcome, outcome}
use Rattle.types.specs.Bits.{contains}
use Rattle.types.specs.Features.{MULTISAMPLE_ARRAY}
use Rattle.types.specs.declared.capabilities.Capabilities.{Capabilities}
use Rattle.types.specs.declared.texture.Texture.{Texture}
use Rattle.types.specs.declared.view.TextureView.{TextureView}
use Rattle.types.specs.declared.view_descriptor.TextureViewDescriptor.{TextureViewDescriptor}
use Rattle.view_checks.proofs.Decided.{decided}
use Rattle.view_checks.proofs.Laws.{lawful}
use Rattle.view_checks.proofs.OneView.{only}
use Rattle.view_checks.specs.Checks.{view_checks}
use Rattle.view_checks.specs.Laws.{Lawful}
use Rattle.view_checks.specs.Refusals.{refused_as_view}
use Rattle.view_checks.specs.Resolved.{resolved}
use Rattle.view_checks.specs.Views.{OnlyView, WorkedOut}
use Rattle.view_checks.specs.WebGpu.{Accepts}
use Rattle.view_checks.specs.declared.error.CreateTextureViewError.{CreateTextureViewError}
use Rattle.view_checks.specs.declared.resolve.ResolvedView.{ResolvedView}

module _ (device : Capabilities) (t : Texture) (d : TextureViewDescriptor) where
  abbrev Promised : Result TextureView CreateTextureViewError → Type 0
  Promised r =
      record {
        value : as_outcome r ≡ outcome (view_checks device.features.0 t (resolved t d));
        view : IfOk r (λ view. WorkedOut device.features.0 t (resolved t d) view);
        only : IfOk r (λ view. OnlyView device.features.0 t (resolved t d) view);
        webgpu : contains device.features.0 MULTISAMPLE_ARRAY ≡ false → Decides (not (refused_as_view r)) (Accepts device t (resolved t d));
        laws : IfOk r (λ view. Lawful device.features.0 t view);
      }

  laws : (r : Result TextureView CreateTextureViewError)
      → as_outcome r ≡ outcome (view_checks device.features.0 t (resolved t d))
      → IfOk r (λ view. WorkedOut device.features.0 t (resolved t d) view)
      → IfOk r (λ view. Lawful device.features.0 t view)
  laws (Ok view) value worked = lawful device.features.0 t d view (all_pass (view_checks device.features.0 t (resolved t d)) value) worked
  laws (Err e) value worked = tt

  one_view : (r : Result TextureView CreateTextureViewError)
      → IfOk r (λ view. WorkedOut device.features.0 t (resolved t d) view)
      → IfOk r (λ view. OnlyView device.features.0 t (resolved t d) view)
  one_view (Ok view) worked = only device.features.0 t (resolved t d) view worked
  one_view (Err e) worked = tt

  promised : (r : Result TextureView CreateTextureViewError)
      → as_outcome r ≡ outcome (view_checks device.features.0 t (resolved t d))
      → IfOk r (λ view. WorkedOut device.features.0 t (resolved t d) view)
      → Promised r
  promised r value view =
      record {
        value = value;
        view = view;
        only = one_view r view;
        webgpu = λ no_arrays. decided device t (resolved t d) no_arrays r value;
        laws = laws r value view;
      }

  module _ (v : ResolvedView) (filled : v ≡ resolved t d) where
    -- the exit of a `?`: a group of the checks refuses
    pub refused : (r : Result TextureView CreateTextureViewError) (group rest : List (Check CreateTextureViewError)) (e : CreateTextureViewError)
        → IsErrAnd r (λ y. y ≡ e) → Err e ≡ outcome group → outcome (group ++ rest) ≡ outcome (view_checks device.features.0 t v) → Promised r
    refused r group rest e left h past =
        promised r
        (subst (λ (w : ResolvedView). as_outcome r ≡ outcome (view_checks device.features.0 t w)) filled
        (exits (view_checks device.features.0 t v) r e left (stops group rest e h ∙ past)))
        (unmade r e left (λ view. WorkedOut device.features.0 t (resolved t d) view))

    -- the end: every group passed
    pub accepted : (view : TextureView) → Ok tt ≡ outcome (view_checks device.features.0 t v) → WorkedOut device.features.0 t v view → Promised (Ok view)
    accepted view h worked =
        promised (Ok view)
        (subst (λ (w : ResolvedView). Ok tt ≡ outcome (view_checks device.features.0 t w)) filled h)
        (subst (λ (w : ResolvedView). WorkedOut device.features.0 t w view) filled worked)
