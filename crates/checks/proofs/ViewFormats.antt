-- Going through the view formats: what is left of the list, with the twin noted so far, gives the answer of the whole.
use Rattle.std.proofs.Common.{◌≡◌, ℕ, ◌+◌, ◌<◌, Bool, true, false, cond, not, ◌&&◌, ◌||◌, ◌⊎◌, List, ◌∷◌, length, get_or, drop, Ok, Err, Result, sym, refl, ap, ◌∙◌, inl, inr}
use Rattle.std.proofs.lemmas.List.{drop_more}
use Rattle.std.proofs.lemmas.Bool.{true≢false, false≢true, not-true}
use Rattle.checks.specs.Check.{outcome, answered, and_then}
use Rattle.checks.specs.Checks.{each_view_format, downlevel_checks, is_twin_listed, is_twin}
use Rattle.checks.specs.declared.error.CreateTextureError.{CreateTextureError}
use Rattle.checks.specs.declared.error.CreateTextureError.TheVariants.{InvalidViewFormat, MissingDownlevelFlags}
use Rattle.types.specs.Bits.{contains}
use Rattle.types.specs.Features.{VIEW_FORMATS}
use Rattle.types.specs.Format.{same_format}
use Rattle.types.specs.declared.format.TextureFormat.{TextureFormat}
use Rattle.types.specs.declared.format.TextureFormat.TheVariants.{R8Unorm}

abbrev pub Left : TextureFormat → List TextureFormat → Bool → Result Bool CreateTextureError
Left f views noted = answered (each_view_format f views) (noted || is_twin_listed f views)

module _ (e : CreateTextureError) (o : Result Unit CreateTextureError) (noted l : Bool) where
  foreign : (s w : Bool) → w ≡ false → s ≡ false → Err e ≡ and_then (cond (not s && not w) (Err e) o) (Ok (noted || (w || l)))
  foreign false false p q = refl
  foreign true w p q = absurd (true≢false q)
  foreign false true p q = absurd (true≢false p)

-- what `!=` tells
pub apart : (same : Bool) → true ≡ not same → same ≡ false
apart same h = not-true same (sym h)

module _ (f : TextureFormat) (views : List TextureFormat) (i : ℕ) (noted : Bool) where
  module _ (h : i < length views) where
    at_head : Left f (drop i views) noted ≡ Left f (get_or views i R8Unorm ∷ drop (i + 1) views) noted
    at_head = ap (λ (l : List TextureFormat). Left f l noted) (drop_more views i R8Unorm h)

    pub stop_foreign : is_twin f (get_or views i R8Unorm) ≡ false → same_format (get_or views i R8Unorm) f ≡ false
        → Err (InvalidViewFormat (get_or views i R8Unorm) f) ≡ Left f (drop i views) noted
    stop_foreign w s =
        foreign _ (outcome (each_view_format f (drop (i + 1) views))) noted (is_twin_listed f (drop (i + 1) views))
        (same_format (get_or views i R8Unorm) f) (is_twin f (get_or views i R8Unorm)) w s ∙ sym at_head

-- the flag that a listed twin asks for
module _ (flags : ℕ) (f : TextureFormat) (views : List TextureFormat) where
  lacks : (t c x : Bool) (e : CreateTextureError) → t ≡ true → c ≡ false → Err e ≡ and_then (cond (t && not c) (Err e) (Ok tt)) (Ok x)
  lacks true false x e p q = refl
  lacks true true x e p q = absurd (true≢false q)
  lacks false c x e p q = absurd (false≢true p)

  has : (t c : Bool) (e : CreateTextureError) → (t ≡ false) ⊎ (c ≡ true) → Ok t ≡ and_then (cond (t && not c) (Err e) (Ok tt)) (Ok t)
  has true true e h = refl
  has false c e h = refl
  has true false e (inl p) = absurd (true≢false p)
  has true false e (inr q) = absurd (false≢true q)

  pub lacks_flag : is_twin_listed f views ≡ true → contains flags VIEW_FORMATS ≡ false
      → Err (MissingDownlevelFlags (record { 0 = record { 0 = VIEW_FORMATS } })) ≡ answered (downlevel_checks flags f views) (is_twin_listed f views)
  lacks_flag p q = lacks (is_twin_listed f views) (contains flags VIEW_FORMATS) (is_twin_listed f views) _ p q

  pub has_flag : (t : Bool) → t ≡ is_twin_listed f views → (is_twin_listed f views ≡ false) ⊎ (contains flags VIEW_FORMATS ≡ true)
      → Ok t ≡ answered (downlevel_checks flags f views) (is_twin_listed f views)
  has_flag t v h = ap Ok v ∙ has (is_twin_listed f views) (contains flags VIEW_FORMATS) (MissingDownlevelFlags (record { 0 = record { 0 = VIEW_FORMATS } })) h
