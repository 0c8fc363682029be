-- What is known where a test passes, and what makes one pass.
use Rattle.std.proofs.Common.{◌≡◌, ℕ, ◌<◌, Bool, true, false, not, ◌&&◌, eqb, Some, None, Option, sym, refl, ap, ◌∙◌, inl, inr, arith}
use Rattle.std.proofs.lemmas.Bool.{cases_lt, eqb-false, ne_eqb, true≢false, false≢true}
use Rattle.checks.specs.Checks.{is_this}
use Rattle.types.proofs.Every.{same_format_lem}
use Rattle.types.specs.declared.format.TextureFormat.{TextureFormat}

pub must : (a b : Bool) → (a && not b) ≡ false → a ≡ true → b ≡ true
must true true h p = refl
must true false h p = absurd (true≢false h)
must false b h p = absurd (false≢true p)

pub mustnt : (a b : Bool) → (a && b) ≡ false → a ≡ true → b ≡ false
mustnt true b h p = h
mustnt false b h p = absurd (false≢true p)

pub must_from : (a b : Bool) → (a ≡ true → b ≡ true) → (a && not b) ≡ false
must_from true true h = refl
must_from true false h = absurd (false≢true (h refl))
must_from false b h = refl

pub mustnt_from : (a b : Bool) → (a ≡ true → b ≡ false) → (a && b) ≡ false
mustnt_from true b h = h refl
mustnt_from false b h = refl

pub swapped : (a b : Bool) → (a && b) ≡ false → (b && a) ≡ false
swapped true true h = h
swapped true false h = refl
swapped false true h = refl
swapped false false h = refl

pub and_but : (a b : Bool) → (a && not b) ≡ false → b ≡ false → a ≡ false
and_but true true h p = absurd (true≢false p)
and_but true false h p = h
and_but false b h p = refl

pub false_from : (b : Bool) → (b ≡ true → ⊥) → b ≡ false
false_from true h = absurd (h refl)
false_from false h = refl

pub clash : (b : Bool) → b ≡ true → b ≡ false → ⊥
clash b p q = true≢false (sym p ∙ q)

pub positive : (n : ℕ) → eqb n 0 ≡ false → 0 < n
positive n h = elim (cases_lt 0 n) [ inl l ↦ l | inr z ↦ absurd (eqb-false n 0 h (omega (arith, z))) ]

pub not_zero : (n : ℕ) → 0 < n → eqb n 0 ≡ false
not_zero n h = ne_eqb n 0 (λ e. omega (arith, h, e))

-- the format that there may be is this one
pub is_this_lem : (o : Option TextureFormat) (g : TextureFormat) → is_this o g ≡ true → o ≡ Some g
is_this_lem None g h = absurd (false≢true h)
is_this_lem (Some f) g h = ap Some (same_format_lem f g h)
