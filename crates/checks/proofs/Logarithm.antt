-- The greatest level count is one more than the logarithm of the largest side.
use Rattle.std.proofs.Common.{◌≡◌, ℕ, ◌+◌, ◌^◌, ◌<◌, ◌≤◌, min, sym, ap, ◌∙◌, subst, inl, inr, add-one, arith, lit<, pow_mono}
use native.Mathlib.Nat.{min-eq_left}
use Rattle.std.proofs.lemmas.Nat.{leading_top}
use Rattle.std.proofs.lemmas.Bool.{cases_lt}
use Rattle.checks.specs.WebGpu.{FloorLog2}
use Rattle.types.proofs.Digits as digits
use Rattle.types.specs.Extent.{binary_digits}

module _ (m : ℕ) (big : m ≤ 65535) where
  fits : m < 2 ^ 32
  fits = let w : 65535 < 2 ^ 32 = lit< tt in omega (arith, w, big)

  pub log_of : 0 < m → (k : ℕ) × FloorLog2 m k
  log_of h =
      let t = leading_top 32 m h fits in
      (t.0, (t.2, subst (λ (n : ℕ). m < 2 ^ n) (sym (add-one t.0)) t.3))

  small : (k : ℕ) → 2 ^ k ≤ m → k + 1 ≤ 16
  small k p =
      elim (cases_lt k 16)
      [ inl l ↦ omega (arith, l) | inr more ↦ (let w : 2 ^ 16 ≤ 2 ^ k = pow_mono more in absurd (omega (arith, w, p, big))) ]

  pub digits_of : (k : ℕ) → FloorLog2 m k → min (binary_digits m) 16 ≡ k + 1
  digits_of k h = ap (λ (n : ℕ). min n 16) (digits.digits_of m fits k h.0 h.1) ∙ min-eq_left (small k h.0)
