-- Binary digits, counted by the zeros before them.
use Rattle.std.proofs.Common.{◌≡◌, ℕ, ◌+◌, ◌-◌, ◌*◌, ◌^◌, ◌<◌, ◌≤◌, min, ap, ◌∙◌, inl, inr, pow-suc, add-one, arith, pow_mono}
use lib.Count.{count_leading_zeros, leading_unique}
use Rattle.std.proofs.lemmas.Bool.{cases_lt}
use Rattle.types.specs.Extent.{binary_digits, largest_side, max_mips, DigitsUpTo16}
use Rattle.types.specs.declared.dimension.TextureDimension.{TextureDimension}
use Rattle.types.specs.declared.dimension.TextureDimension.TheVariants.{D1, D2, D3}
use Rattle.types.specs.declared.extent.Extent3d.{Extent3d}

module _ (m : ℕ) (fits : m < 2 ^ 32) (k : ℕ) (low : 2 ^ k ≤ m) where
  short : k < 32
  short =
      elim (cases_lt k 32)
      [ inl l ↦ l | inr more ↦ (let w : 2 ^ 32 ≤ 2 ^ k = pow_mono more in absurd (omega (arith, w, low, fits))) ]

  pub digits_of : m < 2 ^ (k + 1) → binary_digits m ≡ k + 1
  digits_of high =
      let l : k < 32 = short in
      let s : 31 - k + (k + 1) ≡ 32 = omega (arith, l) in
      let d : 2 ^ (k + 1) ≡ 2 ^ k * 2 = ap (λ (n : ℕ). 2 ^ n) (add-one k) ∙ pow-suc 2 k in
      let t : 2 ^ (k + 1) ≤ 2 * m + 1 = omega (arith, d, low) in
      let z : 31 - k ≡ count_leading_zeros 32 m = leading_unique 32 m (31 - k) (k + 1) s high t in
      omega (arith, z, l)

-- the greatest level count by the digits of the largest side
module _ (size : Extent3d) (r : ℕ) (w : size.width < 2 ^ 32) (h : size.height < 2 ^ 32) (d : size.depth_or_array_layers < 2 ^ 32) where
  pub level_digits : (dim : TextureDimension) → r ≡ max_mips size dim → DigitsUpTo16 size dim r
  level_digits D1 e = e
  level_digits D2 e = λ k low high. e ∙ ap (λ (n : ℕ). min n 16) (digits_of (largest_side size D2) (omega arith) k low high)
  level_digits D3 e = λ k low high. e ∙ ap (λ (n : ℕ). min n 16) (digits_of (largest_side size D3) (omega arith) k low high)
