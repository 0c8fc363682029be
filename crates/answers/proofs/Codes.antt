-- Each number in the range of the codes is the code of something.
use Rattle.std.proofs.Common.{◌≡◌, ◌≢◌, ℕ, ◌+◌, ◌<◌, ◌≤◌, Bool, true, ◌&&◌, eqb, List, [], ◌∷◌, length, Ok, Err, Result, MatchOption, refl, inl, inr, arith}
use Rattle.std.proofs.lemmas.Bool.{and_parts, cases_lt, eqb-true}
use Rattle.std.specs.Result.{result_ok}
use Rattle.answers.specs.Faults.{NoDimension, NoFormat, NoViewDimension}
use Rattle.types.specs.Code.{Decodes}
use Rattle.types.specs.Dimension.{dimension_code, view_dimension_code}
use Rattle.types.specs.Format.{code_of, formats}
use Rattle.types.specs.declared.code.UnknownCode.{UnknownCode}
use Rattle.types.specs.declared.dimension.TextureDimension.{TextureDimension}
use Rattle.types.specs.declared.dimension.TextureDimension.TheVariants.{D1, D2, D3}
use Rattle.types.specs.declared.dimension.TextureViewDimension.{TextureViewDimension}
use Rattle.types.specs.declared.dimension.TextureViewDimension.TheVariants.{D1 as View1D, D2 as View2D, D2Array, Cube, CubeArray, D3 as View3D}
use Rattle.types.specs.declared.format.TextureFormat.{TextureFormat}

module _ {T : Type 0} (code : T → ℕ) where
  -- the codes of a list are the numbers from this one on
  abbrev numbered : ℕ → List T → Bool
  numbered k [] = true
  numbered k (x ∷ xs) = eqb (code x) k && numbered (k + 1) xs

  found : (k : ℕ) (xs : List T) → numbered k xs ≡ true → (n : ℕ) → k ≤ n → n < k + length xs → (x : T) × (code x ≡ n)
  found k [] h n low high = absurd (omega (arith, low, high))
  found k (x ∷ xs) h n low high =
      let p = and_parts (eqb (code x) k) (numbered (k + 1) xs) h in
      let e : code x ≡ k = eqb-true (code x) k p.0 in
      elim (cases_lt k n) [
        | inl more ↦ found (k + 1) xs p.1 n (omega (arith, more)) (omega (arith, high))
        | inr here ↦ (x, omega (arith, e, low, here))
      ]

  -- what was decoded, without the error
  pub decoded : (None : ℕ → Type 0) → ((n : ℕ) → ((x : T) → code x ≢ n) → None n) → (n : ℕ) (r : Result T UnknownCode) → Decodes code n r
      → MatchOption (result_ok r) (None n) (λ x. code x ≡ n)
  decoded None none n (Ok x) h = h
  decoded None none n (Err e) h = none n h.1

pub no_dimension : (n : ℕ) → ((x : TextureDimension) → dimension_code x ≢ n) → NoDimension n
no_dimension n none low high = let p = found dimension_code 1 (D1 ∷ D2 ∷ D3 ∷ []) refl n low (omega (arith, high)) in none p.0 p.1

pub no_view_dimension : (n : ℕ) → ((x : TextureViewDimension) → view_dimension_code x ≢ n) → NoViewDimension n
no_view_dimension n none low high =
    let p = found view_dimension_code 1 (View1D ∷ View2D ∷ D2Array ∷ Cube ∷ CubeArray ∷ View3D ∷ []) refl n low (omega (arith, high)) in
    none p.0 p.1

pub no_format : (n : ℕ) → ((x : TextureFormat) → code_of x ≢ n) → NoFormat n
no_format n none low high = let p = found code_of 1 formats refl n low (omega (arith, high)) in none p.0 p.1
