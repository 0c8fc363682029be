-- An answer is no refusal.
use Rattle.std.proofs.Common.{◌≡◌, ℕ, Ok, Err, Result, sym, arith}

module _ {T E : Type 0} {x : T} {e : E} where
  pub ok_not_err : ◌≡◌ {A = Result T E} (Ok x) (Err e) → ⊥
  ok_not_err h = let z : ◌≡◌ {A = ℕ} 0 1 = cc in omega arith

  pub err_not_ok : ◌≡◌ {A = Result T E} (Err e) (Ok x) → ⊥
  err_not_ok h = ok_not_err (sym h)
