-- No check refuses exactly when each test is false.
use Rattle.std.proofs.Common.{◌≡◌, Bool, true, false, cond, List, [], ◌∷◌, ◌++◌, Ok, Err, Result, refl}
use Rattle.std.proofs.lemmas.Bool.{true≢false}
use Rattle.std.specs.List.{AllByRecursion}
use Rattle.checks.proofs.Apart.{ok_not_err}
use Rattle.checks.specs.Check.{Check, outcome}

module _ {E : Type 0} where
  abbrev pub Passes : Check E → Type 0
  Passes c = c.fails ≡ false

  no_refusal : (b : Bool) (e : E) (o : Result Unit E) → Ok tt ≡ cond b (Err e) o → (b ≡ false) × (Ok tt ≡ o)
  no_refusal true e o h = absurd (ok_not_err h)
  no_refusal false e o h = (refl, h)

  pub all_pass : (cs : List (Check E)) → Ok tt ≡ outcome cs → AllByRecursion Passes cs
  all_pass [] h = tt
  all_pass (c ∷ cs) h =
      ((no_refusal c.fails c.refusal (outcome cs) h).0, all_pass cs (no_refusal c.fails c.refusal (outcome cs) h).1)

  then_ok : (b : Bool) (e : E) (o : Result Unit E) → b ≡ false → Ok tt ≡ o → Ok tt ≡ cond b (Err e) o
  then_ok false e o p h = h
  then_ok true e o p h = absurd (true≢false p)

  pub from_all : (cs : List (Check E)) → AllByRecursion Passes cs → Ok tt ≡ outcome cs
  from_all [] h = refl
  from_all (c ∷ cs) h = then_ok c.fails c.refusal (outcome cs) h.0 (from_all cs h.1)

  pub front : (a b : List (Check E)) → AllByRecursion Passes (a ++ b) → AllByRecursion Passes a
  front [] b h = tt
  front (c ∷ cs) b h = (h.0, front cs b h.1)

  pub back : (a b : List (Check E)) → AllByRecursion Passes (a ++ b) → AllByRecursion Passes b
  back [] b h = h
  back (c ∷ cs) b h = back cs b h.1

  pub both : (a b : List (Check E)) → AllByRecursion Passes a → AllByRecursion Passes b → AllByRecursion Passes (a ++ b)
  both [] b p q = q
  both (c ∷ cs) b p q = (p.0, both cs b p.1 q)
