-- Groups of checks, one after the other: where a group refuses, so does the whole; where it does not, the rest decides.
use Rattle.std.proofs.Common.{◌≡◌, true, false, cond, List, [], ◌∷◌, ◌++◌, map, IsErrAnd, IfOk, Ok, Err, Result, refl, ap, ◌∙◌}
use Rattle.checks.proofs.Apart.{ok_not_err, err_not_ok}
use Rattle.checks.specs.Check.{Check, outcome, answered, and_then, as_outcome}
use Rattle.checks.specs.Checks.{as_dimension}
use Rattle.checks.specs.declared.error.CreateTextureError.{CreateTextureError}
use Rattle.checks.specs.declared.error.CreateTextureError.TheVariants.{InvalidDimension}
use Rattle.checks.specs.declared.error.TextureDimensionError.{TextureDimensionError}

module _ {E : Type 0} where
  pub stops : (a rest : List (Check E)) (e : E) → Err e ≡ outcome a → Err e ≡ outcome (a ++ rest)
  stops [] rest e h = absurd (err_not_ok h)
  stops (c ∷ cs) rest e h =
      elim c.fails as (λ b. Err e ≡ cond b (Err c.refusal) (outcome cs) → Err e ≡ cond b (Err c.refusal) (outcome (cs ++ rest)))
      [ true ↦ λ k. k | false ↦ stops cs rest e ] h

  pub passes : (a rest : List (Check E)) (u : Unit) → Ok u ≡ outcome a → outcome rest ≡ outcome (a ++ rest)
  passes [] rest u h = refl
  passes (c ∷ cs) rest u h =
      elim c.fails as (λ b. Ok u ≡ cond b (Err c.refusal) (outcome cs) → outcome rest ≡ cond b (Err c.refusal) (outcome (cs ++ rest)))
      [ true ↦ λ k. absurd (ok_not_err k) | false ↦ passes cs rest u ] h

  -- at the exit of a `?`
  pub broke : (a rest : List (Check E)) (r : Result Unit E) (e : E) → IsErrAnd r (λ y. y ≡ e) → Err e ≡ outcome a → r ≡ outcome (a ++ rest)
  broke a rest (Ok x) e q h = absurd q
  broke a rest (Err y) e q h = ap Err q ∙ stops a rest e h

  -- past a `?`
  pub went_on : (a rest : List (Check E)) (r : Result Unit E) (u : Unit) → Ok u ≡ outcome a → r ≡ outcome rest → r ≡ outcome (a ++ rest)
  went_on a rest r u h k = k ∙ passes a rest u h

module _ {E X : Type 0} where
  -- the same for checks that end in an answer
  pub broke_answer : (a rest : List (Check E)) (x : X) (r : Result X E) (e : E) → IsErrAnd r (λ y. y ≡ e) → Err e ≡ outcome a → r ≡ answered (a ++ rest) x
  broke_answer a rest x (Ok y) e q h = absurd q
  broke_answer a rest x (Err y) e q h = ap Err q ∙ ap (λ (o : Result Unit E). and_then o (Ok x)) (stops a rest e h)

  pub went_on_answer : (a rest : List (Check E)) (x : X) (r : Result X E) (u : Unit) → Ok u ≡ outcome a → r ≡ answered rest x → r ≡ answered (a ++ rest) x
  went_on_answer a rest x r u h k = k ∙ ap (λ (o : Result Unit E). and_then o (Ok x)) (passes a rest u h)

  -- the exit of a `?` is the refusal of the checks, and nothing was made
  pub exits : (a : List (Check E)) (r : Result X E) (e : E) → IsErrAnd r (λ y. y ≡ e) → Err e ≡ outcome a → as_outcome r ≡ outcome a
  exits a (Ok x) e q h = absurd q
  exits a (Err y) e q h = ap Err q ∙ h

  pub unmade : (r : Result X E) (e : E) → IsErrAnd r (λ y. y ≡ e) → (P : X → Type 0) → IfOk r P
  unmade (Ok x) e q P = absurd q
  unmade (Err y) e q P = tt

  -- an answer that is a refusal is the checks' own, and any other says that they passed
  refused_by_lem : (o : Result Unit E) (x : X) (e : E) → Err e ≡ and_then o (Ok x) → Err e ≡ o
  refused_by_lem (Ok u) x e h = absurd (err_not_ok h)
  refused_by_lem (Err y) x e h = cc

  passed_by : (o : Result Unit E) (x v : X) → Ok v ≡ and_then o (Ok x) → Ok tt ≡ o
  passed_by (Ok u) x v h = refl
  passed_by (Err y) x v h = absurd (ok_not_err h)

  answer_by : (o : Result Unit E) (x v : X) → Ok v ≡ and_then o (Ok x) → v ≡ x
  answer_by (Ok u) x v h = cc
  answer_by (Err y) x v h = absurd (ok_not_err h)

  pub refused_answer : (a : List (Check E)) (x : X) (e : E) → Err e ≡ answered a x → Err e ≡ outcome a
  refused_answer a x e h = refused_by_lem (outcome a) x e h

  pub passed_answer : (a : List (Check E)) (x v : X) → Ok v ≡ answered a x → Ok tt ≡ outcome a
  passed_answer a x v h = passed_by (outcome a) x v h

  pub value_answer : (a : List (Check E)) (x v : X) → Ok v ≡ answered a x → v ≡ x
  value_answer a x v h = answer_by (outcome a) x v h

-- the checks of the size, as refusals of a request
pub lifted_err : (cs : List (Check TextureDimensionError)) (e : TextureDimensionError) → Err e ≡ outcome cs → Err (InvalidDimension e) ≡ outcome (map as_dimension cs)
lifted_err [] e h = absurd (err_not_ok h)
lifted_err (c ∷ cs) e h =
    elim c.fails
    as (λ b. Err e ≡ cond b (Err c.refusal) (outcome cs) → Err (InvalidDimension e) ≡ cond b (Err (InvalidDimension c.refusal)) (outcome (map as_dimension cs)))
    [ true ↦ λ k. cc | false ↦ lifted_err cs e ] h

pub lifted_ok : (cs : List (Check TextureDimensionError)) (u : Unit) → Ok u ≡ outcome cs → Ok u ≡ outcome (map as_dimension cs)
lifted_ok [] u h = refl
lifted_ok (c ∷ cs) u h =
    elim c.fails
    as (λ b. Ok u ≡ cond b (Err c.refusal) (outcome cs) → Ok u ≡ cond b (Err (InvalidDimension c.refusal)) (outcome (map as_dimension cs)))
    [ true ↦ λ k. absurd (ok_not_err k) | false ↦ lifted_ok cs u ] h

pub broke_size : (cs : List (Check TextureDimensionError)) (rest : List (Check CreateTextureError)) (r : Result Unit CreateTextureError) (e : TextureDimensionError)
    → IsErrAnd r (λ y. y ≡ InvalidDimension e) → Err e ≡ outcome cs → r ≡ outcome (map as_dimension cs ++ rest)
broke_size cs rest r e q h = broke (map as_dimension cs) rest r (InvalidDimension e) q (lifted_err cs e h)
