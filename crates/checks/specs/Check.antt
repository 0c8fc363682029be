-- Checks in an order: the first that fails gives the refusal.
use Rattle.std.specs.Prelude.{Bool, if◌then◌else◌, List, [], ◌∷◌, Ok, Err, Result}

-- a test that a request fails, and what it is then refused with
pub record Check (E : Type 0) : Type 0 where
  pub fails : Bool
  pub refusal : E

abbrev pub refuse : {E : Type 0} → Bool → E → Check E
refuse test case = record { fails = test; refusal = case }

-- the first refusal, or none
abbrev pub outcome : {E : Type 0} → List (Check E) → Result Unit E
outcome [] = Ok tt
outcome (c ∷ cs) = if c.fails then Err c.refusal else outcome cs

-- this, or the second where the first does not refuse
abbrev pub and_then : {E X : Type 0} → Result Unit E → Result X E → Result X E
and_then (Ok _) next = next
and_then (Err e) next = Err e

-- the first refusal, or this answer where there is none
abbrev pub answered : {E X : Type 0} → List (Check E) → X → Result X E
answered cs x = and_then (outcome cs) (Ok x)

-- an answer without what it answers: whether it is a refusal, and which
abbrev pub as_outcome : {E X : Type 0} → Result X E → Result Unit E
as_outcome (Ok x) = Ok tt
as_outcome (Err e) = Err e
