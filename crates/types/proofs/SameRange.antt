-- A range is known by its numbers.
use mathlib.Core.HLevel.{is_prop→PathP}
use Rattle.std.proofs.Common.{◌≡◌, ◌<◌, ◌≤◌, Bool, true, ◌&&◌, eqb}
use Rattle.std.proofs.lemmas.Bool.{and_parts, eqb-true}
use native.Mathlib.Bridge.{le_prop}
use Rattle.types.specs.declared.range.Range.{Range}

pub same_range : (a b : Range) → a.first ≡ b.first → a.end ≡ b.end → a.total ≡ b.total → a ≡ b
same_range a b p q s = λ i. record {
  first = p i;
  end = q i;
  total = s i;
  forward = is_prop→PathP (λ j. p j < q j) (λ j. le_prop) a.forward b.forward i;
  inside = is_prop→PathP (λ j. q j ≤ s j) (λ j. le_prop) a.inside b.inside i;
}

-- what the derived `==` of ranges tests
abbrev pub tests : Range → Range → Bool
tests a b = eqb a.first b.first && (eqb a.end b.end && eqb a.total b.total)

pub range_from_tests : (a b : Range) → tests a b ≡ true → a ≡ b
range_from_tests a b h =
    let first = and_parts _ _ h in
    let rest = and_parts _ _ first.1 in
    same_range a b (eqb-true _ _ first.0) (eqb-true _ _ rest.0) (eqb-true _ _ rest.1)
