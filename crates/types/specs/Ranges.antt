-- Ranges of levels or layers.
use Rattle.std.specs.Prelude.{◌≡◌, ℕ, ◌+◌, ◌<◌, ◌≤◌, Some, None, Option}
use Rattle.types.specs.declared.range.Range.{Range}

-- a range of so many from the first on, of a total
pub record Spans (first count total : ℕ) (range : Range) : Type 0 where
  pub starts : range.first ≡ first
  pub ends : range.end ≡ first + count
  pub of_total : range.total ≡ total

-- There is such a range exactly when it is not empty and its end, the true sum, is within the total. (That a range which was
-- made is not empty and within its total is part of its type.)
abbrev pub Made : ℕ → ℕ → ℕ → Option Range → Type 0
Made first count total (Some range) = Spans first count total range
Made first count total None = 0 < count → first + count ≤ total → ⊥
