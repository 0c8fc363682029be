use Rattle.std.proofs.Common.{◌≡◌, ◌+◌, take, count_by}
use Rattle.verdicts.specs.Verdicts.{both_accept, both_refuse, differs}
use Rattle.verdicts.proofs.tally.totals_of.Given as goal

abbrev pub invariant-loop-verdict : goal.invariant-loop-verdict
invariant-loop-verdict l =
    (l.totals.accepted ≡ count_by both_accept (take l.verdict-index l.verdicts))
    × (l.totals.refused ≡ count_by both_refuse (take l.verdict-index l.verdicts))
    × (l.totals.differing ≡ count_by differs (take l.verdict-index l.verdicts))
    × (l.totals.accepted + l.totals.refused + l.totals.differing ≡ l.verdict-index)
