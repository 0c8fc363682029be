use Rattle.std.proofs.Common.{◌≡◌, ◌||◌, drop}
use Rattle.checks.proofs.view_formats.look_for_twin.Given as goal
use Rattle.checks.specs.Check.{answered}
use Rattle.checks.specs.Checks.{each_view_format, is_twin_listed}

-- what is left gives the answer of the whole, with the twin noted so far
abbrev pub invariant-loop-view_format : goal.invariant-loop-view_format
invariant-loop-view_format l =
    answered (each_view_format l.format l.view_formats) (is_twin_listed l.format l.view_formats)
    ≡ answered (each_view_format l.format (drop l.view_format-index l.view_formats))
    (l.twin_listed || is_twin_listed l.format (drop l.view_format-index l.view_formats))
