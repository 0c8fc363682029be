use Rattle.std.proofs.Common.{◌≡◌, ◌-◌, ◌^◌, ◌≤◌, min, arith, rules}
use Rattle.checks.proofs.Counted.{counted}
use Rattle.checks.proofs.clear_views.clear_views_needed.Goals as goal
use Rattle.checks.specs.ClearViews.{clear_views_needed}

pub returns-clause-exact : goal.returns-clause-exact
returns-clause-exact c =
    let d = c.args.desc.now in
    let uses = c.args.hal_usage.0 in
    let short : d.size.depth_or_array_layers ≤ 2 ^ 32 = omega arith in
    let e : c.saturating_mul.result ≡ min (clear_views_needed d uses) (2 ^ 64 - 1) = search rules in
    counted d uses short _ e
