use Rattle.std.proofs.Common.{refl, rules}
use Rattle.checks.proofs.Counted.{levels_bound}
use Rattle.checks.proofs.Joins.{exits, refused_answer, passed_answer, value_answer}
use Rattle.checks.proofs.accepted.accepted_texture.Goals as goal
use Rattle.checks.specs.Checks.{create_checks, is_twin_listed}

pub returns-in_err-twin_listed-clause-value : goal.returns-in_err-twin_listed-clause-value
returns-in_err-twin_listed-clause-value c =
    let d = c.args.desc.now in
    let v = c.args.device.now in
    exits (create_checks v d) _ _ c.from_residual.ensures.1
    (refused_answer (create_checks v d) (is_twin_listed d.format d.view_formats.now) _ c.in_err-twin_listed.ensures.value)

pub invariant_of-result : goal.invariant_of-result
invariant_of-result c =
    let d = c.args.desc.now in
    let v = c.args.device.now in
    let bound = levels_bound v d (passed_answer (create_checks v d) (is_twin_listed d.format d.view_formats.now) _ c.in_ok-twin_listed.ensures.value) in
    record { some_levels = bound.0; few_levels = bound.1 }

pub returns-clause-value : goal.returns-clause-value
returns-clause-value c =
    let d = c.args.desc.now in
    passed_answer (create_checks c.args.device.now d) (is_twin_listed d.format d.view_formats.now) _ c.in_ok-twin_listed.ensures.value

pub returns-clause-texture : goal.returns-clause-texture
returns-clause-texture c =
    let d = c.args.desc.now in
    record {
      size = refl;
      levels = refl;
      samples = refl;
      dimension = refl;
      format = refl;
      usage = refl;
      twin_listed = value_answer (create_checks c.args.device.now d) (is_twin_listed d.format d.view_formats.now) _ c.in_ok-twin_listed.ensures.value;
      hal_usage = search rules;
    }
