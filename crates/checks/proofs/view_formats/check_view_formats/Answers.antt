use Rattle.std.proofs.Common.{sym, ◌∙◌, inl, inr}
use Rattle.checks.proofs.Joins.{broke_answer, went_on_answer, refused_answer, passed_answer, value_answer}
use Rattle.checks.proofs.ViewFormats.{lacks_flag, has_flag}
use Rattle.checks.proofs.view_formats.check_view_formats.Goals as goal
use Rattle.checks.proofs.view_formats.check_view_formats.Goals.{else-twin_listed-via-then-twin_listed+else-not-contains, else-twin_listed-via-else-twin_listed}
use Rattle.checks.specs.Checks.{each_view_format, downlevel_checks, is_twin_listed}

pub returns-in_err-twin_listed : goal.returns-in_err-twin_listed
returns-in_err-twin_listed c =
    let f = c.args.format in
    let views = c.args.view_formats.now in
    broke_answer (each_view_format f views) (downlevel_checks c.args.downlevel_flags.0 f views) (is_twin_listed f views) _ _ c.from_residual.ensures.1
    (refused_answer (each_view_format f views) (is_twin_listed f views) _ c.in_err-twin_listed.ensures)

pub returns-then-not-contains : goal.returns-then-not-contains
returns-then-not-contains c =
    let f = c.args.format in
    let views = c.args.view_formats.now in
    let each = each_view_format f views in
    went_on_answer each (downlevel_checks c.args.downlevel_flags.0 f views) (is_twin_listed f views) _ tt
    (passed_answer each (is_twin_listed f views) _ c.in_ok-twin_listed.ensures)
    (lacks_flag c.args.downlevel_flags.0 f views
    (sym (value_answer each (is_twin_listed f views) _ c.in_ok-twin_listed.ensures) ∙ c.if-twin_listed.true)
    (sym c.if-not-contains.ensures))

pub returns : goal.returns
returns c =
    let f = c.args.format in
    let views = c.args.view_formats.now in
    let each = each_view_format f views in
    let value = value_answer each (is_twin_listed f views) _ c.in_ok-twin_listed.ensures in
    went_on_answer each (downlevel_checks c.args.downlevel_flags.0 f views) (is_twin_listed f views) _ tt
    (passed_answer each (is_twin_listed f views) _ c.in_ok-twin_listed.ensures)
    (has_flag c.args.downlevel_flags.0 f views c.in_ok-twin_listed.twin_listed value
    (elim c.else-twin_listed.branch [
      | else-twin_listed-via-then-twin_listed+else-not-contains w ↦ inr (sym w.if-not-contains.ensures)
      | else-twin_listed-via-else-twin_listed w ↦ inl (sym value ∙ w.if-twin_listed.false)
    ]))
