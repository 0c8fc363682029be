use Rattle.std.proofs.Common.{◌≤◌, length, rules}
use Rattle.answers.proofs.Faults.{formats_in_request, hands_on}
use Rattle.answers.proofs.parse.texture_request.Goals as goal

pub returns-in_err-texture_formats : goal.returns-in_err-texture_formats
returns-in_err-texture_formats c =
    let long : 9 ≤ length c.args.numbers.now = search rules in
    hands_on c.from_residual-in_err-texture_formats.result _ _ c.in_err-texture_formats.field-0.0
    c.from_residual-in_err-texture_formats.ensures.1
    (formats_in_request c.args.numbers.now _ long c.in_err-texture_formats.ensures)
