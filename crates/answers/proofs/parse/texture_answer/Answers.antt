use Rattle.std.proofs.Common.{◌≤◌, length, rules}
use Rattle.std.proofs.lemmas.List.{length-map}
use Rattle.answers.proofs.Faults.{front_texts, hands_on, numbers_in_line, request_in_line}
use Rattle.answers.specs.Lines.{texts_of}
use Rattle.answers.proofs.parse.texture_answer.Goals as goal

pub returns-in_err-numbers : goal.returns-in_err-numbers
returns-in_err-numbers c =
    let words = c.args.words.now in
    let some : 1 ≤ length (texts_of words) = rw (length-map words (λ word. word.now)) (search rules) in
    hands_on c.from_residual.result _ _ c.in_err-numbers.field-0.0 c.from_residual.ensures.1
    (numbers_in_line (texts_of words) _ some (rw (front_texts words) at c.in_err-numbers.ensures))

pub returns-in_err-request : goal.returns-in_err-request
returns-in_err-request c =
    let words = c.args.words.now in
    let some : 1 ≤ length (texts_of words) = rw (length-map words (λ word. word.now)) (search rules) in
    let numbers = rw (front_texts words) at c.in_ok-numbers.ensures in
    let request = rw c.as_slice.ensures.value at c.in_err-request.ensures in
    hands_on c.from_residual-in_err-request.result _ _ c.in_err-request.field-0.0
    c.from_residual-in_err-request.ensures.1
    (request_in_line (texts_of words) _ some numbers _ request)
