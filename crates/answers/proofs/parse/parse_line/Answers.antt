use Rattle.std.proofs.Common.{◌≡◌, ℕ, ◌<◌, ◌≤◌, List, length, get_or, vec_items, inr, lit<, Bor, rules}
use Rattle.std.proofs.iter.runs.Made.{chains}
use Rattle.std.proofs.lemmas.Str.Pattern.{starts_char}
use Rattle.std.proofs.lemmas.Result.{MatchResult-weaker}
use Rattle.std.specs.Str.Iter.{LacksByte}
use Rattle.std.specs.List.{join_with_byte}
use Rattle.answers.specs.Lines.{texts_of}
use Rattle.answers.proofs.Fields.{mark_and_rest, not_decided}
use Rattle.answers.proofs.parse.parse_line.Goals as goal

pub returns : goal.returns
returns g c =
    let text = c.args.text.now in
    let words = c.as_slice.result.now in
    let items = vec_items c.in_ok-words.words in
    let plain = not_decided _ _ (starts_char 35 text c.starts_with.result c.starts_with.ensures.cases (lit< tt) (lit< tt)) c.if-starts_with.false in
    let joined : text ≡ join_with_byte 32 (texts_of items) = search (rules, chains) in
    let lack : (k : ℕ) (d : Bor (List ℕ)) → k < length items → LacksByte 32 (get_or items k d).now = search (rules, chains) in
    let some : 1 ≤ length words = search rules in
    let parts = mark_and_rest text items words _ joined lack c.as_slice.ensures.value some in
    MatchResult-weaker c.marked_line.result c.marked_line.ensures
    (λ line said. inr (plain, (_, _, parts, said)))
    (λ error fault. (plain, inr (_, _, parts, fault)))
