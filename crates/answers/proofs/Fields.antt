-- Words and numbers of a line, taken apart and put together.
use Rattle.std.proofs.Common.{◌≡◌, ℕ, ◌-◌, ◌<◌, ◌≤◌, All, Bool, true, false, List, ◌∷◌, length, get_or, take, drop, Decides, sym, refl, ap, ◌∙◌, subst, arith, Bor}
use Rattle.std.proofs.lemmas.List.Elements.{All-from_get_or, All-map}
use Rattle.std.proofs.lemmas.List.{drop_more, take_rest}
use Rattle.std.specs.Str.Iter.{LacksByte}
use Rattle.std.specs.List.{join_with_byte}
use Rattle.answers.specs.Lines.{Words, texts_of}

-- the words of a line: its mark, and the others as the rest of the slice
pub mark_and_rest : (text : List ℕ) (items words : List (Bor (List ℕ))) (d : Bor (List ℕ)) → text ≡ join_with_byte 32 (texts_of items)
    → ((k : ℕ) (e : Bor (List ℕ)) → k < length items → LacksByte 32 (get_or items k e).now)
    → words ≡ items → 1 ≤ length words → Words text (get_or words 0 d).now (texts_of (take (length words - 1) (drop 1 words)))
mark_and_rest text items words d joined lack same some =
    let first = drop_more words 0 d some in
    let rest = take_rest words 1 in
    let parts : texts_of items ≡ (get_or words 0 d).now ∷ texts_of (take (length words - 1) (drop 1 words)) = ap texts_of (sym same ∙ first) ∙ (rw rest refl) in
    let spaceless = All-map (LacksByte 32) (λ word. word.now) items (All-from_get_or (λ word. LacksByte 32 word.now) items d (λ k. lack k d)) in
    (joined ∙ ap (join_with_byte 32) parts, subst (All (LacksByte 32)) parts spaceless)

-- what a test decides does not hold where it came out false
pub not_decided : (b : Bool) (P : Type 0) → Decides b P → b ≡ false → P → ⊥
not_decided b P h f p = let t : b ≡ true = h.1 p in let z : true ≡ false = cc in grind arith
