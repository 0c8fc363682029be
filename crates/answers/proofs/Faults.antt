-- A fault in a part of a line, as a fault of the whole.
use Rattle.std.proofs.Common.{◌≡◌, ℕ, ◌+◌, ◌-◌, ◌<◌, ◌≤◌, List, [], length, get_or, take, drop, IsErrAnd, Ok, Err, Result, sym, refl, ap, ◌∙◌, subst, inl, inr, arith, Bor, MatchResult}
use Rattle.std.proofs.lemmas.List.Elements.{All-get_or}
use Rattle.std.proofs.lemmas.List.{get_or-drop, get_or-map, get_or-take, length-drop, length-map, length-take-le, take-map, take_rest}
use Rattle.std.proofs.lemmas.Bool.{cases_lt}
use Rattle.std.specs.Str.Parse.{IsNumeral, digits_value}
use Rattle.answers.specs.Faults.{FormatsFault, NumbersFault, RequestFault, TextureFault, WritesAt}
use Rattle.answers.specs.Lines.{Write, texts_of}
use Rattle.answers.specs.declared.line.LineError.{LineError}
use Rattle.answers.specs.declared.line.LineError.TheVariants.{UnknownMark, WrongFieldCount, NotDecimal, UnknownDimension, UnknownFormat, UnknownAspect, UnknownAnswer, OutOfMemory}

-- a function that hands on an error, of which Q holds
pub hands_on : {T : Type 0} (r : Result T LineError) (P : T → Type 0) (Q : LineError → Type 0) (error : LineError)
    → IsErrAnd r (λ e. e ≡ error) → Q error → MatchResult r P Q
hands_on (Ok x) P Q error same fault = absurd same
hands_on (Err e) P Q error same fault = subst Q (sym same) fault

-- view formats stand after the first nine numbers
pub formats_in_request : (ns : List ℕ) (error : LineError) → 9 ≤ length ns
    → FormatsFault (take (length ns - 9) (drop 9 ns)) error → RequestFault ns error
formats_in_request ns UnknownMark long h = h
formats_in_request ns WrongFieldCount long h = absurd h
formats_in_request ns NotDecimal long h = h
formats_in_request ns (UnknownDimension n) long h = absurd h
formats_in_request ns (UnknownFormat n) long h =
    let k = h.0.0 in
    let within : k < length (drop 9 ns) = rw (take_rest ns 9) at h.0.1 in
    let here : get_or (drop 9 ns) k 0 ≡ n = rw (take_rest ns 9) at h.0.2 in
    ((9 + k, inr (omega arith), omega (arith, length-drop 9 ns), sym (get_or-drop 9 ns k 0) ∙ here), h.1)
formats_in_request ns UnknownAspect long h = h
formats_in_request ns UnknownAnswer long h = h
formats_in_request ns OutOfMemory long h = tt

-- the numbers of a line with `T` are all its fields but the last
pub numbers_in_line : (fields : List (List ℕ)) (error : LineError) → 1 ≤ length fields
    → NumbersFault (take (length fields - 1) fields) error → TextureFault fields error
numbers_in_line fields UnknownMark some h = h
numbers_in_line fields WrongFieldCount some h = absurd h
numbers_in_line fields NotDecimal some h =
    let k = h.0 in
    let within : k < length fields - 1 = omega (arith, h.1, length-take-le (length fields - 1) fields (omega arith)) in
    (k, omega arith, rw (get_or-take (length fields - 1) fields k [] within) at h.2)
numbers_in_line fields (UnknownDimension n) some h = absurd h
numbers_in_line fields (UnknownFormat n) some h = absurd h
numbers_in_line fields UnknownAspect some h = absurd h
numbers_in_line fields UnknownAnswer some h = absurd h
numbers_in_line fields OutOfMemory some h = tt

-- a number at its place, and the field that writes it
module _ (fields : List (List ℕ)) (ns : List ℕ) (some : 1 ≤ length fields) (w : Write (take (length fields - 1) fields) ns) where
  front_length : length ns ≡ length fields - 1
  front_length =
      ap length (sym w.1) ∙ length-map (take (length fields - 1) fields) (digits_value 10) ∙ length-take-le (length fields - 1) fields (omega arith)

  field_value : (k : ℕ) → k < length ns → digits_value 10 (get_or fields k []) ≡ get_or ns k 0
  field_value k within =
      let inside : k < length fields - 1 = omega (arith, front_length) in
      let inside' : k < length (take (length fields - 1) fields) = omega (arith, length-take-le (length fields - 1) fields (omega arith)) in
      ap (digits_value 10) (sym (get_or-take (length fields - 1) fields k [] inside))
      ∙ sym (get_or-map (digits_value 10) (take (length fields - 1) fields) k [] 0 inside')
      ∙ ap (λ xs. get_or xs k 0) w.1

  writes_at : (k n : ℕ) → k < length ns → get_or ns k 0 ≡ n → WritesAt fields k n
  writes_at k n within e =
      let inside : k < length fields - 1 = omega (arith, front_length) in
      let inside' : k < length (take (length fields - 1) fields) = omega (arith, length-take-le (length fields - 1) fields (omega arith)) in (
        omega arith,
        rw (get_or-take (length fields - 1) fields k [] inside) at (All-get_or (IsNumeral 10) (take (length fields - 1) fields) k [] inside' w.0),
        field_value k within ∙ e,
      )

  wrong_count : (length ns ≡ 9 + get_or ns 8 0 → ⊥) → TextureFault fields WrongFieldCount
  wrong_count bad =
      elim (cases_lt 8 (length ns)) [
        | inl long ↦ inr (get_or ns 8 0, writes_at 8 (get_or ns 8 0) long refl, λ e. bad (omega (arith, front_length)))
        | inr short ↦ inl (omega (arith, front_length))
      ]

  pub request_in_line : (error : LineError) → RequestFault ns error → TextureFault fields error
  request_in_line UnknownMark h = h
  request_in_line WrongFieldCount h = wrong_count h
  request_in_line NotDecimal h = absurd h
  request_in_line (UnknownDimension n) h = (writes_at 5 n h.0 h.1, h.2)
  request_in_line (UnknownFormat n) h = ((h.0.0, h.0.1, writes_at h.0.0 n h.0.2 h.0.3), h.1)
  request_in_line UnknownAspect h = absurd h
  request_in_line UnknownAnswer h = absurd h
  request_in_line OutOfMemory h = tt

-- all words but the last, as texts
pub front_texts : (words : List (Bor (List ℕ)))
    → texts_of (take (length words - 1) words) ≡ take (length (texts_of words) - 1) (texts_of words)
front_texts words =
    rw (length-map words (λ word. word.now)) (sym (take-map (λ word. word.now) (length words - 1) words))
