-- What a line of a file of answers says.
use Rattle.std.specs.Prelude.{◌≡◌, ◌≢◌, ℕ, Bool, true, false, ◌⊎◌, List, [], ◌∷◌, ◌++◌, All, map, length, Some, None, vec_items, codes, Option, slice_index, slice_index_or}
use Rattle.std.specs.Borrow.{Bor}
use Rattle.std.specs.Str.Iter.{LacksByte}
use Rattle.std.specs.List.{join_with_byte}
use Rattle.std.specs.Str.Parse.{IsNumeral, digits_value}
use Rattle.types.specs.Dimension.{dimension_code, view_dimension_code}
use Rattle.types.specs.Format.{code_of}
use Rattle.types.specs.declared.aspect.TextureAspect.{TextureAspect}
use Rattle.types.specs.declared.aspect.TextureAspect.TheVariants.{All as Every, DepthOnly, StencilOnly, Plane0, Plane1}
use Rattle.answers.specs.declared.line.AnyAnswer.{AnyAnswer}
use Rattle.answers.specs.declared.line.AnyAnswer.TheVariants.{Texture, View}
use Rattle.answers.specs.declared.line.Line.{Line}
use Rattle.answers.specs.declared.line.Line.TheVariants.{Comment, Features, Answer}
use Rattle.answers.specs.declared.line.StoredAnswer.{StoredAnswer}
use Rattle.answers.specs.declared.line.TextureRequest.{TextureRequest}
use Rattle.types.specs.declared.view_descriptor.TextureViewDescriptor.{TextureViewDescriptor}

-- what the words of a slice hold
abbrev pub texts_of : List (Bor (List ℕ)) → List (List ℕ)
texts_of words = map (λ word. word.now) words

-- words of decimal digits, and the numbers that they write
abbrev pub Write : List (List ℕ) → List ℕ → Type 0
Write words numbers = All (IsNumeral 10) words × (map (digits_value 10) words ≡ numbers)

-- the numbers of a request, in the order of the line's fields
abbrev pub numbers_of : TextureRequest → List ℕ
numbers_of t =
    t.size.width
    ∷ t.size.height
    ∷ t.size.depth_or_array_layers
    ∷ t.mip_level_count
    ∷ t.sample_count
    ∷ dimension_code t.dimension
    ∷ code_of t.format
    ∷ t.usage.0
    ∷ length (vec_items t.view_formats)
    ∷ map code_of (vec_items t.view_formats)

-- the word for whether a request was accepted
abbrev pub answer_word : Bool → List ℕ
answer_word true = codes "yes"
answer_word false = codes "no"

-- the words of a request, and then the one for its answer
abbrev pub Answered : List (List ℕ) → StoredAnswer TextureRequest → Type 0
Answered words a =
    (fields : List (List ℕ)) × (words ≡ fields ++ answer_word a.accepted ∷ []) × Write fields (numbers_of a.request)

-- a word of decimal digits, and the number that it writes
abbrev pub Number : List ℕ → ℕ → Type 0
Number word n = IsNumeral 10 word × (digits_value 10 word ≡ n)

-- a word for a value, or `-` where it is omitted
abbrev pub Omittable : {X : Type 0} → (List ℕ → X → Type 0) → List ℕ → Option X → Type 0
Omittable Stands word None = word ≡ codes "-"
Omittable Stands word (Some x) = Stands word x

-- the word for an aspect: the planes have none
abbrev pub IsAspect : List ℕ → TextureAspect → Type 0
IsAspect word Every = word ≡ codes "a"
IsAspect word DepthOnly = word ≡ codes "d"
IsAspect word StencilOnly = word ≡ codes "s"
IsAspect word Plane0 = ⊥
IsAspect word Plane1 = ⊥

-- the nine words of a view's request and of its answer
pub record ViewAnswered (words : List (List ℕ)) (a : StoredAnswer TextureViewDescriptor) : Type 0 where
  pub nine : length words ≡ 9
  pub format : Omittable (λ word f. Number word (code_of f)) (slice_index_or words 0 []) a.request.format
  pub dimension : Omittable (λ word d. Number word (view_dimension_code d)) (slice_index_or words 1 []) a.request.dimension
  pub usage : Omittable (λ word u. Number word u.0) (slice_index_or words 2 []) a.request.usage
  pub aspect : IsAspect (slice_index_or words 3 []) a.request.range.aspect
  pub first_level : Number (slice_index_or words 4 []) a.request.range.base_mip_level
  pub levels : Omittable Number (slice_index_or words 5 []) a.request.range.mip_level_count
  pub first_layer : Number (slice_index_or words 6 []) a.request.range.base_array_layer
  pub layers : Omittable Number (slice_index_or words 7 []) a.request.range.array_layer_count
  pub answer : slice_index_or words 8 [] ≡ answer_word a.accepted

-- what the fields after a mark say where a file has answers on textures alone
abbrev pub TextureSays : List ℕ → List (List ℕ) → StoredAnswer TextureRequest → Type 0
TextureSays mark fields a = (mark ≡ codes "T") × Answered fields a

-- what they say where it has answers on views too
abbrev pub AnySays : List ℕ → List (List ℕ) → AnyAnswer → Type 0
AnySays mark fields (Texture a) = TextureSays mark fields a
AnySays mark fields (View a) = (mark ≡ codes "V") × ViewAnswered fields a

-- what the words of a line say, by its mark, where other marks than `F` are those of answers
abbrev pub WordsSay : {A : Type 0} → (List ℕ → List (List ℕ) → A → Type 0) → List ℕ → List (List ℕ) → Line A → Type 0
WordsSay Say mark fields Comment = ⊥
WordsSay Say mark fields (Features f) = (mark ≡ codes "F") × Write fields (f.0 ∷ [])
WordsSay Say mark fields (Answer a) = (mark ≢ codes "F") × Say mark fields a

-- a comment begins with '#'
abbrev pub Commented : List ℕ → Type 0
Commented text = slice_index text 0 ≡ 35

-- the mark of a line and its fields, with a space between each two and none inside
abbrev pub Words : List ℕ → List ℕ → List (List ℕ) → Type 0
Words text mark fields = (text ≡ join_with_byte 32 (mark ∷ fields)) × All (LacksByte 32) (mark ∷ fields)

-- what a line says, where the fields of its answers say so much
abbrev pub Says : {A : Type 0} → (List ℕ → List (List ℕ) → A → Type 0) → List ℕ → Line A → Type 0
Says Say text line =
    (Commented text × (line ≡ Comment))
    ⊎ ((Commented text → ⊥) × ((mark : List ℕ) × (fields : List (List ℕ)) × Words text mark fields × WordsSay Say mark fields line))
