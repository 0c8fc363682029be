-- Why a line of a file of answers cannot be read.
use Rattle.std.specs.Prelude.{◌≡◌, ℕ, ◌+◌, ◌-◌, ◌^◌, ◌<◌, ◌≤◌, Bool, ◌⊎◌, List, [], length, codes, ◌≢◌, slice_index, slice_index_or}
use Rattle.std.specs.Str.Parse.{IsNumeral, digits_value}
use Rattle.types.specs.declared.aspect.TextureAspect.{TextureAspect}
use Rattle.answers.specs.Lines.{Commented, IsAspect, Number, Words, answer_word}
use Rattle.answers.specs.declared.line.LineError.{LineError}
use Rattle.answers.specs.declared.line.LineError.TheVariants.{UnknownMark, WrongFieldCount, NotDecimal, UnknownDimension, UnknownFormat, UnknownAspect, UnknownAnswer, OutOfMemory}

-- a decimal numeral of 32 bits
abbrev pub Decimal : List ℕ → Type 0
Decimal word = IsNumeral 10 word × (digits_value 10 word < 2 ^ 32)

-- no dimension has this number
abbrev pub NoDimension : ℕ → Type 0
NoDimension n = 1 ≤ n → n ≤ 3 → ⊥

-- no format has this code
abbrev pub NoFormat : ℕ → Type 0
NoFormat n = 1 ≤ n → n ≤ 21 → ⊥

-- the word is neither `yes` nor `no`
abbrev pub NoAnswer : List ℕ → Type 0
NoAnswer word = (accepted : Bool) → word ≢ answer_word accepted

-- the dimension of no view has this number
abbrev pub NoViewDimension : ℕ → Type 0
NoViewDimension n = 1 ≤ n → n ≤ 6 → ⊥

-- what is wrong with a word that should be a number
abbrev pub NumberFault : List ℕ → LineError → Type 0
NumberFault word error = (error ≡ NotDecimal) × (Decimal word → ⊥)

-- what is wrong with a word that should be a code: it is no number, or one that stands for nothing
abbrev pub CodeFault : (ℕ → Type 0) → (ℕ → LineError) → List ℕ → LineError → Type 0
CodeFault Nothing unknown word error = NumberFault word error ⊎ ((n : ℕ) × Number word n × Nothing n × (error ≡ unknown n))

-- what is wrong with a word that is not omitted
abbrev pub WordFault : (List ℕ → LineError → Type 0) → List ℕ → LineError → Type 0
WordFault Wrong word error = (word ≢ codes "-") × Wrong word error

-- what is wrong with a word that should be an aspect
abbrev pub AspectFault : List ℕ → LineError → Type 0
AspectFault word error = (error ≡ UnknownAspect) × ((aspect : TextureAspect) → IsAspect word aspect → ⊥)

-- what is wrong with a word that should be an answer
abbrev pub AnswerFault : List ℕ → LineError → Type 0
AnswerFault word error = (error ≡ UnknownAnswer) × NoAnswer word

-- what is wrong with words that should be numbers: one of them is none
abbrev pub NumbersFault : List (List ℕ) → LineError → Type 0
NumbersFault words UnknownMark = ⊥
NumbersFault words WrongFieldCount = ⊥
NumbersFault words NotDecimal = (k : ℕ) × (k < length words) × (Decimal (slice_index_or words k []) → ⊥)
NumbersFault words (UnknownDimension n) = ⊥
NumbersFault words (UnknownFormat n) = ⊥
NumbersFault words UnknownAspect = ⊥
NumbersFault words UnknownAnswer = ⊥
NumbersFault words OutOfMemory = Unit {0}

-- what is wrong with the codes of formats: one of them is none
abbrev pub FormatsFault : List ℕ → LineError → Type 0
FormatsFault numbers UnknownMark = ⊥
FormatsFault numbers WrongFieldCount = ⊥
FormatsFault numbers NotDecimal = ⊥
FormatsFault numbers (UnknownDimension n) = ⊥
FormatsFault numbers (UnknownFormat n) = ((k : ℕ) × (k < length numbers) × (slice_index numbers k ≡ n)) × NoFormat n
FormatsFault numbers UnknownAspect = ⊥
FormatsFault numbers UnknownAnswer = ⊥
FormatsFault numbers OutOfMemory = Unit {0}

-- where a request has codes of formats: its own, and those of the view formats
abbrev pub FormatPlace : ℕ → Type 0
FormatPlace k = (k ≡ 6) ⊎ (9 ≤ k)

-- what is wrong with the numbers of a request, which are nine and then as many view formats as the ninth says
abbrev pub RequestFault : List ℕ → LineError → Type 0
RequestFault numbers UnknownMark = ⊥
RequestFault numbers WrongFieldCount = length numbers ≡ 9 + slice_index numbers 8 → ⊥
RequestFault numbers NotDecimal = ⊥
RequestFault numbers (UnknownDimension n) = (5 < length numbers) × (slice_index numbers 5 ≡ n) × NoDimension n
RequestFault numbers (UnknownFormat n) = ((k : ℕ) × FormatPlace k × (k < length numbers) × (slice_index numbers k ≡ n)) × NoFormat n
RequestFault numbers UnknownAspect = ⊥
RequestFault numbers UnknownAnswer = ⊥
RequestFault numbers OutOfMemory = Unit {0}

-- the field at k, which is not the last, writes the number n
abbrev pub WritesAt : List (List ℕ) → ℕ → ℕ → Type 0
WritesAt fields k n = (k + 1 < length fields) × IsNumeral 10 (slice_index_or fields k []) × (digits_value 10 (slice_index_or fields k []) ≡ n)

-- what is wrong with the fields after `T`, which are the numbers of a request and then the answer
abbrev pub TextureFault : List (List ℕ) → LineError → Type 0
TextureFault fields UnknownMark = ⊥
TextureFault fields WrongFieldCount = (length fields < 10) ⊎ ((n : ℕ) × WritesAt fields 8 n × (length fields ≢ 10 + n))
TextureFault fields NotDecimal = (k : ℕ) × (k + 1 < length fields) × (Decimal (slice_index_or fields k []) → ⊥)
TextureFault fields (UnknownDimension n) = WritesAt fields 5 n × NoDimension n
TextureFault fields (UnknownFormat n) = ((k : ℕ) × FormatPlace k × WritesAt fields k n) × NoFormat n
TextureFault fields UnknownAspect = ⊥
TextureFault fields UnknownAnswer = (0 < length fields) × NoAnswer (slice_index_or fields (length fields - 1) [])
TextureFault fields OutOfMemory = Unit {0}

-- what is wrong with the fields after `F`, which are one number
abbrev pub FeaturesFault : List (List ℕ) → LineError → Type 0
FeaturesFault fields UnknownMark = ⊥
FeaturesFault fields WrongFieldCount = length fields ≡ 1 → ⊥
FeaturesFault fields NotDecimal = (length fields ≡ 1) × (Decimal (slice_index_or fields 0 []) → ⊥)
FeaturesFault fields (UnknownDimension n) = ⊥
FeaturesFault fields (UnknownFormat n) = ⊥
FeaturesFault fields UnknownAspect = ⊥
FeaturesFault fields UnknownAnswer = ⊥
FeaturesFault fields OutOfMemory = ⊥

-- which of the nine fields after `V` is wrong, and how
abbrev pub FieldFault : List (List ℕ) → LineError → Type 0
FieldFault fields error =
    WordFault (CodeFault NoFormat UnknownFormat) (slice_index_or fields 0 []) error
    ⊎ WordFault (CodeFault NoViewDimension UnknownDimension) (slice_index_or fields 1 []) error
    ⊎ WordFault NumberFault (slice_index_or fields 2 []) error
    ⊎ AspectFault (slice_index_or fields 3 []) error
    ⊎ NumberFault (slice_index_or fields 4 []) error
    ⊎ WordFault NumberFault (slice_index_or fields 5 []) error
    ⊎ NumberFault (slice_index_or fields 6 []) error
    ⊎ WordFault NumberFault (slice_index_or fields 7 []) error
    ⊎ AnswerFault (slice_index_or fields 8 []) error

-- what is wrong with the fields after `V`
abbrev pub ViewFault : List (List ℕ) → LineError → Type 0
ViewFault fields error =
    ((error ≡ WrongFieldCount) × (length fields ≢ 9))
    ⊎ ((length fields ≡ 9) × FieldFault fields error)

-- what is wrong after a mark where a file has answers on textures alone
abbrev pub TextureMarkFault : List ℕ → List (List ℕ) → LineError → Type 0
TextureMarkFault mark fields error =
    ((mark ≡ codes "T") × TextureFault fields error)
    ⊎ ((mark ≢ codes "T") × (error ≡ UnknownMark))

-- what is wrong where it has answers on views too
abbrev pub AnyMarkFault : List ℕ → List (List ℕ) → LineError → Type 0
AnyMarkFault mark fields error =
    ((mark ≡ codes "V") × ViewFault fields error)
    ⊎ ((mark ≢ codes "V") × TextureMarkFault mark fields error)

-- what is wrong with the words of a line, by its mark, where other marks than `F` are those of answers
abbrev pub WordsFault : (List ℕ → List (List ℕ) → LineError → Type 0) → List ℕ → List (List ℕ) → LineError → Type 0
WordsFault Wrong mark fields error =
    ((mark ≡ codes "F") × FeaturesFault fields error)
    ⊎ ((mark ≢ codes "F") × Wrong mark fields error)

-- A line that is refused is no comment. Either memory ran out, of which nothing more is claimed, or the line's words have the fault.
abbrev pub Fault : (List ℕ → List (List ℕ) → LineError → Type 0) → List ℕ → LineError → Type 0
Fault Wrong text error =
    (Commented text → ⊥)
    × ((error ≡ OutOfMemory)
    ⊎ ((mark : List ℕ) × (fields : List (List ℕ)) × Words text mark fields × WordsFault Wrong mark fields error))
