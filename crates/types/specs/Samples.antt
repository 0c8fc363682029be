-- Which numbers of samples a format's flags allow: one always, and 2, 4, 8 or 16 by a flag each.
use Rattle.std.specs.Prelude.{ℕ, ◌+◌, Bool, true, false, if◌then◌else◌, ◌==◌}
use Rattle.types.specs.Bits.{contains, map_bit}

-- flags
abbrev pub X2 : ℕ
X2 = 1

abbrev pub X4 : ℕ
X4 = 2

abbrev pub X8 : ℕ
X8 = 4

abbrev pub X16 : ℕ
X16 = 8

-- any flag of more than one sample
abbrev pub MULTISAMPLED : ℕ
MULTISAMPLED = 15

abbrev pub READ_ONLY : ℕ
READ_ONLY = 16

abbrev pub WRITE_ONLY : ℕ
WRITE_ONLY = 32

abbrev pub READ_WRITE : ℕ
READ_WRITE = 64

abbrev pub sample_count_supported : ℕ → ℕ → Bool
sample_count_supported flags count =
    if count == 1 then true
    else if count == 2 then contains flags X2
    else if count == 4 then contains flags X4
    else if count == 8 then contains flags X8
    else if count == 16 then contains flags X16
    else false

-- the sum of the counts that the flags allow, one included
abbrev pub supported_sample_counts : ℕ → ℕ
supported_sample_counts flags = 1 + map_bit flags X2 2 + map_bit flags X4 4 + map_bit flags X8 8 + map_bit flags X16 16
