-- Sets of bits held in a number.
use Rattle.std.specs.Prelude.{ℕ, Bool, if◌then◌else◌, not, ◌==◌, bit_and, bit_xor}

-- the set holds each of these bits
abbrev pub contains : ℕ → ℕ → Bool
contains set bits = (bit_and set bits) == bits

-- the set holds one of these bits at least
abbrev pub intersects : ℕ → ℕ → Bool
intersects set bits = not ((bit_and set bits) == 0)

-- the bits of the set that are none of these
abbrev pub difference : ℕ → ℕ → ℕ
difference set bits = bit_xor set (bit_and set bits)

-- `to` where the set holds each bit of `from`, else no bit
abbrev pub map_bit : ℕ → ℕ → ℕ → ℕ
map_bit set from to = if contains set from then to else 0
