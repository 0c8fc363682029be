-- How many levels a texture of a size can have.
use Rattle.std.specs.Prelude.{◌≡◌, ℕ, ◌+◌, ◌-◌, ◌^◌, ◌<◌, ◌≤◌, min, max}
use Rattle.std.specs.Int.Count.{count_leading_zeros}
use Rattle.types.specs.declared.extent.Extent3d.{Extent3d}
use Rattle.types.specs.declared.dimension.TextureDimension.{TextureDimension}
use Rattle.types.specs.declared.dimension.TextureDimension.TheVariants.{D1, D2, D3}

-- the number of binary digits of a number below 2 ^ 32
abbrev pub binary_digits : ℕ → ℕ
binary_digits n = 32 - count_leading_zeros 32 n

-- the largest side: the depth is one in 3D alone
abbrev pub largest_side : Extent3d → TextureDimension → ℕ
largest_side size D1 = size.width
largest_side size D2 = max size.width size.height
largest_side size D3 = max (max size.width size.height) size.depth_or_array_layers

-- the greatest level count: one in 1D, else the binary digits of the largest side, and no more than 16
abbrev pub max_mips : Extent3d → TextureDimension → ℕ
max_mips size D1 = 1
max_mips size D2 = min (binary_digits (largest_side size D2)) 16
max_mips size D3 = min (binary_digits (largest_side size D3)) 16

-- The same by what a binary digit is: outside 1D, a side from 2 ^ k to below 2 ^ (k + 1) has k + 1 of them.
abbrev pub DigitsUpTo16 : Extent3d → TextureDimension → ℕ → Type 0
DigitsUpTo16 size D1 r = r ≡ 1
DigitsUpTo16 size D2 r = (k : ℕ) → 2 ^ k ≤ largest_side size D2 → largest_side size D2 < 2 ^ (k + 1) → r ≡ min (k + 1) 16
DigitsUpTo16 size D3 r = (k : ℕ) → 2 ^ k ≤ largest_side size D3 → largest_side size D3 < 2 ^ (k + 1) → r ≡ min (k + 1) 16
