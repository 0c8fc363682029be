-- What is read off a format's row.
use Rattle.std.specs.Prelude.{ℕ, Bool, if◌then◌else◌, not, ◌||◌, Some, None, Ok, Err, Option, Result, ◌==◌, bit_and}
use Rattle.types.specs.Aspect.{DEPTH, STENCIL, PLANES, DEPTH_STENCIL, wanted_aspects}
use Rattle.types.specs.Bits.{contains, intersects}
use Rattle.types.specs.Features.{BC, ASTC}
use Rattle.types.specs.Format.{same_format}
use Rattle.types.specs.Row.{row_of}
use Rattle.types.specs.declared.aspect.TextureAspect.{TextureAspect}
use Rattle.types.specs.declared.aspect.TextureAspect.TheVariants.{All, DepthOnly, StencilOnly, Plane0, Plane1}
use Rattle.types.specs.declared.features.MissingFeatures.{MissingFeatures}
use Rattle.types.specs.declared.format.TextureFormat.{TextureFormat}
use Rattle.types.specs.declared.format.TextureFormat.TheVariants.{R8Unorm, Rg8Unorm, Stencil8, Depth24Plus, Depth32Float, Depth24PlusStencil8, Depth32FloatStencil8}
use Rattle.types.specs.declared.format_features.TextureFormatFeatures.{TextureFormatFeatures}

abbrev pub aspects_of : TextureFormat → ℕ
aspects_of f = (row_of f).aspects.0

-- what a format has of the aspect that is wanted
abbrev pub selected_aspects : TextureFormat → TextureAspect → ℕ
selected_aspects f aspect = bit_and (aspects_of f) (wanted_aspects aspect)

abbrev pub twin_of : TextureFormat → Option TextureFormat
twin_of f = (row_of f).twin

abbrev pub required_features_of : TextureFormat → ℕ
required_features_of f = (row_of f).required_features.0

-- block width and block height
abbrev pub block_dimensions : TextureFormat → ℕ × ℕ
block_dimensions f = ((row_of f).block_width, (row_of f).block_height)

abbrev pub is_depth_stencil : TextureFormat → Bool
is_depth_stencil f = intersects (aspects_of f) DEPTH_STENCIL

-- a block of more than one texel
abbrev pub is_compressed : TextureFormat → Bool
is_compressed f = not ((row_of f).block_width == 1) || not ((row_of f).block_height == 1)

abbrev pub is_bcn : TextureFormat → Bool
is_bcn f = required_features_of f == BC

abbrev pub is_astc : TextureFormat → Bool
is_astc f = required_features_of f == ASTC

abbrev pub is_planar : TextureFormat → Bool
is_planar f = intersects (aspects_of f) PLANES

-- planar formats have two planes
abbrev pub planes_of : TextureFormat → Option ℕ
planes_of f = if is_planar f then Some 2 else None

-- two by two for a planar format, else the block
abbrev pub size_multiple : TextureFormat → ℕ × ℕ
size_multiple f = if is_planar f then (2, 2) else block_dimensions f

-- a format of depth alone is its own depth part; a combined one has the depth format of its width
abbrev pub depth_part : TextureFormat → Option TextureFormat
depth_part f =
    if aspects_of f == DEPTH then Some f
    else if same_format f Depth24PlusStencil8 then Some Depth24Plus
    else if same_format f Depth32FloatStencil8 then Some Depth32Float else None

-- the part of a format at an aspect, itself a format: a planar format has none at "all"
abbrev pub part_of : TextureFormat → TextureAspect → Option TextureFormat
part_of f All = if is_planar f then None else Some f
part_of f DepthOnly = depth_part f
part_of f StencilOnly = if contains (aspects_of f) STENCIL then Some Stencil8 else None
part_of f Plane0 = if is_planar f then Some R8Unorm else None
part_of f Plane1 = if is_planar f then Some Rg8Unorm else None

-- what a device with these features may do with a format that it has
abbrev pub guaranteed_features : TextureFormat → ℕ → TextureFormatFeatures
guaranteed_features f features = (row_of f).guaranteed

-- the format's row once the feature that it needs is on, else what is missing
abbrev pub described_features : ℕ → TextureFormat → Result TextureFormatFeatures MissingFeatures
described_features features f =
    if contains features (required_features_of f) then Ok (guaranteed_features f features) else Err (record { 0 = record { 0 = required_features_of f } })
