-- What the host is told that a texture is used for, one bit each.
use Rattle.std.specs.Prelude.{◌≡◌, ℕ, true, false, if◌then◌else◌, ◌&&◌, ◌⊎◌, bit_or}
use Rattle.types.specs.Aspect.{COLOURED}
use Rattle.types.specs.Bits.{contains, intersects, map_bit}
use Rattle.types.specs.Dimension.{is_2d}
use Rattle.types.specs.Formats.{aspects_of, is_depth_stencil}
use Rattle.types.specs.Samples.{READ_ONLY, WRITE_ONLY, READ_WRITE}
use Rattle.types.specs.Usage.{COPY_SRC, COPY_DST, TEXTURE_BINDING, STORAGE_BINDING, RENDER_ATTACHMENT, TRANSIENT_ATTACHMENT, STORAGE_ATOMIC}
use Rattle.types.specs.declared.dimension.TextureDimension.{TextureDimension}
use Rattle.types.specs.declared.format.TextureFormat.{TextureFormat}
use Rattle.types.specs.declared.format_features.TextureFormatFeatures.{TextureFormatFeatures}

abbrev pub USE_COPY_SRC : ℕ
USE_COPY_SRC = 1

abbrev pub USE_COPY_DST : ℕ
USE_COPY_DST = 2

abbrev pub RESOURCE : ℕ
RESOURCE = 4

abbrev pub COLOR_TARGET : ℕ
COLOR_TARGET = 8

abbrev pub DEPTH_STENCIL_READ : ℕ
DEPTH_STENCIL_READ = 16

abbrev pub DEPTH_STENCIL_WRITE : ℕ
DEPTH_STENCIL_WRITE = 32

abbrev pub USE_READ_ONLY : ℕ
USE_READ_ONLY = 64

abbrev pub USE_WRITE_ONLY : ℕ
USE_WRITE_ONLY = 128

abbrev pub USE_READ_WRITE : ℕ
USE_READ_WRITE = 256

abbrev pub USE_ATOMIC : ℕ
USE_ATOMIC = 512

abbrev pub TRANSIENT : ℕ
TRANSIENT = 1024

-- storage in the ways that the format's flags allow
abbrev pub storage_uses : ℕ → ℕ → ℕ
storage_uses usage flags =
    if contains usage STORAGE_BINDING then bit_or (bit_or (map_bit flags READ_ONLY USE_READ_ONLY) (map_bit flags WRITE_ONLY USE_WRITE_ONLY)) (map_bit flags READ_WRITE USE_READ_WRITE)
    else 0

-- rendering by the kind of aspect
abbrev pub render_uses : ℕ → ℕ → ℕ
render_uses usage aspects =
    if contains usage RENDER_ATTACHMENT then if intersects aspects COLOURED then COLOR_TARGET else bit_or DEPTH_STENCIL_READ DEPTH_STENCIL_WRITE else 0

-- each use that was asked for
abbrev pub host_uses : ℕ → ℕ → ℕ → ℕ
host_uses usage aspects flags =
    bit_or (bit_or (bit_or (bit_or (bit_or (bit_or
    (map_bit usage COPY_SRC USE_COPY_SRC)
    (map_bit usage COPY_DST USE_COPY_DST))
    (map_bit usage TEXTURE_BINDING RESOURCE))
    (storage_uses usage flags))
    (render_uses usage aspects))
    (map_bit usage STORAGE_ATOMIC USE_ATOMIC))
    (map_bit usage TRANSIENT_ATTACHMENT TRANSIENT)

-- a use by which the texture can be cleared: writing depth and stencil, else the copies that were asked for, else rendering
-- where the format and the dimension have it, else copies all the same
abbrev pub clearing_use : ℕ → TextureFormat → TextureDimension → ℕ → ℕ
clearing_use usage format dimension allowed =
    if is_depth_stencil format then DEPTH_STENCIL_WRITE
    else if contains usage COPY_DST then USE_COPY_DST
    else if contains allowed RENDER_ATTACHMENT && is_2d dimension then COLOR_TARGET else USE_COPY_DST

abbrev pub texture_uses : ℕ → TextureFormat → TextureDimension → TextureFormatFeatures → ℕ
texture_uses usage format dimension features =
    bit_or (host_uses usage (aspects_of format) features.flags.0) (clearing_use usage format dimension features.allowed_usages.0)

-- A texture can always be cleared: depth and stencil by writing them, anything else by a copy or by rendering.
abbrev pub Clearable : TextureFormat → ℕ → Type 0
Clearable format uses =
    (is_depth_stencil format ≡ true → contains uses DEPTH_STENCIL_WRITE ≡ true)
    × (is_depth_stencil format ≡ false → (contains uses USE_COPY_DST ≡ true) ⊎ (contains uses COLOR_TARGET ≡ true))
