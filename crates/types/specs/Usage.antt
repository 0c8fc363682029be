-- What a container may ask to use a texture for, one bit each.
use Rattle.std.specs.Prelude.{ℕ}

abbrev pub COPY_SRC : ℕ
COPY_SRC = 1

abbrev pub COPY_DST : ℕ
COPY_DST = 2

abbrev pub TEXTURE_BINDING : ℕ
TEXTURE_BINDING = 4

abbrev pub STORAGE_BINDING : ℕ
STORAGE_BINDING = 8

abbrev pub RENDER_ATTACHMENT : ℕ
RENDER_ATTACHMENT = 16

abbrev pub TRANSIENT_ATTACHMENT : ℕ
TRANSIENT_ATTACHMENT = 32

abbrev pub STORAGE_ATOMIC : ℕ
STORAGE_ATOMIC = 64

-- every usage that is known
abbrev pub ALL_USAGES : ℕ
ALL_USAGES = 127
