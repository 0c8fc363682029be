-- Optional abilities of a device, one bit each.
use Rattle.std.specs.Prelude.{ℕ, if◌then◌else◌, Ok, Err, Result}
use Rattle.types.specs.Bits.{contains}
use Rattle.types.specs.declared.features.MissingFeatures.{MissingFeatures}

abbrev pub BC : ℕ
BC = 1

abbrev pub BC_SLICED_3D : ℕ
BC_SLICED_3D = 2

abbrev pub ETC2 : ℕ
ETC2 = 4

abbrev pub ASTC : ℕ
ASTC = 8

abbrev pub ASTC_SLICED_3D : ℕ
ASTC_SLICED_3D = 16

abbrev pub DEPTH32FLOAT_STENCIL8 : ℕ
DEPTH32FLOAT_STENCIL8 = 32

abbrev pub NV12_FORMAT : ℕ
NV12_FORMAT = 64

abbrev pub MULTISAMPLE_ARRAY : ℕ
MULTISAMPLE_ARRAY = 128

abbrev pub MULTIVIEW : ℕ
MULTIVIEW = 256

-- the one downlevel flag: views may have another format than their texture
abbrev pub VIEW_FORMATS : ℕ
VIEW_FORMATS = 1

-- nothing is missing where the device has all of these features; else the refusal names them all
abbrev pub required : ℕ → ℕ → Result Unit MissingFeatures
required device features = if contains device features then Ok tt else Err (record { 0 = record { 0 = features } })
