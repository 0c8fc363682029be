-- How many clear views a texture needs.
use Rattle.std.specs.Prelude.{ℕ, ◌*◌, if◌then◌else◌, ◌&&◌, bit_or}
use Rattle.std.specs.Option.{unwrap_or}
use Rattle.types.specs.Bits.{intersects}
use Rattle.types.specs.Dimension.{is_2d}
use Rattle.types.specs.Formats.{planes_of}
use Rattle.types.specs.Uses.{COLOR_TARGET, DEPTH_STENCIL_WRITE}
use Rattle.types.specs.declared.descriptor.TextureDescriptor.{TextureDescriptor}

-- A 2D texture that the host may render to needs a clear view, by which it is cleared, for each level, layer and plane.
-- One that is not planar has one plane. Other textures need none.
abbrev pub clear_views_needed : TextureDescriptor → ℕ → ℕ
clear_views_needed d uses =
    if is_2d d.dimension && intersects uses (bit_or COLOR_TARGET DEPTH_STENCIL_WRITE) then d.mip_level_count * d.size.depth_or_array_layers * unwrap_or (planes_of d.format) 1
    else 0
