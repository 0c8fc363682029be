-- What is read off the record of a texture.
use Rattle.std.specs.Prelude.{ℕ, ◌/◌, ◌^◌, max, Bool, false, if◌then◌else◌, Some, None, Option, ◌==◌}
use Rattle.types.specs.Dimension.{is_2d}
use Rattle.types.specs.declared.extent.Extent3d.{Extent3d}
use Rattle.types.specs.declared.texture.Texture.{Texture}

-- the third size in 2D, else one
abbrev pub layers_of : Texture → ℕ
layers_of t = if is_2d t.dimension then t.size.depth_or_array_layers else 1

-- a side at a level: halved as often as the level says, and one texel at least
abbrev pub side_at : ℕ → ℕ → ℕ
side_at side level = max (side / 2 ^ level) 1

abbrev pub is_second_plane : Option ℕ → Bool
is_second_plane None = false
is_second_plane (Some plane) = plane == 1

-- width and height at the level, which the second plane has half of; one deep
abbrev pub render_extent_of : Extent3d → ℕ → Option ℕ → Extent3d
render_extent_of size level plane =
    if is_second_plane plane then record { width = side_at size.width level / 2; height = side_at size.height level / 2; depth_or_array_layers = 1 }
    else record { width = side_at size.width level; height = side_at size.height level; depth_or_array_layers = 1 }
