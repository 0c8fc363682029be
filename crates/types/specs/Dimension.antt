-- Dimensions of textures and views.
use Rattle.std.specs.Prelude.{ℕ, Bool, true, false}
use Rattle.types.specs.declared.dimension.TextureDimension.{TextureDimension}
use Rattle.types.specs.declared.dimension.TextureDimension.TheVariants.{D1, D2, D3}
use Rattle.types.specs.declared.dimension.TextureViewDimension.{TextureViewDimension}
use Rattle.types.specs.declared.dimension.TextureViewDimension.TheVariants.{D1 as View1D, D2 as View2D, D2Array, Cube, CubeArray, D3 as View3D}

abbrev pub dimension_code : TextureDimension → ℕ
dimension_code D1 = 1
dimension_code D2 = 2
dimension_code D3 = 3

abbrev pub is_1d : TextureDimension → Bool
is_1d D1 = true
is_1d D2 = false
is_1d D3 = false

abbrev pub is_2d : TextureDimension → Bool
is_2d D1 = false
is_2d D2 = true
is_2d D3 = false

abbrev pub is_3d : TextureDimension → Bool
is_3d D1 = false
is_3d D2 = false
is_3d D3 = true

-- the number by which a refusal names the dimension of a view
abbrev pub view_dimension_code : TextureViewDimension → ℕ
view_dimension_code View1D = 1
view_dimension_code View2D = 2
view_dimension_code D2Array = 3
view_dimension_code Cube = 4
view_dimension_code CubeArray = 5
view_dimension_code View3D = 6

-- the dimension of the textures that can be viewed so
abbrev pub texture_dimension : TextureViewDimension → TextureDimension
texture_dimension View1D = D1
texture_dimension View2D = D2
texture_dimension D2Array = D2
texture_dimension Cube = D2
texture_dimension CubeArray = D2
texture_dimension View3D = D3
