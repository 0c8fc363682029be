-- The omitted fields of a view request, filled in from the texture.
use Rattle.std.specs.Prelude.{ℕ, ◌-◌, if◌then◌else◌, Some, None, Option, ◌==◌}
use Rattle.std.specs.Option.{unwrap_or}
use Rattle.types.specs.Formats.{part_of}
use Rattle.types.specs.Textures.{layers_of}
use Rattle.types.specs.declared.aspect.TextureAspect.{TextureAspect}
use Rattle.types.specs.declared.dimension.TextureDimension.{TextureDimension}
use Rattle.types.specs.declared.dimension.TextureDimension.TheVariants.{D1 as Texture1D, D2 as Texture2D, D3 as Texture3D}
use Rattle.types.specs.declared.dimension.TextureViewDimension.{TextureViewDimension}
use Rattle.types.specs.declared.dimension.TextureViewDimension.TheVariants.{D1, D2, D2Array, Cube, CubeArray, D3}
use Rattle.types.specs.declared.format.TextureFormat.{TextureFormat}
use Rattle.types.specs.declared.texture.Texture.{Texture}
use Rattle.types.specs.declared.usages.TextureUsages.{TextureUsages}
use Rattle.types.specs.declared.view_descriptor.TextureViewDescriptor.{TextureViewDescriptor}
use Rattle.view_checks.specs.declared.resolve.ResolvedView.{ResolvedView}

-- the part of the texture's format at the aspect, or that format where there is no part
abbrev pub filled_format : TextureFormat → TextureAspect → Option TextureFormat → TextureFormat
filled_format f aspect (Some format) = format
filled_format f aspect None = unwrap_or (part_of f aspect) f

-- a texture of one layer is viewed in its own dimension, one of several as an array
abbrev pub own_dimension : TextureDimension → ℕ → TextureViewDimension
own_dimension Texture1D layers = D1
own_dimension Texture2D layers = if layers == 1 then D2 else D2Array
own_dimension Texture3D layers = D3

abbrev pub filled_dimension : Texture → Option TextureViewDimension → TextureViewDimension
filled_dimension t (Some dimension) = dimension
filled_dimension t None = own_dimension t.dimension (layers_of t)

-- omitted or empty: the texture's
abbrev pub filled_usage : TextureUsages → Option TextureUsages → TextureUsages
filled_usage own (Some usage) = if usage.0 == 0 then own else usage
filled_usage own None = own

-- every level from the first one on: none where that lies past the last
abbrev pub filled_levels : Texture → ℕ → Option ℕ → ℕ
filled_levels t first (Some count) = count
filled_levels t first None = t.mip_level_count - first

-- the layers that a dimension always has, or every one from the first on
abbrev pub own_layers : ℕ → ℕ → TextureViewDimension → ℕ
own_layers layers first D1 = 1
own_layers layers first D2 = 1
own_layers layers first D2Array = layers - first
own_layers layers first Cube = 6
own_layers layers first CubeArray = layers - first
own_layers layers first D3 = 1

abbrev pub filled_layers : Texture → TextureViewDimension → ℕ → Option ℕ → ℕ
filled_layers t dimension first (Some count) = count
filled_layers t dimension first None = own_layers (layers_of t) first dimension

abbrev pub resolved : Texture → TextureViewDescriptor → ResolvedView
resolved t d =
    record {
      format = filled_format t.format d.range.aspect d.format;
      dimension = filled_dimension t d.dimension;
      usage = filled_usage t.usage d.usage;
      aspect = d.range.aspect;
      base_mip_level = d.range.base_mip_level;
      mip_level_count = filled_levels t d.range.base_mip_level d.range.mip_level_count;
      base_array_layer = d.range.base_array_layer;
      array_layer_count = filled_layers t (filled_dimension t d.dimension) d.range.base_array_layer d.range.array_layer_count;
    }
