-- The table of formats: one row for each.
use Rattle.std.specs.Prelude.{ℕ, Some, None, Option}
use Rattle.types.specs.declared.format.TextureFormat.{TextureFormat}
use Rattle.types.specs.declared.format.TextureFormat.TheVariants.{R8Unorm, Rg8Unorm, Rgba8Unorm, Rgba8UnormSrgb, Bgra8Unorm, Bgra8UnormSrgb, R32Uint, R32Float, Rgba16Float, Rgba32Float, Depth16Unorm, Depth24Plus, Depth32Float, Stencil8, Depth24PlusStencil8, Depth32FloatStencil8, Bc1RgbaUnorm, Bc1RgbaUnormSrgb, EacR11Unorm, Astc8x5Unorm, Astc8x5UnormSrgb, NV12}
use Rattle.types.specs.declared.format_row.FormatRow.{FormatRow}

-- aspects, block, twin, required features, allowed usages, flags
abbrev pub row : ℕ → ℕ → ℕ → Option TextureFormat → ℕ → ℕ → ℕ → FormatRow
row a w h t n u f =
    record {
      aspects = record { 0 = a };
      block_width = w;
      block_height = h;
      twin = t;
      required_features = record { 0 = n };
      guaranteed = record { allowed_usages = record { 0 = u }; flags = record { 0 = f } };
    }

abbrev pub row_of : TextureFormat → FormatRow
row_of R8Unorm = row 1 1 1 None 0 55 2
row_of Rg8Unorm = row 1 1 1 None 0 55 2
row_of Rgba8Unorm = row 1 1 1 (Some Rgba8UnormSrgb) 0 63 50
row_of Rgba8UnormSrgb = row 1 1 1 (Some Rgba8Unorm) 0 55 2
row_of Bgra8Unorm = row 1 1 1 (Some Bgra8UnormSrgb) 0 55 2
row_of Bgra8UnormSrgb = row 1 1 1 (Some Bgra8Unorm) 0 55 2
row_of R32Uint = row 1 1 1 None 0 63 112
row_of R32Float = row 1 1 1 None 0 63 114
row_of Rgba16Float = row 1 1 1 None 0 63 50
row_of Rgba32Float = row 1 1 1 None 0 63 48
row_of Depth16Unorm = row 2 1 1 None 0 55 2
row_of Depth24Plus = row 2 1 1 None 0 55 2
row_of Depth32Float = row 2 1 1 None 0 55 2
row_of Stencil8 = row 4 1 1 None 0 55 2
row_of Depth24PlusStencil8 = row 6 1 1 None 0 55 2
row_of Depth32FloatStencil8 = row 6 1 1 None 32 55 2
row_of Bc1RgbaUnorm = row 1 4 4 (Some Bc1RgbaUnormSrgb) 1 7 0
row_of Bc1RgbaUnormSrgb = row 1 4 4 (Some Bc1RgbaUnorm) 1 7 0
row_of EacR11Unorm = row 1 4 4 None 4 7 0
row_of Astc8x5Unorm = row 1 8 5 (Some Astc8x5UnormSrgb) 8 7 0
row_of Astc8x5UnormSrgb = row 1 8 5 (Some Astc8x5Unorm) 8 7 0
row_of NV12 = row 24 1 1 None 64 4 0
