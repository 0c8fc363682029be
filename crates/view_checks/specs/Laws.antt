-- What holds of every accepted view.
use Rattle.std.specs.Prelude.{◌≡◌, ℕ, ◌+◌, ◌*◌, ◌<◌, ◌≤◌, true, false, ◌⊎◌, Ok}
use Rattle.types.specs.Bits.{contains, intersects}
use Rattle.types.specs.Formats.{aspects_of, described_features, guaranteed_features}
use Rattle.types.specs.Textures.{layers_of}
use Rattle.types.specs.Usage.{RENDER_ATTACHMENT, STORAGE_BINDING}
use Rattle.types.specs.Uses.{host_uses}
use Rattle.types.specs.declared.dimension.TextureViewDimension.{TextureViewDimension}
use Rattle.types.specs.declared.dimension.TextureViewDimension.TheVariants.{Cube, CubeArray, D3}
use Rattle.types.specs.declared.extent.Extent3d.{Extent3d}
use Rattle.types.specs.declared.format.TextureFormat.{TextureFormat}
use Rattle.types.specs.declared.format_features.TextureFormatFeatures.{TextureFormatFeatures}
use Rattle.types.specs.declared.texture.Texture.{Texture}
use Rattle.types.specs.declared.view.TextureView.{TextureView}
use Rattle.view_checks.specs.Views.{BOUND, BOUND_OR_STORED}

-- a format is described, and its description allows the usage
abbrev pub Allows : ℕ → TextureFormat → ℕ → Type 0
Allows features f usage =
    (row : TextureFormatFeatures) × (described_features features f ≡ Ok row) × (contains row.allowed_usages.0 usage ≡ true)

-- the two copies, among the host's usages
abbrev pub COPIES : ℕ
COPIES = 3

-- views as the faces of cubes
abbrev pub Cubic : TextureViewDimension → Type 0
Cubic dimension = (dimension ≡ Cube) ⊎ (dimension ≡ CubeArray)

pub record Lawful (features : ℕ) (t : Texture) (view : TextureView) : Type 0 where
  pub levels_inside : view.mips.end ≤ t.mip_level_count
  pub layers_inside : view.layers.end ≤ layers_of t
  pub usage_within : contains t.usage.0 view.usage.0 ≡ true
  pub usage_not_empty : 0 < t.usage.0 → 0 < view.usage.0
  pub rendering : contains view.usage.0 RENDER_ATTACHMENT ≡ true → Allows features view.format RENDER_ATTACHMENT
  pub storage : contains view.usage.0 STORAGE_BINDING ≡ true → Allows features view.format STORAGE_BINDING
  pub one_level : (extent : Extent3d) → view.render_extent ≡ Ok extent → view.mips.end ≡ view.mips.first + 1
  pub square_faces : Cubic view.dimension → t.size.width ≡ t.size.height
  pub whole_cubes : Cubic view.dimension → (cubes : ℕ) × (0 < cubes) × (view.layers.end ≡ view.layers.first + 6 * cubes)
  -- the host is told nothing that was not asked for, and no copies
  pub host_uses_asked : contains (host_uses view.usage.0 (aspects_of view.format) (guaranteed_features view.format features).flags.0) view.hal_usage.0 ≡ true
  pub host_copies_nothing : intersects view.hal_usage.0 COPIES ≡ false
  -- the faces of cubes and several levels are bound and nothing else; volumes are bound or storage
  pub host_binds_cubes : Cubic view.dimension → contains BOUND view.hal_usage.0 ≡ true
  pub host_binds_levels : view.mips.first + 1 < view.mips.end → contains BOUND view.hal_usage.0 ≡ true
  pub host_binds_or_stores_volumes : view.dimension ≡ D3 → contains BOUND_OR_STORED view.hal_usage.0 ≡ true
