-- What is kept of a texture whose request was accepted: one line for each field.
use Rattle.std.specs.Prelude.{◌≡◌}
use Rattle.checks.specs.Checks.{is_twin_listed}
use Rattle.types.specs.Formats.{guaranteed_features}
use Rattle.types.specs.Uses.{texture_uses}
use Rattle.types.specs.declared.capabilities.Capabilities.{Capabilities}
use Rattle.types.specs.declared.descriptor.TextureDescriptor.{TextureDescriptor}
use Rattle.types.specs.declared.texture.Texture.{Texture}

pub record Kept (device : Capabilities) (d : TextureDescriptor) (t : Texture) : Type 0 where
  pub size : t.size ≡ d.size
  pub levels : t.mip_level_count ≡ d.mip_level_count
  pub samples : t.sample_count ≡ d.sample_count
  pub dimension : t.dimension ≡ d.dimension
  pub format : t.format ≡ d.format
  pub usage : t.usage ≡ d.usage
  pub twin_listed : t.twin_listed ≡ is_twin_listed d.format d.view_formats.now
  pub hal_usage : t.hal_usage.0 ≡ texture_uses d.usage.0 d.format d.dimension (guaranteed_features d.format device.features.0)
