-- The checks of a request by groups, with what comes after each group.
use Rattle.std.proofs.Common.{List, ◌++◌, map}
use Rattle.checks.specs.Check.{Check}
use Rattle.checks.specs.Checks.{usage_checks, size_checks, as_dimension, dimension_checks, block_checks, sliced_checks, mip_checks, format_checks, view_format_checks}
use Rattle.checks.specs.declared.error.CreateTextureError.{CreateTextureError}
use Rattle.checks.specs.declared.error.TextureDimensionError.{TextureDimensionError}
use Rattle.types.specs.declared.capabilities.Capabilities.{Capabilities}
use Rattle.types.specs.declared.descriptor.TextureDescriptor.{TextureDescriptor}

-- in the shape of the texture
abbrev pub usages : TextureDescriptor → List (Check CreateTextureError)
usages d = usage_checks d.usage

abbrev pub sizes : Capabilities → TextureDescriptor → List (Check TextureDimensionError)
sizes device d = size_checks d.dimension d.size d.sample_count device.limits

abbrev pub after_blocks : Capabilities → TextureDescriptor → List (Check CreateTextureError)
after_blocks device d = sliced_checks device.features.0 d

abbrev pub after_dimension : Capabilities → TextureDescriptor → List (Check CreateTextureError)
after_dimension device d = block_checks d ++ after_blocks device d

abbrev pub after_size : Capabilities → TextureDescriptor → List (Check CreateTextureError)
after_size device d = dimension_checks d ++ after_dimension device d

abbrev pub after_usage : Capabilities → TextureDescriptor → List (Check CreateTextureError)
after_usage device d = map as_dimension (sizes device d) ++ after_size device d

-- in all
abbrev pub after_format : Capabilities → TextureDescriptor → List (Check CreateTextureError)
after_format device d = view_format_checks device.downlevel_flags.0 d.format d.view_formats.now

abbrev pub after_mips : Capabilities → TextureDescriptor → List (Check CreateTextureError)
after_mips device d = format_checks device.features.0 d ++ after_format device d

abbrev pub after_shape : Capabilities → TextureDescriptor → List (Check CreateTextureError)
after_shape device d = mip_checks d ++ after_mips device d
