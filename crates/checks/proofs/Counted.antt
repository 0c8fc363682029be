-- The clear views of a request that passes are few enough to be counted.
use Rattle.std.proofs.Common.{◌≡◌, ℕ, ◌-◌, ◌*◌, ◌^◌, ◌≤◌, min, Bool, true, false, cond, ◌&&◌, eqb, ltb, Some, None, Ok, unwrap_or, ◌∙◌, arith, lit≤}
use native.Mathlib.Nat.{min-eq_left}
use Rattle.std.proofs.lemmas.Nat.{mul-le}
use Rattle.std.proofs.lemmas.Bool.{or_parts, ltb-false}
use Rattle.checks.proofs.Groups.{after_shape}
use Rattle.checks.proofs.Passed.{all_pass, back}
use Rattle.checks.proofs.PassedTests.{positive}
use Rattle.checks.specs.Check.{outcome}
use Rattle.checks.specs.Checks.{create_checks, shape_checks}
use Rattle.checks.specs.ClearViews.{clear_views_needed}
use Rattle.types.specs.Bits.{intersects}
use Rattle.types.specs.Dimension.{is_2d}
use Rattle.types.specs.Extent.{max_mips}
use Rattle.types.specs.Formats.{is_planar, planes_of}
use Rattle.types.specs.declared.capabilities.Capabilities.{Capabilities}
use Rattle.types.specs.declared.descriptor.TextureDescriptor.{TextureDescriptor}
use Rattle.types.specs.declared.dimension.TextureDimension.{TextureDimension}
use Rattle.types.specs.declared.dimension.TextureDimension.TheVariants.{D1, D2, D3}
use Rattle.types.specs.declared.extent.Extent3d.{Extent3d}

sixteen : (size : Extent3d) (dim : TextureDimension) → max_mips size dim ≤ 16
sixteen size D1 = lit≤ tt
sixteen size D2 = omega arith
sixteen size D3 = omega arith

-- a request that passes has 1 to 16 levels
pub levels_bound : (device : Capabilities) (d : TextureDescriptor) → Ok tt ≡ outcome (create_checks device d)
    → (1 ≤ d.mip_level_count) × (d.mip_level_count ≤ 16)
levels_bound device d h =
    let first = (back (shape_checks device d) (after_shape device d) (all_pass (create_checks device d) h)).0 in
    let parts = or_parts (eqb d.mip_level_count 0) (ltb (max_mips d.size d.dimension) d.mip_level_count) first in
    let l : d.mip_level_count ≤ max_mips d.size d.dimension = ltb-false _ _ parts.1 in
    (positive d.mip_level_count parts.0, omega (arith, l, sixteen d.size d.dimension))

two_planes : (b : Bool) → unwrap_or (cond b (Some 2) None) 1 ≤ 2
two_planes true = lit≤ tt
two_planes false = lit≤ tt

below : (b : Bool) (n m : ℕ) → n ≤ m → cond b n 0 ≤ m
below true n m h = h
below false n m h = omega arith

module _ (d : TextureDescriptor) (uses : ℕ) (short : d.size.depth_or_array_layers ≤ 2 ^ 32) where
  few : d.mip_level_count ≤ 16 → clear_views_needed d uses ≤ 2 ^ 64 - 1
  few l =
      below (is_2d d.dimension && intersects uses 40) (d.mip_level_count * d.size.depth_or_array_layers * unwrap_or (planes_of d.format) 1) (2 ^ 64 - 1)
      (let p : d.mip_level_count * d.size.depth_or_array_layers * unwrap_or (planes_of d.format) 1 ≤ 16 * 2 ^ 32 * 2 =
      mul-le _ _ (16 * 2 ^ 32) 2 (mul-le _ _ 16 (2 ^ 32) l short) (two_planes (is_planar d.format))
      in
      omega (arith, p))

  pub counted : (r : ℕ) → r ≡ min (clear_views_needed d uses) (2 ^ 64 - 1) → (device : Capabilities) → Ok tt ≡ outcome (create_checks device d)
      → r ≡ clear_views_needed d uses
  counted r e device h = e ∙ min-eq_left (few (levels_bound device d h).1)
