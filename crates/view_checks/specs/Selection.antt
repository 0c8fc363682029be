-- What a view selects of its texture: triples of a level, a layer and an aspect.
use Rattle.std.specs.Prelude.{◌≡◌, ℕ, ◌<◌, ◌≤◌, true, Ok}
use Rattle.checks.specs.Check.{outcome}
use Rattle.types.specs.Bits.{contains}
use Rattle.types.specs.declared.texture.Texture.{Texture}
use Rattle.types.specs.declared.view.TextureView.{TextureView}
use Rattle.types.specs.declared.view_descriptor.TextureViewDescriptor.{TextureViewDescriptor}
use Rattle.view_checks.specs.Checks.{view_checks}
use Rattle.view_checks.specs.Resolved.{resolved}
use Rattle.view_checks.specs.Views.{WorkedOut}

pub data Aspect : Type 0 where
  colour : Aspect
  depth : Aspect
  stencil : Aspect
  plane_0 : Aspect
  plane_1 : Aspect

abbrev pub bit_of : Aspect → ℕ
bit_of colour = 1
bit_of depth = 2
bit_of stencil = 4
bit_of plane_0 = 8
bit_of plane_1 = 16

-- a view selects each level and each layer from the first to before the end, at each aspect of its set
pub record Selects (view : TextureView) (level layer : ℕ) (aspect : Aspect) : Type 0 where
  pub level_from : view.mips.first ≤ level
  pub level_before : level < view.mips.end
  pub layer_from : view.layers.first ≤ layer
  pub layer_before : layer < view.layers.end
  pub aspect_in : contains view.aspects.0 (bit_of aspect) ≡ true

abbrev pub SameTriples : TextureView → TextureView → Type 0
SameTriples a b =
    (level layer : ℕ) (aspect : Aspect) → (Selects a level layer aspect → Selects b level layer aspect) × (Selects b level layer aspect → Selects a level layer aspect)

-- equal level ranges, layer ranges and aspect sets
pub record SameParts (a b : TextureView) : Type 0 where
  pub levels : a.mips ≡ b.mips
  pub layers : a.layers ≡ b.layers
  pub aspects : a.aspects ≡ b.aspects

-- an accepted view of the texture, on a device with these features
abbrev pub ViewOf : ℕ → Texture → TextureView → Type 0
ViewOf features t view =
    (d : TextureViewDescriptor) × (Ok tt ≡ outcome (view_checks features t (resolved t d))) × WorkedOut features t (resolved t d) view
