-- Aspects: the parts of a texel, one bit each in a format's row.
use Rattle.std.specs.Prelude.{ℕ, if◌then◌else◌, Some, None, Option, ◌==◌}
use Rattle.types.specs.declared.aspect.TextureAspect.{TextureAspect}
use Rattle.types.specs.declared.aspect.TextureAspect.TheVariants.{All, DepthOnly, StencilOnly, Plane0, Plane1}

abbrev pub COLOR : ℕ
COLOR = 1

abbrev pub DEPTH : ℕ
DEPTH = 2

abbrev pub STENCIL : ℕ
STENCIL = 4

abbrev pub PLANES : ℕ
PLANES = 24

abbrev pub DEPTH_STENCIL : ℕ
DEPTH_STENCIL = 6

-- the aspects that are colour: colour itself and the planes
abbrev pub COLOURED : ℕ
COLOURED = 25

abbrev pub plane_aspect : ℕ → Option TextureAspect
plane_aspect plane = if plane == 0 then Some Plane0 else if plane == 1 then Some Plane1 else None

abbrev pub plane_of : TextureAspect → Option ℕ
plane_of All = None
plane_of DepthOnly = None
plane_of StencilOnly = None
plane_of Plane0 = Some 0
plane_of Plane1 = Some 1

-- the number by which a refusal names the aspect
abbrev pub aspect_code : TextureAspect → ℕ
aspect_code All = 1
aspect_code DepthOnly = 2
aspect_code StencilOnly = 3
aspect_code Plane0 = 4
aspect_code Plane1 = 5

-- the aspects that are wanted of a format
abbrev pub wanted_aspects : TextureAspect → ℕ
wanted_aspects All = 31
wanted_aspects DepthOnly = DEPTH
wanted_aspects StencilOnly = STENCIL
wanted_aspects Plane0 = 8
wanted_aspects Plane1 = 16
