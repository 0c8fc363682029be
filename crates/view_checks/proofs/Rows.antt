-- What the rows of the table say of storage and of aspects, by one computed test.
use Rattle.std.proofs.Common.{◌≡◌, ℕ, ◌<◌, Bool, true, false, not, eqb, List, [], ◌∷◌, get_or, refl, lit<}
use Rattle.std.proofs.lemmas.Bool.{not-true, not_from_false}
use Rattle.checks.proofs.Rows.{imp, modus}
use Rattle.types.proofs.Every.{conj, nth, each}
use Rattle.types.specs.Aspect.{DEPTH, STENCIL}
use Rattle.types.specs.Bits.{contains, intersects}
use Rattle.types.specs.Formats.{aspects_of, selected_aspects}
use Rattle.types.specs.Row.{row_of}
use Rattle.types.specs.Usage.{STORAGE_BINDING}
use Rattle.types.specs.declared.aspect.TextureAspect.{TextureAspect}
use Rattle.types.specs.declared.aspect.TextureAspect.TheVariants.{All, DepthOnly, StencilOnly, Plane0, Plane1}
use Rattle.types.specs.declared.format.TextureFormat.{TextureFormat}
use Rattle.view_checks.specs.WebGpu.{Present}

abbrev some : TextureFormat → TextureAspect → Bool
some f aspect = not (eqb (selected_aspects f aspect) 0)

abbrev stored : TextureFormat → Bool
stored f = contains (row_of f).guaranteed.allowed_usages.0 STORAGE_BINDING

abbrev accessed : TextureFormat → Bool
accessed f = intersects (row_of f).guaranteed.flags.0 112

-- storage is allowed where there is a way of access; an aspect that the format has is selected
abbrev row_tests : TextureFormat → List Bool
row_tests f =
    imp (stored f) (accessed f)
    ∷ imp (accessed f) (stored f)
    ∷ some f All
    ∷ imp (some f DepthOnly) (contains (aspects_of f) DEPTH)
    ∷ imp (contains (aspects_of f) DEPTH) (some f DepthOnly)
    ∷ imp (some f StencilOnly) (contains (aspects_of f) STENCIL)
    ∷ imp (contains (aspects_of f) STENCIL) (some f StencilOnly)
    ∷ imp (some f Plane0) (contains (aspects_of f) 8)
    ∷ imp (contains (aspects_of f) 8) (some f Plane0)
    ∷ imp (some f Plane1) (contains (aspects_of f) 16)
    ∷ imp (contains (aspects_of f) 16) (some f Plane1)
    ∷ []

module _ (f : TextureFormat) where
  row : (k : ℕ) → k < 11 → get_or (row_tests f) k true ≡ true
  row k h = nth (row_tests f) (each (λ g. conj (row_tests g)) refl f) k h

  pub storable : contains (row_of f).guaranteed.allowed_usages.0 STORAGE_BINDING ≡ true → intersects (row_of f).guaranteed.flags.0 112 ≡ true
  storable = modus (stored f) (accessed f) (row 0 (lit< tt))

  pub storage_allowed : intersects (row_of f).guaranteed.flags.0 112 ≡ true → contains (row_of f).guaranteed.allowed_usages.0 STORAGE_BINDING ≡ true
  storage_allowed = modus (accessed f) (stored f) (row 1 (lit< tt))

  pub present : (aspect : TextureAspect) → eqb (selected_aspects f aspect) 0 ≡ false → Present f aspect
  present All h = tt
  present DepthOnly h = modus (some f DepthOnly) (contains (aspects_of f) DEPTH) (row 3 (lit< tt)) (not_from_false _ h)
  present StencilOnly h = modus (some f StencilOnly) (contains (aspects_of f) STENCIL) (row 5 (lit< tt)) (not_from_false _ h)
  present Plane0 h = modus (some f Plane0) (contains (aspects_of f) 8) (row 7 (lit< tt)) (not_from_false _ h)
  present Plane1 h = modus (some f Plane1) (contains (aspects_of f) 16) (row 9 (lit< tt)) (not_from_false _ h)

  pub selected : (aspect : TextureAspect) → Present f aspect → eqb (selected_aspects f aspect) 0 ≡ false
  selected All h = not-true _ (row 2 (lit< tt))
  selected DepthOnly h = not-true _ (modus (contains (aspects_of f) DEPTH) (some f DepthOnly) (row 4 (lit< tt)) h)
  selected StencilOnly h = not-true _ (modus (contains (aspects_of f) STENCIL) (some f StencilOnly) (row 6 (lit< tt)) h)
  selected Plane0 h = not-true _ (modus (contains (aspects_of f) 8) (some f Plane0) (row 8 (lit< tt)) h)
  selected Plane1 h = not-true _ (modus (contains (aspects_of f) 16) (some f Plane1) (row 10 (lit< tt)) h)
