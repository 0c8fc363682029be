-- A rule of every format, by one test that antt computes over the whole list.
use Rattle.std.proofs.Common.{◌≡◌, ℕ, zero, suc, ◌-◌, ◌<◌, Bool, true, ◌&&◌, List, [], ◌∷◌, map, length, get_or, sym, refl, ap, ◌∙◌, subst, le_of_suc-le-suc, not-suc-le-zero, lit<}
use Rattle.std.proofs.lemmas.Bool.{and_parts, eqb-true, eq-eqb}
use Rattle.types.specs.Format.{code_of, formats, same_format}
use Rattle.types.specs.declared.format.TextureFormat.{TextureFormat}
use Rattle.types.specs.declared.format.TextureFormat.TheVariants.{R8Unorm, Rg8Unorm, Rgba8Unorm, Rgba8UnormSrgb, Bgra8Unorm, Bgra8UnormSrgb, R32Uint, R32Float, Rgba16Float, Rgba32Float, Depth16Unorm, Depth24Plus, Depth32Float, Stencil8, Depth24PlusStencil8, Depth32FloatStencil8, Bc1RgbaUnorm, Bc1RgbaUnormSrgb, EacR11Unorm, Astc8x5Unorm, Astc8x5UnormSrgb, NV12}

-- all of some tests pass, and so the one at each place
abbrev pub conj : List Bool → Bool
conj [] = true
conj (b ∷ bs) = b && conj bs

pub nth : (bs : List Bool) → conj bs ≡ true → (k : ℕ) → k < length bs → get_or bs k true ≡ true
nth [] h k l = absurd (not-suc-le-zero l)
nth (b ∷ bs) h zero l = (and_parts b (conj bs) h).0
nth (b ∷ bs) h (suc k) l = nth bs (and_parts b (conj bs) h).1 k (le_of_suc-le-suc l)

at : (p : TextureFormat → Bool) (fs : List TextureFormat) → conj (map p fs) ≡ true → (k : ℕ) → k < length fs → p (get_or fs k R8Unorm) ≡ true
at p [] h k l = absurd (not-suc-le-zero l)
at p (f ∷ fs) h zero l = (and_parts (p f) (conj (map p fs)) h).0
at p (f ∷ fs) h (suc k) l = at p fs (and_parts (p f) (conj (map p fs)) h).1 k (le_of_suc-le-suc l)

-- a format stands in the list at its code
place : (f : TextureFormat) → (code_of f - 1 < 22) × (get_or formats (code_of f - 1) R8Unorm ≡ f)
place R8Unorm = (lit< tt, refl)
place Rg8Unorm = (lit< tt, refl)
place Rgba8Unorm = (lit< tt, refl)
place Rgba8UnormSrgb = (lit< tt, refl)
place Bgra8Unorm = (lit< tt, refl)
place Bgra8UnormSrgb = (lit< tt, refl)
place R32Uint = (lit< tt, refl)
place R32Float = (lit< tt, refl)
place Rgba16Float = (lit< tt, refl)
place Rgba32Float = (lit< tt, refl)
place Depth16Unorm = (lit< tt, refl)
place Depth24Plus = (lit< tt, refl)
place Depth32Float = (lit< tt, refl)
place Stencil8 = (lit< tt, refl)
place Depth24PlusStencil8 = (lit< tt, refl)
place Depth32FloatStencil8 = (lit< tt, refl)
place Bc1RgbaUnorm = (lit< tt, refl)
place Bc1RgbaUnormSrgb = (lit< tt, refl)
place EacR11Unorm = (lit< tt, refl)
place Astc8x5Unorm = (lit< tt, refl)
place Astc8x5UnormSrgb = (lit< tt, refl)
place NV12 = (lit< tt, refl)

pub each : (p : TextureFormat → Bool) → conj (map p formats) ≡ true → (f : TextureFormat) → p f ≡ true
each p h f = subst (λ (g : TextureFormat). p g ≡ true) (place f).1 (at p formats h (code_of f - 1) (place f).0)

pub same_format_lem : (a b : TextureFormat) → same_format a b ≡ true → a ≡ b
same_format_lem a b h =
    sym (place a).1 ∙ ap (λ (n : ℕ). get_or formats (n - 1) R8Unorm) (eqb-true (code_of a) (code_of b) h) ∙ (place b).1

pub format_same : (a b : TextureFormat) → a ≡ b → same_format a b ≡ true
format_same a b h = eq-eqb (code_of a) (code_of b) (ap code_of h)
