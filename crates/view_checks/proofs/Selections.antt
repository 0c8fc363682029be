-- Two accepted views of one texture select the same triples exactly when their parts are equal.
use Rattle.std.proofs.Common.{◌≡◌, ℕ, ◌+◌, ◌-◌, ◌<◌, ◌≤◌, Bool, true, false, cond, ◌||◌, eqb, Decides, sym, refl, ◌∙◌, subst, inl, inr, arith, lit≤}
use lib.Bits.{and_le_r}
use Rattle.std.proofs.lemmas.Bool.{eqb-true, false≢true, or_cases}
use Rattle.checks.proofs.Passed.{all_pass}
use Rattle.checks.proofs.Rows.{below, below_at}
use Rattle.types.proofs.SameRange.{same_range}
use Rattle.types.specs.Aspect.{wanted_aspects}
use Rattle.types.specs.Bits.{contains, map_bit}
use Rattle.types.specs.Formats.{aspects_of}
use Rattle.types.specs.declared.aspect.FormatAspects.{FormatAspects}
use Rattle.types.specs.declared.aspect.TextureAspect.{TextureAspect}
use Rattle.types.specs.declared.aspect.TextureAspect.TheVariants.{All, DepthOnly, StencilOnly, Plane0, Plane1}
use Rattle.types.specs.declared.range.Range.{Range}
use Rattle.types.specs.declared.texture.Texture.{Texture}
use Rattle.types.specs.declared.view.TextureView.{TextureView}
use Rattle.view_checks.proofs.Groups.{aspect_passes}
use Rattle.view_checks.specs.Checks.{view_checks}
use Rattle.view_checks.specs.Resolved.{resolved}
use Rattle.view_checks.specs.Selection.{Aspect, colour, depth, stencil, plane_0, plane_1, SameParts, SameTriples, Selects, ViewOf, bit_of}

-- ---- sets of aspects

-- a set of five bits is the sum of those that it holds
abbrev gathered : ℕ → ℕ
gathered set = map_bit set 1 1 + map_bit set 2 2 + map_bit set 4 4 + map_bit set 8 8 + map_bit set 16 16

gathered_test : below 32 (λ set. eqb set (gathered set)) ≡ true
gathered_test = refl

gathers : (set : ℕ) → set < 32 → set ≡ gathered set
gathers set few = eqb-true _ _ (below_at 32 (λ n. eqb n (gathered n)) gathered_test set few)

abbrev Holds : ℕ → Aspect → Type 0
Holds set aspect = contains set (bit_of aspect) ≡ true

bit_alike : (x y : Bool) → (x ≡ true → y ≡ true) → (y ≡ true → x ≡ true) → x ≡ y
bit_alike true y f g = sym (f refl)
bit_alike false true f g = g refl
bit_alike false false f g = refl

module _ (a b : ℕ) (few_a : a < 32) (few_b : b < 32) (to : (aspect : Aspect) → Holds a aspect → Holds b aspect) (from : (aspect : Aspect) → Holds b aspect → Holds a aspect) where
  bit : (aspect : Aspect) → contains a (bit_of aspect) ≡ contains b (bit_of aspect)
  bit aspect = bit_alike (contains a (bit_of aspect)) (contains b (bit_of aspect)) (to aspect) (from aspect)

  same_set : a ≡ b
  same_set =
      let g : gathered a ≡ gathered b =
      λ i. cond (bit colour i) 1 0 + cond (bit depth i) 2 0 + cond (bit stencil i) 4 0 + cond (bit plane_0 i) 8 0 + cond (bit plane_1 i) 16 0
      in
      gathers a few_a ∙ g ∙ sym (gathers b few_b)

-- a set is known by its bits
pub same_aspects : (a b : FormatAspects) → a.0 ≡ b.0 → a ≡ b
same_aspects a b h = λ i. record { 0 = h i }

-- a set of some bits holds one of them
abbrev lowest : ℕ → Aspect
lowest set =
    cond (contains set 1) colour (cond (contains set 2) depth (cond (contains set 4) stencil (cond (contains set 8) plane_0 plane_1)))

lowest_test : below 32 (λ set. eqb set 0 || contains set (bit_of (lowest set))) ≡ true
lowest_test = refl

holds_lowest : (set : ℕ) → set < 32 → eqb set 0 ≡ false → Holds set (lowest set)
holds_lowest set few some =
    elim (or_cases (eqb set 0) (contains set (bit_of (lowest set))) (below_at 32 (λ n. eqb n 0 || contains n (bit_of (lowest n))) lowest_test set few)) [
      | inl none ↦ absurd (false≢true (sym some ∙ none))
      | inr holds ↦ holds
    ]

-- ---- views

-- what is known of an accepted view: its aspects are some of five
module _ (features : ℕ) (t : Texture) (view : TextureView) (of : ViewOf features t view) where
  wanted_few : (aspect : TextureAspect) → wanted_aspects aspect ≤ 31
  wanted_few All = lit≤ tt
  wanted_few DepthOnly = lit≤ tt
  wanted_few StencilOnly = lit≤ tt
  wanted_few Plane0 = lit≤ tt
  wanted_few Plane1 = lit≤ tt

  few : view.aspects.0 < 32
  few =
      let v = resolved t of.0 in
      omega (arith, of.2.aspects, and_le_r (aspects_of t.format) (wanted_aspects v.aspect), wanted_few v.aspect)

  some : eqb view.aspects.0 0 ≡ false
  some =
      let v = resolved t of.0 in
      subst (λ (n : ℕ). eqb n 0 ≡ false) (sym of.2.aspects) (aspect_passes features t v (all_pass (view_checks features t v) of.1)).0

  abbrev own : Aspect
  own = lowest view.aspects.0

  held : Holds view.aspects.0 own
  held = holds_lowest view.aspects.0 few some

-- the lowest and the highest that a view selects
module _ (view : TextureView) (aspect : Aspect) (h : Holds view.aspects.0 aspect) where
  at_first : Selects view view.mips.first view.layers.first aspect
  at_first =
      record {
        level_from = omega arith;
        level_before = view.mips.forward;
        layer_from = omega arith;
        layer_before = view.layers.forward;
        aspect_in = h;
      }

  at_last : Selects view (view.mips.end - 1) (view.layers.end - 1) aspect
  at_last =
      let levels = view.mips.forward in
      let layers = view.layers.forward in
      record {
        level_from = omega (arith, levels);
        level_before = omega (arith, levels);
        layer_from = omega (arith, layers);
        layer_before = omega (arith, layers);
        aspect_in = h;
      }

module _ (a b : TextureView) where
  pub triples_from : SameParts a b → SameTriples a b
  triples_from e level layer aspect = (
    λ s. record {
      level_from = subst (λ (r : Range). r.first ≤ level) e.levels s.level_from;
      level_before = subst (λ (r : Range). level < r.end) e.levels s.level_before;
      layer_from = subst (λ (r : Range). r.first ≤ layer) e.layers s.layer_from;
      layer_before = subst (λ (r : Range). layer < r.end) e.layers s.layer_before;
      aspect_in = subst (λ (set : FormatAspects). Holds set.0 aspect) e.aspects s.aspect_in;
    },
    λ s. record {
      level_from = subst (λ (r : Range). r.first ≤ level) (sym e.levels) s.level_from;
      level_before = subst (λ (r : Range). level < r.end) (sym e.levels) s.level_before;
      layer_from = subst (λ (r : Range). r.first ≤ layer) (sym e.layers) s.layer_from;
      layer_before = subst (λ (r : Range). layer < r.end) (sym e.layers) s.layer_before;
      aspect_in = subst (λ (set : FormatAspects). Holds set.0 aspect) (sym e.aspects) s.aspect_in;
    },
  )

  module _ (features others : ℕ) (t : Texture) (of_a : ViewOf features t a) (of_b : ViewOf others t b) where
    pub parts_from : SameTriples a b → SameParts a b
    parts_from same =
        let α = held features t a of_a in
        let β = held others t b of_b in
        let first_a = (same a.mips.first a.layers.first (own features t a of_a)).0 (at_first a (own features t a of_a) α) in
        let last_a = (same (a.mips.end - 1) (a.layers.end - 1) (own features t a of_a)).0 (at_last a (own features t a of_a) α) in
        let first_b = (same b.mips.first b.layers.first (own others t b of_b)).1 (at_first b (own others t b of_b) β) in
        let last_b = (same (b.mips.end - 1) (b.layers.end - 1) (own others t b of_b)).1 (at_last b (own others t b of_b) β) in
        let levels_a = a.mips.forward in
        let levels_b = b.mips.forward in
        let layers_a = a.layers.forward in
        let layers_b = b.layers.forward in
        record {
          levels =
              same_range a.mips b.mips (omega (arith, first_a.level_from, first_b.level_from))
              (omega (arith, levels_a, levels_b, last_a.level_before, last_b.level_before))
              (of_a.2.mips.of_total ∙ sym of_b.2.mips.of_total);
          layers =
              same_range a.layers b.layers (omega (arith, first_a.layer_from, first_b.layer_from))
              (omega (arith, layers_a, layers_b, last_a.layer_before, last_b.layer_before))
              (of_a.2.layers.of_total ∙ sym of_b.2.layers.of_total);
          aspects =
              same_aspects a.aspects b.aspects (same_set a.aspects.0 b.aspects.0 (few features t a of_a) (few others t b of_b)
              (λ aspect h. ((same a.mips.first a.layers.first aspect).0 (at_first a aspect h)).aspect_in)
              (λ aspect h. ((same b.mips.first b.layers.first aspect).1 (at_first b aspect h)).aspect_in));
        }

    pub triples_decided : (r : Bool) → Decides r (SameParts a b) → Decides r (SameTriples a b)
    triples_decided r h = (λ e. triples_from (h.0 e), λ same. h.1 (parts_from same))
