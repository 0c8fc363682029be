-- No check refuses a view exactly when WebGPU accepts it, on a device without MULTISAMPLE_ARRAY.
use Rattle.std.proofs.Common.{◌≡◌, ℕ, ◌<◌, Bool, true, false, not, ◌&&◌, ◌||◌, eqb, ltb, Some, Option, sym, refl, ap, ◌∙◌, subst, inl, inr}
use Rattle.std.proofs.lemmas.Bool.{and_parts, and_from, or_cases, or_left, or_right, not-false, not_from_true, ltb-false, lt-ltb, le-ltb, ltb-true, eqb-true, eq-eqb, false≢true}
use Rattle.std.specs.List.{AllByRecursion as Each}
use Rattle.checks.proofs.Passed.{Passes}
use Rattle.checks.proofs.PassedTests.{must, mustnt, must_from, mustnt_from, positive, not_zero, is_this_lem}
use Rattle.checks.specs.Checks.{is_this, is_twin, multiple_of}
use Rattle.types.proofs.Every.{same_format_lem, format_same}
use Rattle.types.specs.Bits.{contains}
use Rattle.types.specs.Dimension.{dimension_code, texture_dimension}
use Rattle.types.specs.Features.{MULTISAMPLE_ARRAY}
use Rattle.types.specs.Format.{same_format}
use Rattle.types.specs.Formats.{part_of, twin_of}
use Rattle.types.specs.Row.{row_of}
use Rattle.types.specs.Usage.{RENDER_ATTACHMENT, STORAGE_BINDING, TRANSIENT_ATTACHMENT}
use Rattle.types.specs.declared.aspect.TextureAspect.{TextureAspect}
use Rattle.types.specs.declared.aspect.TextureAspect.TheVariants.{All, DepthOnly, StencilOnly, Plane0, Plane1}
use Rattle.types.specs.declared.capabilities.Capabilities.{Capabilities}
use Rattle.types.specs.declared.dimension.TextureDimension.{TextureDimension}
use Rattle.types.specs.declared.dimension.TextureDimension.TheVariants.{D1 as Texture1D, D2 as Texture2D, D3 as Texture3D}
use Rattle.types.specs.declared.dimension.TextureViewDimension.{TextureViewDimension}
use Rattle.types.specs.declared.dimension.TextureViewDimension.TheVariants.{D1, D2, D2Array, Cube, CubeArray, D3}
use Rattle.types.specs.declared.extent.Extent3d.{Extent3d}
use Rattle.types.specs.declared.format.TextureFormat.{TextureFormat}
use Rattle.types.specs.declared.texture.Texture.{Texture}
use Rattle.view_checks.proofs.Groups.{ability_passes, aspect_passes, dimension_passes, layers_pass, levels_pass, usage_passes}
use Rattle.view_checks.proofs.Rows.{present, selected, storable, storage_allowed}
use Rattle.view_checks.specs.Checks.{can_be_multisampled, format_fits, has_one_layer, is_cube, is_cube_array, view_checks}
use Rattle.view_checks.specs.WebGpu.{Accepts, FormatFor, HasLayers, HasSides, ViewFormat, ViewsTexture}
use Rattle.view_checks.specs.declared.resolve.ResolvedView.{ResolvedView}

-- ---- usage

transient : (part passing whole : Bool) → (part && (passing && not whole)) ≡ false → part ≡ true → passing ≡ true → whole ≡ true
transient part passing whole h p q = must passing whole (mustnt part (passing && not whole) h p) q

transient_from : (part passing whole : Bool) → (passing ≡ true → whole ≡ true) → (part && (passing && not whole)) ≡ false
transient_from part passing whole h = mustnt_from part (passing && not whole) (λ _. must_from passing whole h)

-- ---- formats

this_is : (o : Option TextureFormat) (g : TextureFormat) → o ≡ Some g → is_this o g ≡ true
this_is o g h = subst (λ (p : Option TextureFormat). is_this p g ≡ true) (sym h) (format_same g g refl)

module _ (t : Texture) (g : TextureFormat) where
  abbrev own : Bool
  own = same_format g t.format

  abbrev twin : Bool
  twin = t.twin_listed && is_twin t.format g

  listed : (own || twin) ≡ true → ViewFormat t g
  listed h =
      elim (or_cases own twin h) [
        | inl same ↦ inl (same_format_lem g t.format same)
        | inr other ↦ (let both = and_parts t.twin_listed (is_twin t.format g) other in inr (both.0, is_this_lem (twin_of t.format) g both.1))
      ]

  where_listed : ViewFormat t g → (own || twin) ≡ true
  where_listed (inl same) = or_left own twin (format_same g t.format same)
  where_listed (inr other) =
      or_right own twin (and_from t.twin_listed (is_twin t.format g) other.0 (this_is (twin_of t.format) g other.1))

  format_for : (aspect : TextureAspect) → format_fits t aspect g ≡ true → FormatFor t aspect g
  format_for All h = listed h
  format_for DepthOnly h = is_this_lem (part_of t.format DepthOnly) g h
  format_for StencilOnly h = is_this_lem (part_of t.format StencilOnly) g h
  format_for Plane0 h = is_this_lem (part_of t.format Plane0) g h
  format_for Plane1 h = is_this_lem (part_of t.format Plane1) g h

  format_fits_lem : (aspect : TextureAspect) → FormatFor t aspect g → format_fits t aspect g ≡ true
  format_fits_lem All h = where_listed h
  format_fits_lem DepthOnly h = this_is (part_of t.format DepthOnly) g h
  format_fits_lem StencilOnly h = this_is (part_of t.format StencilOnly) g h
  format_fits_lem Plane0 h = this_is (part_of t.format Plane0) g h
  format_fits_lem Plane1 h = this_is (part_of t.format Plane1) g h

-- ---- dimensions

code_1 : (dim : TextureDimension) → eqb (dimension_code dim) 1 ≡ true → dim ≡ Texture1D
code_1 Texture1D h = refl
code_1 Texture2D h = absurd (false≢true h)
code_1 Texture3D h = absurd (false≢true h)

code_2 : (dim : TextureDimension) → eqb (dimension_code dim) 2 ≡ true → dim ≡ Texture2D
code_2 Texture1D h = absurd (false≢true h)
code_2 Texture2D h = refl
code_2 Texture3D h = absurd (false≢true h)

code_3 : (dim : TextureDimension) → eqb (dimension_code dim) 3 ≡ true → dim ≡ Texture3D
code_3 Texture1D h = absurd (false≢true h)
code_3 Texture2D h = absurd (false≢true h)
code_3 Texture3D h = refl

views : (dim : TextureViewDimension) (of : TextureDimension) → eqb (dimension_code of) (dimension_code (texture_dimension dim)) ≡ true → ViewsTexture dim of
views D1 of h = code_1 of h
views D2 of h = code_2 of h
views D2Array of h = code_2 of h
views Cube of h = code_2 of h
views CubeArray of h = code_2 of h
views D3 of h = code_3 of h

viewed : (dim : TextureViewDimension) (of : TextureDimension) → ViewsTexture dim of → eqb (dimension_code of) (dimension_code (texture_dimension dim)) ≡ true
viewed D1 of h = eq-eqb _ _ (ap dimension_code h)
viewed D2 of h = eq-eqb _ _ (ap dimension_code h)
viewed D2Array of h = eq-eqb _ _ (ap dimension_code h)
viewed Cube of h = eq-eqb _ _ (ap dimension_code h)
viewed CubeArray of h = eq-eqb _ _ (ap dimension_code h)
viewed D3 of h = eq-eqb _ _ (ap dimension_code h)

module _ (features : ℕ) (no_arrays : contains features MULTISAMPLE_ARRAY ≡ false) where
  one_image : (dim : TextureViewDimension) → can_be_multisampled features dim ≡ true → dim ≡ D2
  one_image D1 h = absurd (false≢true h)
  one_image D2 h = refl
  one_image D2Array h = absurd (false≢true (sym no_arrays ∙ h))
  one_image Cube h = absurd (false≢true h)
  one_image CubeArray h = absurd (false≢true h)
  one_image D3 h = absurd (false≢true h)

abbrev CountsPass : TextureViewDimension → ℕ → Type 0
CountsPass dim layers =
    ((has_one_layer dim && not (eqb layers 1)) ≡ false)
    × ((is_cube dim && not (eqb layers 6)) ≡ false)
    × ((is_cube_array dim && not (multiple_of layers 6)) ≡ false)

counts_from : (dim : TextureViewDimension) (layers : ℕ) → CountsPass dim layers → HasLayers dim layers
counts_from D1 layers h = eqb-true _ _ (not-false _ h.0)
counts_from D2 layers h = eqb-true _ _ (not-false _ h.0)
counts_from D2Array layers h = tt
counts_from Cube layers h = eqb-true _ _ (not-false _ h.1)
counts_from CubeArray layers h = eqb-true _ _ (not-false _ h.2)
counts_from D3 layers h = eqb-true _ _ (not-false _ h.0)

counts_pass : (dim : TextureViewDimension) (layers : ℕ) → HasLayers dim layers → CountsPass dim layers
counts_pass D1 layers h = (not_from_true _ (eq-eqb _ _ h), refl, refl)
counts_pass D2 layers h = (not_from_true _ (eq-eqb _ _ h), refl, refl)
counts_pass D2Array layers h = (refl, refl, refl)
counts_pass Cube layers h = (refl, not_from_true _ (eq-eqb _ _ h), refl)
counts_pass CubeArray layers h = (refl, refl, not_from_true _ (eq-eqb _ _ h))
counts_pass D3 layers h = (not_from_true _ (eq-eqb _ _ h), refl, refl)

sides_from : (dim : TextureViewDimension) (size : Extent3d) → ((is_cube dim || is_cube_array dim) && not (eqb size.width size.height)) ≡ false → HasSides dim size
sides_from D1 size h = tt
sides_from D2 size h = tt
sides_from D2Array size h = tt
sides_from Cube size h = eqb-true _ _ (not-false _ h)
sides_from CubeArray size h = eqb-true _ _ (not-false _ h)
sides_from D3 size h = tt

sides_pass : (dim : TextureViewDimension) (size : Extent3d) → HasSides dim size → ((is_cube dim || is_cube_array dim) && not (eqb size.width size.height)) ≡ false
sides_pass D1 size h = refl
sides_pass D2 size h = refl
sides_pass D2Array size h = refl
sides_pass Cube size h = not_from_true _ (eq-eqb _ _ h)
sides_pass CubeArray size h = not_from_true _ (eq-eqb _ _ h)
sides_pass D3 size h = refl

-- ---- both ways

module _ (device : Capabilities) (t : Texture) (v : ResolvedView) (no_arrays : contains device.features.0 MULTISAMPLE_ARRAY ≡ false) where
  abbrev allowed : ℕ
  allowed = (row_of v.format).guaranteed.allowed_usages.0

  pub accepts : Each Passes (view_checks device.features.0 t v) → Accepts device t v
  accepts h =
      let part = not-false (contains t.usage.0 v.usage.0) (usage_passes device.features.0 t v h).1.0 in
      let ability = ability_passes device.features.0 t v h in
      let aspect = aspect_passes device.features.0 t v h in
      let dimensions = dimension_passes device.features.0 t v h in
      let levels = levels_pass device.features.0 t v h in
      let layers = layers_pass device.features.0 t v h in
      record {
        format_enabled = not-false _ ability.0;
        aspect_present = present t.format v.aspect aspect.0;
        format_for_aspect = format_for t v.format v.aspect (not-false _ aspect.1.0);
        usage_within = part;
        transient_usage = λ passing. eqb-true _ _ (transient (contains t.usage.0 v.usage.0) (contains t.usage.0 TRANSIENT_ATTACHMENT) (eqb v.usage.0 t.usage.0) (usage_passes device.features.0 t v h).0 part passing);
        rendering = must (contains v.usage.0 RENDER_ATTACHMENT) (contains allowed RENDER_ATTACHMENT) ability.1.0;
        storage = λ s. storable v.format (must (contains v.usage.0 STORAGE_BINDING) (contains allowed STORAGE_BINDING) ability.1.1.0 s);
        levels_positive = positive _ levels.0;
        levels_within = ltb-false _ _ levels.1.0;
        layers_positive = positive _ layers.0;
        layers_within = ltb-false _ _ layers.1.0;
        one_image_if_multisampled = λ several. one_image device.features.0 no_arrays v.dimension
            (must (ltb 1 t.sample_count) (can_be_multisampled device.features.0 v.dimension) dimensions.0 (lt-ltb _ _ several));
        dimension = views v.dimension t.dimension (not-false _ dimensions.1.0);
        layers = counts_from v.dimension v.array_layer_count (dimensions.1.1.0, dimensions.1.1.1.0, dimensions.1.1.1.1.0);
        sides = sides_from v.dimension t.size dimensions.1.1.1.1.1.0;
      }

  multisampled_pass : Accepts device t v → 1 < t.sample_count → can_be_multisampled device.features.0 v.dimension ≡ true
  multisampled_pass a several =
      subst (λ (dim : TextureViewDimension). can_be_multisampled device.features.0 dim ≡ true) (sym (a.one_image_if_multisampled several)) refl

  pub checks_pass : Accepts device t v → Each Passes (view_checks device.features.0 t v)
  checks_pass a =
      let counts = counts_pass v.dimension v.array_layer_count a.layers in (
        transient_from (contains t.usage.0 v.usage.0) (contains t.usage.0 TRANSIENT_ATTACHMENT) (eqb v.usage.0 t.usage.0) (λ passing. eq-eqb _ _ (a.transient_usage passing)),
        (
          not_from_true _ a.usage_within,
          (
            not_from_true _ a.format_enabled,
            (
              must_from (contains v.usage.0 RENDER_ATTACHMENT) (contains allowed RENDER_ATTACHMENT) a.rendering,
              (
                must_from (contains v.usage.0 STORAGE_BINDING) (contains allowed STORAGE_BINDING) (λ s. storage_allowed v.format (a.storage s)),
                (
                  selected t.format v.aspect a.aspect_present,
                  (
                    not_from_true _ (format_fits_lem t v.format v.aspect a.format_for_aspect),
                    (
                      must_from (ltb 1 t.sample_count) (can_be_multisampled device.features.0 v.dimension) (λ several. multisampled_pass a (ltb-true _ _ several)),
                      (
                        not_from_true _ (viewed v.dimension t.dimension a.dimension),
                        (
                          counts.0,
                          (
                            counts.1,
                            (
                              counts.2,
                              (
                                sides_pass v.dimension t.size a.sides,
                                (
                                  not_zero _ a.levels_positive,
                                  (
                                    le-ltb _ _ a.levels_within,
                                    (not_zero _ a.layers_positive, (le-ltb _ _ a.layers_within, tt)),
                                  ),
                                ),
                              ),
                            ),
                          ),
                        ),
                      ),
                    ),
                  ),
                ),
              ),
            ),
          ),
        ),
      )
