-- An accepted view keeps the laws of views.
use Rattle.std.proofs.Common.{◌≡◌, ℕ, ◌+◌, ◌*◌, ◌/◌, ◌%◌, ◌<◌, ◌≤◌, Bool, true, false, cond, not, ◌&&◌, ◌||◌, eqb, ◌⊎◌, Some, None, Ok, Err, Option, Result, sym, refl, ap, ◌∙◌, subst, subst₂, inl, inr, arith}
use native.Mathlib.Nat.{div-add-mod}
use lib.Bits.{bit_and}
use Rattle.std.proofs.lemmas.Bool.{cases_Bool, cond-false, not-false, eqb-true}
use Rattle.std.specs.List.{AllByRecursion as Each}
use Rattle.checks.proofs.Joins.{passed_answer}
use Rattle.checks.proofs.Passed.{Passes, all_pass}
use Rattle.checks.proofs.PassedTests.{must, positive}
use Rattle.checks.specs.Checks.{multiple_of}
use Rattle.types.specs.Bits.{contains, intersects}
use Rattle.types.specs.Formats.{aspects_of, guaranteed_features, required_features_of}
use Rattle.types.specs.Usage.{RENDER_ATTACHMENT, STORAGE_BINDING}
use Rattle.types.specs.Uses.{host_uses}
use Rattle.types.specs.declared.dimension.TextureViewDimension.{TextureViewDimension}
use Rattle.types.specs.declared.extent.Extent3d.{Extent3d}
use Rattle.types.specs.declared.features.MissingFeatures.{MissingFeatures}
use Rattle.types.specs.declared.format.TextureFormat.{TextureFormat}
use Rattle.types.specs.declared.format_features.TextureFormatFeatures.{TextureFormatFeatures}
use Rattle.types.specs.declared.texture.Texture.{Texture}
use Rattle.types.specs.declared.usages.TextureUsages.{TextureUsages}
use Rattle.types.specs.declared.view.TextureView.{TextureView}
use Rattle.types.specs.declared.view_descriptor.TextureViewDescriptor.{TextureViewDescriptor}
use Rattle.view_checks.proofs.Groups.{ability_passes, dimension_passes, layers_pass, usage_passes}
use Rattle.view_checks.proofs.Masks.{apart, cut, held, itself, still}
use Rattle.view_checks.specs.Checks.{ability_checks, allowed_usages_of, dimension_checks, is_cube, is_cube_array, view_checks}
use Rattle.view_checks.specs.Laws.{Allows, COPIES, Cubic, Lawful}
use Rattle.view_checks.specs.Resolved.{filled_usage, resolved}
use Rattle.view_checks.specs.Views.{ALL_USES, BOUND, BOUND_OR_STORED, NOT_COPIED, WorkedOut, dimension_uses, extent_of, level_uses, render_checks}
use Rattle.view_checks.specs.declared.resolve.ResolvedView.{ResolvedView}

-- a usage that was filled in is empty only where the texture's is
chosen : (b : Bool) (own usage : TextureUsages) → eqb usage.0 0 ≡ b → 0 < own.0 → 0 < (cond b own usage).0
chosen true own usage e h = h
chosen false own usage e h = positive usage.0 e

used : (own : TextureUsages) (usage : Option TextureUsages) → 0 < own.0 → 0 < (filled_usage own usage).0
used own (Some usage) h = chosen (eqb usage.0 0) own usage refl h
used own None h = h

-- a format whose feature is on is described by its row
described : (b : Bool) (row : TextureFormatFeatures) (m : MissingFeatures) → b ≡ true
    → ◌≡◌ {A = Result TextureFormatFeatures MissingFeatures} (cond b (Ok row) (Err m)) (Ok row)
described b row m h = ap (λ (x : Bool). cond x (Ok row) (Err m)) h

module _ (features : ℕ) (f : TextureFormat) (usage : ℕ) where
  allows : contains features (required_features_of f) ≡ true → contains (allowed_usages_of features f) usage ≡ true → Allows features f usage
  allows on h =
      (guaranteed_features f features, described (contains features (required_features_of f)) (guaranteed_features f features) (record { 0 = record { 0 = required_features_of f } }) on, h)

-- six layers a cube
whole : (n : ℕ) → 0 < n → n % 6 ≡ 0 → (cubes : ℕ) × (0 < cubes) × (n ≡ 6 * cubes)
whole n h e = let d = div-add-mod n 6 in let s : n ≡ 6 * (n / 6) = omega (arith, d, e) in (n / 6, omega (arith, s, h), s)

cubic : (dim : TextureViewDimension) → Cubic dim → (is_cube dim || is_cube_array dim) ≡ true
cubic dim (inl e) = ap (λ (x : TextureViewDimension). is_cube x || is_cube_array x) e
cubic dim (inr e) = ap (λ (x : TextureViewDimension). is_cube x || is_cube_array x) e

module _ (features : ℕ) (t : Texture) (d : TextureViewDescriptor) where
  abbrev v : ResolvedView
  v = resolved t d

  module _ (view : TextureView) (h : Each Passes (view_checks features t v)) (w : WorkedOut features t v view) where
    abbrev count : ℕ
    count = v.array_layer_count

    shape : Each Passes (dimension_checks features t v)
    shape = dimension_passes features t v h

    able : Each Passes (ability_checks features v)
    able = ability_passes features t v h

    -- a usage that is checked against the format's row is allowed by it
    allowed : (usage : ℕ) → (contains v.usage.0 usage && not (contains (allowed_usages_of features v.format) usage)) ≡ false
        → contains view.usage.0 usage ≡ true → Allows features view.format usage
    allowed usage passed has =
        subst (λ (f : TextureFormat). Allows features f usage) (sym w.format)
        (allows features v.format usage (not-false _ able.0)
        (must (contains v.usage.0 usage) (contains (allowed_usages_of features v.format) usage) passed
        (subst (λ (u : TextureUsages). contains u.0 usage ≡ true) w.usage has)))

    cubes : Cubic v.dimension → (k : ℕ) × (0 < k) × (count ≡ 6 * k)
    cubes (inl e) =
        let six : count ≡ 6 =
        eqb-true _ _ (must (is_cube v.dimension) (eqb count 6) shape.1.1.1.0 (ap is_cube e))
        in
        (1, omega arith, six)
    cubes (inr e) =
        whole count (positive _ (layers_pass features t v h).0)
        (eqb-true _ _ (must (is_cube_array v.dimension) (multiple_of count 6) shape.1.1.1.1.0 (ap is_cube_array e)))

    one : (extent : Extent3d) → view.render_extent ≡ Ok extent → v.mip_level_count ≡ 1
    one extent e =
        let passed = all_pass (render_checks features t v) (passed_answer (render_checks features t v) (extent_of t v) extent (sym e ∙ w.render_extent)) in
        eqb-true _ _ (not-false _ passed.1.1.0)

    -- ---- the host's usages, cut three times

    abbrev asked : ℕ
    asked = host_uses v.usage.0 (aspects_of v.format) (guaranteed_features v.format features).flags.0

    abbrev uncopied : ℕ
    uncopied = bit_and asked NOT_COPIED

    abbrev shaped : ℕ
    shaped = bit_and uncopied (dimension_uses v.dimension)

    abbrev kept : ℕ
    kept = bit_and shaped (level_uses v.mip_level_count)

    -- what holds of the uses worked out holds of those that the view has
    told : (P : ℕ → Type 0) → P kept → P view.hal_usage.0
    told P h = subst P (sym w.hal_usage) h

    -- the masks of the dimension and of the levels
    by_dimension : (mask : ℕ) → dimension_uses v.dimension ≡ mask → contains mask kept ≡ true
    by_dimension mask e =
        held mask kept
        (still mask shaped (level_uses v.mip_level_count)
        (subst (λ (m : ℕ). bit_and m shaped ≡ shaped) e (cut uncopied (dimension_uses v.dimension))))

    by_levels : (v.mip_level_count ≡ 1) ⊎ (contains BOUND kept ≡ true)
    by_levels =
        elim (cases_Bool (eqb v.mip_level_count 1)) [
          | inl one ↦ inl (eqb-true _ _ one)
          | inr several ↦
              inr (held BOUND kept (subst (λ (m : ℕ). bit_and m kept ≡ kept) (cond-false _ ALL_USES BOUND several) (cut shaped (level_uses v.mip_level_count))))
        ]

    cube_uses : (dim : TextureViewDimension) → Cubic dim → dimension_uses dim ≡ BOUND
    cube_uses dim (inl e) = ap dimension_uses e
    cube_uses dim (inr e) = ap dimension_uses e

    bound_levels : view.mips.first + 1 < view.mips.end → contains BOUND kept ≡ true
    bound_levels several =
        elim by_levels [ inl one ↦ absurd (omega (arith, several, w.mips.starts, w.mips.ends, one)) | inr bound ↦ bound ]

    in_asked : contains asked kept ≡ true
    in_asked =
        held asked kept
        (still asked shaped (level_uses v.mip_level_count) (still asked uncopied (dimension_uses v.dimension) (still asked asked NOT_COPIED (itself asked))))

    not_copied : intersects kept COPIES ≡ false
    not_copied =
        apart NOT_COPIED kept COPIES
        (still NOT_COPIED shaped (level_uses v.mip_level_count) (still NOT_COPIED uncopied (dimension_uses v.dimension) (cut asked NOT_COPIED))) refl

    pub lawful : Lawful features t view
    lawful =
        record {
          levels_inside = subst (λ (n : ℕ). view.mips.end ≤ n) w.mips.of_total view.mips.inside;
          layers_inside = subst (λ (n : ℕ). view.layers.end ≤ n) w.layers.of_total view.layers.inside;
          usage_within = subst (λ (u : TextureUsages). contains t.usage.0 u.0 ≡ true) (sym w.usage) (not-false (contains t.usage.0 v.usage.0) (usage_passes features t v h).1.0);
          usage_not_empty = λ some. subst (λ (u : TextureUsages). 0 < u.0) (sym w.usage) (used t.usage d.usage some);
          rendering = allowed RENDER_ATTACHMENT able.1.0;
          storage = allowed STORAGE_BINDING able.1.1.0;
          one_level = λ extent e. omega (arith, w.mips.starts, w.mips.ends, one extent e);
          square_faces = λ c. eqb-true _ _ (must (is_cube v.dimension || is_cube_array v.dimension) (eqb t.size.width t.size.height) shape.1.1.1.1.1.0 (cubic v.dimension (subst Cubic w.dimension c)));
          whole_cubes = λ c. (let k = cubes (subst Cubic w.dimension c) in (k.0, k.1, omega (arith, w.layers.starts, w.layers.ends, k.2)));
          host_uses_asked =
              subst₂ (λ (u : TextureUsages) (f : TextureFormat). contains (host_uses u.0 (aspects_of f) (guaranteed_features f features).flags.0) view.hal_usage.0 ≡ true) (sym w.usage) (sym w.format)
              (told (λ n. contains asked n ≡ true) in_asked);
          host_copies_nothing = told (λ n. intersects n COPIES ≡ false) not_copied;
          host_binds_cubes = λ c. told (λ n. contains BOUND n ≡ true) (by_dimension BOUND (cube_uses v.dimension (subst Cubic w.dimension c)));
          host_binds_levels = λ several. told (λ n. contains BOUND n ≡ true) (bound_levels several);
          host_binds_or_stores_volumes = λ e. told (λ n. contains BOUND_OR_STORED n ≡ true) (by_dimension BOUND_OR_STORED (ap dimension_uses (sym w.dimension ∙ e)));
        }
