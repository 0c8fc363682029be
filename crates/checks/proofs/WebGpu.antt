-- On a device of WebGPU's, no check refuses a request exactly when WebGPU accepts it.
use Rattle.std.proofs.Common.{◌≡◌, ℕ, ◌%◌, ◌<◌, ◌≤◌, Bool, true, false, not, ◌&&◌, ◌||◌, eqb, ltb, ◌⊎◌, List, [], ◌∷◌, map, Some, Option, sym, refl, ap, ◌∙◌, subst, inl, inr, arith}
use lib.Count.{ones, ones_in}
use Rattle.std.proofs.lemmas.Bool.{cases_lt, cases_Bool, and_parts, and_from, and_left, or_parts, or_from, not-true, not-false, not_from_true, not_from_false, ltb-true, ltb-false, lt-ltb, le-ltb, eqb-true, eq-eqb, cond-false, true≢false, false≢true}
use Rattle.std.specs.List.{AllByRecursion}
use Rattle.checks.proofs.Groups.{usages, sizes, after_usage, after_size, after_dimension, after_blocks, after_shape, after_mips, after_format}
use Rattle.checks.proofs.Logarithm.{log_of, digits_of}
use Rattle.checks.proofs.Passed.{Passes, front, back, both}
use Rattle.checks.proofs.PassedTests.{must, mustnt, must_from, mustnt_from, swapped, and_but, false_from, clash, positive, not_zero, is_this_lem}
use Rattle.checks.proofs.Rows.{imp, modus, imp_from, planar_needs, six_bits, in_six_bits, allowed_six_bits, able_if_allowed, allowed_if_able, known, supported_four, four_multisampled}
use Rattle.checks.specs.Checks.{sample_limit, size_checks, as_dimension, dimension_checks, block_checks, is_sliced, sliced_checks, level_multiple, level_checks, is_empty, is_transient, transient_checks, mip_checks, is_multisampled, multisample_checks, multiple_of, allowed_usages_of, format_usage_checks, format_checks, is_this, is_twin, each_view_format, is_twin_listed, downlevel_checks, shape_checks, create_checks}
use Rattle.checks.specs.WebGpu.{WebGpuDevice, Enabled, Multisamplable, Sliceable, Compatible, width, height, depth, levels, samples, Has, Rules2D, Rules3D, DimensionRules, MultisampleRules, TransientRules, LevelsWithin, Accepts}
use Rattle.types.proofs.Every.{same_format_lem, format_same}
use Rattle.types.proofs.Rows.{row_law}
use Rattle.types.specs.Bits.{contains, intersects, difference}
use Rattle.types.specs.Dimension.{is_1d, is_2d, is_3d}
use Rattle.types.specs.Extent.{largest_side, max_mips}
use Rattle.types.specs.Features.{ASTC_SLICED_3D, BC_SLICED_3D, MULTISAMPLE_ARRAY, NV12_FORMAT, VIEW_FORMATS}
use Rattle.types.specs.Format.{same_format}
use Rattle.types.specs.Formats.{block_dimensions, is_astc, is_bcn, is_compressed, is_depth_stencil, is_planar, required_features_of, twin_of}
use Rattle.types.specs.Row.{row_of}
use Rattle.types.specs.Samples.{MULTISAMPLED, sample_count_supported}
use Rattle.types.specs.Usage.{ALL_USAGES, RENDER_ATTACHMENT, STORAGE_BINDING, TRANSIENT_ATTACHMENT}
use Rattle.types.specs.declared.capabilities.Capabilities.{Capabilities}
use Rattle.types.specs.declared.descriptor.TextureDescriptor.{TextureDescriptor}
use Rattle.types.specs.declared.dimension.TextureDimension.{TextureDimension}
use Rattle.types.specs.declared.dimension.TextureDimension.TheVariants.{D1, D2, D3}
use Rattle.types.specs.declared.format.TextureFormat.{TextureFormat}

module _ (v : Capabilities) (d : TextureDescriptor) where
  abbrev views : List TextureFormat
  views = d.view_formats.now

  -- ---- formats of WebGPU

  non_planar : WebGpuDevice v → Enabled v d.format → is_planar d.format ≡ false
  non_planar w e =
      false_from (is_planar d.format)
      (λ p. clash (contains v.features.0 NV12_FORMAT)
      (subst (λ (n : ℕ). contains v.features.0 n ≡ true) (planar_needs d.format p) e) w.no_nv12)

  own_usages : is_planar d.format ≡ false → allowed_usages_of v.features.0 d.format ≡ (row_of d.format).guaranteed.allowed_usages.0
  own_usages p = cond-false (is_planar d.format) _ _ p

  own_multiple : is_planar d.format ≡ false → level_multiple d.format (levels d) ≡ block_dimensions d.format
  own_multiple p = cond-false (is_planar d.format) _ _ p ∙ cond-false (is_planar d.format) _ _ p

  -- ---- from the checks to WebGPU's conditions

  abbrev SizesPass : TextureDimension → Type 0
  SizesPass dim = AllByRecursion Passes (map as_dimension (size_checks dim d.size (samples d) v.limits))

  one_of : (s : ℕ) (rest : Bool) → (eqb s 0 || (ltb 1 s || rest)) ≡ false → s ≡ 1
  one_of s rest h =
      let p = or_parts (eqb s 0) (ltb 1 s || rest) h in
      let l : 0 < s = positive s p.0 in
      let m : s ≤ 1 = ltb-false 1 s (or_parts (ltb 1 s) rest p.1).0 in
      omega (arith, l, m)

  slices : (compressed bcn astc bc_on astc_on : Bool)
      → ((true && compressed) && (bcn && not bc_on)) ≡ false
      → ((true && compressed) && (astc && not astc_on)) ≡ false
      → ((true && compressed) && (not bcn && not astc)) ≡ false
      → compressed ≡ true → ((bcn ≡ true) × (bc_on ≡ true)) ⊎ ((astc ≡ true) × (astc_on ≡ true))
  slices true true astc bc_on astc_on p q r h = inl (refl, must true bc_on p refl)
  slices true false true bc_on astc_on p q r h = inr (refl, must true astc_on q refl)
  slices true false false bc_on astc_on p q r h = absurd (true≢false r)
  slices false bcn astc bc_on astc_on p q r h = absurd (false≢true h)

  abbrev Slices : TextureDimension → Type 0
  Slices dim =
      (((is_3d dim && is_compressed d.format) && (is_bcn d.format && not (contains v.features.0 BC_SLICED_3D))) ≡ false)
      × (((is_3d dim && is_compressed d.format) && (is_astc d.format && not (contains v.features.0 ASTC_SLICED_3D))) ≡ false)
      × (((is_3d dim && is_compressed d.format) && (not (is_bcn d.format) && not (is_astc d.format))) ≡ false)

  rules_from : (dim : TextureDimension) → SizesPass dim → (not (is_2d dim) && is_depth_stencil d.format) ≡ false
      → (is_1d dim && is_compressed d.format) ≡ false → Slices dim → DimensionRules v d dim
  rules_from D1 s depth_stencil compressed sliced =
      record {
        width_limit = ltb-false _ _ s.1.0;
        one_row = (let l : 0 < height d = positive _ s.1.1.0 in let m : height d ≤ 1 = ltb-false _ _ s.1.1.1.0 in omega (arith, l, m));
        one_slice = (let l : 0 < depth d = positive _ s.1.1.1.1.0 in let m : depth d ≤ 1 = ltb-false _ _ s.1.1.1.1.1.0 in omega (arith, l, m));
        one_sample = one_of (samples d) (not (eqb (ones (samples d)) 1)) s.1.1.1.1.1.1.0;
        not_compressed = compressed;
        no_depth_stencil = depth_stencil;
      }
  rules_from D2 s depth_stencil compressed sliced =
      record {
        width_limit = ltb-false _ _ s.1.0;
        height_limit = ltb-false _ _ s.1.1.1.0;
        layer_limit = ltb-false _ _ s.1.1.1.1.1.0;
      }
  rules_from D3 s depth_stencil compressed sliced =
      record {
        width_limit = ltb-false _ _ s.1.0;
        height_limit = ltb-false _ _ s.1.1.1.0;
        depth_limit = ltb-false _ _ s.1.1.1.1.1.0;
        one_sample = one_of (samples d) (not (eqb (ones (samples d)) 1)) s.1.1.1.1.1.1.0;
        no_depth_stencil = depth_stencil;
        compressed =
            slices (is_compressed d.format) (is_bcn d.format) (is_astc d.format) (contains v.features.0 BC_SLICED_3D)
            (contains v.features.0 ASTC_SLICED_3D) sliced.0 sliced.1 sliced.2;
      }

  -- the largest side is within the limits
  short_2d : WebGpuDevice v → Rules2D v d → largest_side d.size D2 ≤ 65535
  short_2d w r = omega (arith, r.width_limit, r.height_limit, w.sides_2d)

  short_3d : WebGpuDevice v → Rules3D v d → largest_side d.size D3 ≤ 65535
  short_3d w r = omega (arith, r.width_limit, r.height_limit, r.depth_limit, w.sides_3d)

  levels_from : WebGpuDevice v → (dim : TextureDimension) → DimensionRules v d dim → 0 < width d → levels d ≤ max_mips d.size dim → LevelsWithin d dim
  levels_from w D1 r l h = h
  levels_from w D2 r l h =
      let m = largest_side d.size D2 in
      let k = log_of m (short_2d w r) (omega (arith, l)) in
      (k.0, k.1, subst (λ (n : ℕ). levels d ≤ n) (digits_of m (short_2d w r) k.0 k.1) h)
  levels_from w D3 r l h =
      let m = largest_side d.size D3 in
      let k = log_of m (short_3d w r) (omega (arith, l)) in
      (k.0, k.1, subst (λ (n : ℕ). levels d ≤ n) (digits_of m (short_3d w r) k.0 k.1) h)

  -- a listed view format is the format itself or its twin, and so needs what the format needs
  listed : (view : TextureFormat) → (not (same_format view d.format) && not (is_twin d.format view)) ≡ false → Compatible d.format view
  listed view h =
      elim (cases_Bool (same_format view d.format)) [
        | inl same ↦ inl (same_format_lem view d.format same)
        | inr other ↦ inr (is_this_lem (twin_of d.format) view (must (not (same_format view d.format)) (is_twin d.format view) h (not_from_false _ other)))
      ]

  all_listed : (vs : List TextureFormat) → AllByRecursion Passes (each_view_format d.format vs) → AllByRecursion (Compatible d.format) vs
  all_listed [] h = tt
  all_listed (view ∷ vs) h = (listed view h.0, all_listed vs h.1)

  needs_alike : (view : TextureFormat) → Compatible d.format view → required_features_of d.format ≡ required_features_of view
  needs_alike view (inl same) = ap required_features_of (sym same)
  needs_alike view (inr twin) = sym ((row_law d.format).twin_needs view twin)

  all_enabled : Enabled v d.format → (vs : List TextureFormat) → AllByRecursion (Compatible d.format) vs → AllByRecursion (Enabled v) vs
  all_enabled e [] h = tt
  all_enabled e (view ∷ vs) h = (subst (λ (n : ℕ). contains v.features.0 n ≡ true) (needs_alike view h.0) e, all_enabled e vs h.1)

  empty : (vs : List TextureFormat) → is_empty vs ≡ true → vs ≡ []
  empty [] h = refl
  empty (view ∷ vs) h = absurd (false≢true h)

  module _ (w : WebGpuDevice v) (h : AllByRecursion Passes (create_checks v d)) where
    shape : AllByRecursion Passes (shape_checks v d)
    shape = front (shape_checks v d) (after_shape v d) h

    mips : AllByRecursion Passes (mip_checks d)
    mips = front (mip_checks d) (after_mips v d) (back (shape_checks v d) (after_shape v d) h)

    past_mips : AllByRecursion Passes (after_mips v d)
    past_mips = back (mip_checks d) (after_mips v d) (back (shape_checks v d) (after_shape v d) h)

    formats : AllByRecursion Passes (format_checks v.features.0 d)
    formats = front (format_checks v.features.0 d) (after_format v d) past_mips

    view_formats : AllByRecursion Passes (each_view_format d.format views)
    view_formats =
        front (each_view_format d.format views) (downlevel_checks v.downlevel_flags.0 d.format views)
        (back (format_checks v.features.0 d) (after_format v d) past_mips)

    past_usage : AllByRecursion Passes (after_usage v d)
    past_usage = back (usages d) (after_usage v d) shape

    sides : SizesPass d.dimension
    sides = front (map as_dimension (sizes v d)) (after_size v d) past_usage

    past_size : AllByRecursion Passes (after_size v d)
    past_size = back (map as_dimension (sizes v d)) (after_size v d) past_usage

    dims : AllByRecursion Passes (dimension_checks d)
    dims = front (dimension_checks d) (after_dimension v d) past_size

    cut : AllByRecursion Passes (sliced_checks v.features.0 d)
    cut = back (block_checks d) (after_blocks v d) (back (dimension_checks d) (after_dimension v d) past_size)

    lasting : AllByRecursion Passes (level_checks d)
    lasting = front (level_checks d) (transient_checks d) mips

    passing : AllByRecursion Passes (transient_checks d)
    passing = back (level_checks d) (transient_checks d) mips

    enabled : Enabled v d.format
    enabled = not-false (contains v.features.0 (required_features_of d.format)) formats.0

    plain : is_planar d.format ≡ false
    plain = non_planar w enabled

    smooth : AllByRecursion Passes (multisample_checks v.features.0 (row_of d.format).guaranteed.flags.0 d)
    smooth = front (multisample_checks v.features.0 (row_of d.format).guaranteed.flags.0 d) (format_usage_checks v.features.0 d) formats.1

    usage_fits : difference d.usage.0 (row_of d.format).guaranteed.allowed_usages.0 ≡ 0
    usage_fits =
        let last = back (multisample_checks v.features.0 (row_of d.format).guaranteed.flags.0 d) (format_usage_checks v.features.0 d) formats.1 in
        let z : difference d.usage.0 (allowed_usages_of v.features.0 d.format) ≡ 0 = eqb-true _ _ (not-false _ last.0) in
        subst (λ (a : ℕ). difference d.usage.0 a ≡ 0) (own_usages plain) z

    six : d.usage.0 < 64
    six = allowed_six_bits d.format d.usage.0 usage_fits

    able_both : (imp (contains d.usage.0 RENDER_ATTACHMENT) (contains (row_of d.format).guaranteed.allowed_usages.0 RENDER_ATTACHMENT) ≡ true)
        × (imp (contains d.usage.0 STORAGE_BINDING) (intersects (row_of d.format).guaranteed.flags.0 112) ≡ true)
    able_both = and_parts _ _ (able_if_allowed d.format d.usage.0 six plain usage_fits)

    rules : DimensionRules v d d.dimension
    rules = rules_from d.dimension sides dims.0 dims.1.1.0 (cut.0, cut.1.0, cut.1.1.0)

    multiples : ((width d % (block_dimensions d.format).0) ≡ 0) × ((height d % (block_dimensions d.format).1) ≡ 0)
    multiples =
        let across : width d % (level_multiple d.format (levels d)).0 ≡ 0 = eqb-true _ _ (not-false _ lasting.1.0) in
        let down : height d % (level_multiple d.format (levels d)).1 ≡ 0 = eqb-true _ _ (not-false _ lasting.1.1.0) in
        (subst (λ (m : ℕ × ℕ). width d % m.0 ≡ 0) (own_multiple plain) across, subst (λ (m : ℕ × ℕ). height d % m.1 ≡ 0) (own_multiple plain) down)

    level_parts : (eqb (levels d) 0 ≡ false) × (ltb (max_mips d.size d.dimension) (levels d) ≡ false)
    level_parts = or_parts (eqb (levels d) 0) (ltb (max_mips d.size d.dimension) (levels d)) lasting.0

    four : 1 < samples d → (samples d ≡ 4) × Multisamplable v d.format
    four l =
        supported_four d.format (samples d)
        (must (is_multisampled d) (sample_count_supported (row_of d.format).guaranteed.flags.0 (samples d)) smooth.1.1.1.1.1.0 (lt-ltb 1 (samples d) l)) l

    one_or_four : (samples d ≡ 1) ⊎ (samples d ≡ 4)
    one_or_four =
        let l : 0 < samples d = positive _ (or_parts (eqb (samples d) 0) _ sides.1.1.1.1.1.1.0).0 in
        elim (cases_lt 1 (samples d)) [ inl more ↦ inr (four more).0 | inr less ↦ inl (omega (arith, l, less)) ]

    multisampled : 1 < samples d → MultisampleRules v d
    multisampled l =
        let m : is_multisampled d ≡ true = lt-ltb 1 (samples d) l in
        record {
          one_level = eqb-true _ _ (must (is_multisampled d) (eqb (levels d) 1) smooth.0 m);
          one_layer =
              eqb-true _ _
              (not-false _ (and_but (not (eqb (depth d) 1)) (contains v.features.0 MULTISAMPLE_ARRAY)
              (mustnt (is_multisampled d) (not (eqb (depth d) 1) && not (contains v.features.0 MULTISAMPLE_ARRAY)) smooth.1.0 m)
              w.no_multisample_array));
          no_storage = mustnt (is_multisampled d) (contains d.usage.0 STORAGE_BINDING) smooth.1.1.0 m;
          attachment = must (is_multisampled d) (contains d.usage.0 RENDER_ATTACHMENT) smooth.1.1.1.0 m;
          format = (four l).1;
        }

    transient : Has d TRANSIENT_ATTACHMENT → TransientRules d
    transient t =
        record {
          usage = eqb-true _ _ (must (is_transient d) (eqb d.usage.0 48) passing.0 t);
          two_dimensional = not-false _ (mustnt (contains d.usage.0 TRANSIENT_ATTACHMENT) (not (is_2d d.dimension)) (swapped (not (is_2d d.dimension)) (contains d.usage.0 TRANSIENT_ATTACHMENT) dims.1.0) t);
          one_level = eqb-true _ _ (must (is_transient d) (eqb (levels d) 1) passing.1.0 t);
          one_layer = eqb-true _ _ (must (is_transient d) (eqb (depth d) 1) passing.1.1.0 t);
          no_view_formats = empty views (must (is_transient d) (is_empty views) passing.1.1.1.0 t);
        }

    pub accepts : Accepts v d
    accepts =
        record {
          format_enabled = enabled;
          view_formats_enabled = all_enabled enabled views (all_listed views view_formats);
          usage_not_empty = positive _ (or_parts (eqb d.usage.0 0) (not (eqb (difference d.usage.0 ALL_USAGES) 0)) shape.0).0;
          usage_known = in_six_bits d.usage.0 six;
          width_positive = positive _ sides.0;
          height_positive = positive _ sides.1.1.0;
          depth_positive = positive _ sides.1.1.1.1.0;
          levels_positive = positive _ level_parts.0;
          sample_count = one_or_four;
          dimension_rules = rules;
          whole_blocks_across = multiples.0;
          whole_blocks_down = multiples.1;
          multisample_rules = multisampled;
          levels_within = levels_from w d.dimension rules (positive _ sides.0) (ltb-false _ _ level_parts.1);
          rendering = λ t. (
            modus _ _ able_both.0 t,
            mustnt (contains d.usage.0 RENDER_ATTACHMENT) (is_1d d.dimension) (swapped (is_1d d.dimension) (contains d.usage.0 RENDER_ATTACHMENT) dims.1.1.1.0) t,
          );
          storage = λ t. modus _ _ able_both.1 t;
          transient_rules = transient;
          view_formats_compatible = all_listed views view_formats;
        }

  -- ---- from WebGPU's conditions to the checks

  abbrev sample_test : TextureDimension → ℕ → Bool
  sample_test dim s = eqb s 0 || (ltb (sample_limit dim) s || not (eqb (ones s) 1))

  one_sample_passes : (dim : TextureDimension) → sample_test dim 1 ≡ false
  unfolding ones ones_in
  one_sample_passes D1 = refl
  one_sample_passes D2 = refl
  one_sample_passes D3 = refl

  four_samples_pass : sample_test D2 4 ≡ false
  unfolding ones ones_in
  four_samples_pass = refl

  module _ (a : Accepts v d) where
    one_passes : (dim : TextureDimension) → samples d ≡ 1 → sample_test dim (samples d) ≡ false
    one_passes dim e = subst (λ (s : ℕ). sample_test dim s ≡ false) (sym e) (one_sample_passes dim)

    either_passes : (samples d ≡ 1) ⊎ (samples d ≡ 4) → sample_test D2 (samples d) ≡ false
    either_passes (inl e) = one_passes D2 e
    either_passes (inr e) = subst (λ (s : ℕ). sample_test D2 s ≡ false) (sym e) four_samples_pass

    sides_pass : (dim : TextureDimension) → DimensionRules v d dim → SizesPass dim
    sides_pass D1 r = (
      not_zero _ a.width_positive,
      (
        le-ltb _ _ r.width_limit,
        (
          not_zero _ a.height_positive,
          (
            le-ltb 1 (height d) (omega (arith, r.one_row)),
            (not_zero _ a.depth_positive, (le-ltb 1 (depth d) (omega (arith, r.one_slice)), (one_passes D1 r.one_sample, tt))),
          ),
        ),
      ),
    )
    sides_pass D2 r = (
      not_zero _ a.width_positive,
      (
        le-ltb _ _ r.width_limit,
        (
          not_zero _ a.height_positive,
          (
            le-ltb _ _ r.height_limit,
            (not_zero _ a.depth_positive, (le-ltb _ _ r.layer_limit, (either_passes a.sample_count, tt))),
          ),
        ),
      ),
    )
    sides_pass D3 r = (
      not_zero _ a.width_positive,
      (
        le-ltb _ _ r.width_limit,
        (
          not_zero _ a.height_positive,
          (
            le-ltb _ _ r.height_limit,
            (not_zero _ a.depth_positive, (le-ltb _ _ r.depth_limit, (one_passes D3 r.one_sample, tt))),
          ),
        ),
      ),
    )

    usage_passes : AllByRecursion Passes (usages d)
    usage_passes = (
      or_from (eqb d.usage.0 0) (not (eqb (difference d.usage.0 ALL_USAGES) 0)) (not_zero _ a.usage_not_empty)
          (not_from_true _ (eq-eqb _ _ (known d.usage.0 (six_bits d.usage.0 a.usage_known)))),
      tt,
    )

    depth_passes : (dim : TextureDimension) → DimensionRules v d dim → (not (is_2d dim) && is_depth_stencil d.format) ≡ false
    depth_passes D1 r = r.no_depth_stencil
    depth_passes D2 r = refl
    depth_passes D3 r = r.no_depth_stencil

    packed_passes : (dim : TextureDimension) → DimensionRules v d dim → (is_1d dim && is_compressed d.format) ≡ false
    packed_passes D1 r = r.not_compressed
    packed_passes D2 r = refl
    packed_passes D3 r = refl

    dimension_passes : AllByRecursion Passes (dimension_checks d)
    dimension_passes = (
      depth_passes d.dimension a.dimension_rules,
      (
        mustnt_from (not (is_2d d.dimension)) (contains d.usage.0 TRANSIENT_ATTACHMENT)
            (λ p. false_from _ (λ t. clash (is_2d d.dimension) (a.transient_rules t).two_dimensional (not-true _ p))),
        (
          packed_passes d.dimension a.dimension_rules,
          (
            mustnt_from (is_1d d.dimension) (contains d.usage.0 RENDER_ATTACHMENT)
                (λ p. false_from _ (λ t. clash (is_1d d.dimension) p (a.rendering t).1)),
            tt,
          ),
        ),
      ),
    )

    blocks_pass : AllByRecursion Passes (block_checks d)
    blocks_pass = (
      must_from (is_compressed d.format) (multiple_of (width d) (block_dimensions d.format).0) (λ _. eq-eqb _ _ a.whole_blocks_across),
      (
        must_from (is_compressed d.format) (multiple_of (height d) (block_dimensions d.format).1) (λ _. eq-eqb _ _ a.whole_blocks_down),
        tt,
      ),
    )

    in_3d : (dim : TextureDimension) → is_3d dim ≡ true → DimensionRules v d dim → Rules3D v d
    in_3d D1 p r = absurd (false≢true p)
    in_3d D2 p r = absurd (false≢true p)
    in_3d D3 p r = r

    sliceable : is_sliced d ≡ true → Sliceable v d.format
    sliceable p =
        let q = and_parts (is_3d d.dimension) (is_compressed d.format) p in
        (in_3d d.dimension q.0 a.dimension_rules).compressed q.1

    -- no format is of both families
    one_family : is_bcn d.format ≡ true → is_astc d.format ≡ true → ⊥
    one_family p q = omega (arith, eqb-true (required_features_of d.format) 1 p, eqb-true (required_features_of d.format) 8 q)

    bc_passes : Sliceable v d.format → (is_bcn d.format && not (contains v.features.0 BC_SLICED_3D)) ≡ false
    bc_passes (inl p) = must_from _ _ (λ _. p.1)
    bc_passes (inr p) = must_from _ _ (λ q. absurd (one_family q p.0))

    astc_passes : Sliceable v d.format → (is_astc d.format && not (contains v.features.0 ASTC_SLICED_3D)) ≡ false
    astc_passes (inl p) = must_from _ _ (λ q. absurd (one_family p.0 q))
    astc_passes (inr p) = must_from _ _ (λ _. p.1)

    family_passes : Sliceable v d.format → (not (is_bcn d.format) && not (is_astc d.format)) ≡ false
    family_passes (inl p) = and_left _ _ (not_from_true _ p.0)
    family_passes (inr p) = must_from _ _ (λ _. p.0)

    sliced_passes : AllByRecursion Passes (sliced_checks v.features.0 d)
    sliced_passes = (
      mustnt_from (is_sliced d) _ (λ p. bc_passes (sliceable p)),
      (
        mustnt_from (is_sliced d) _ (λ p. astc_passes (sliceable p)),
        (
          mustnt_from (is_sliced d) _ (λ p. family_passes (sliceable p)),
          tt,
        ),
      ),
    )

    module _ (w : WebGpuDevice v) where
      level_bound : (dim : TextureDimension) → DimensionRules v d dim → LevelsWithin d dim → levels d ≤ max_mips d.size dim
      level_bound D1 r h = h
      level_bound D2 r h =
          subst (λ (n : ℕ). levels d ≤ n) (sym (digits_of (largest_side d.size D2) (short_2d w r) h.0 h.1)) h.2
      level_bound D3 r h =
          subst (λ (n : ℕ). levels d ≤ n) (sym (digits_of (largest_side d.size D3) (short_3d w r) h.0 h.1)) h.2

      unplanar : is_planar d.format ≡ false
      unplanar = non_planar w a.format_enabled

      levels_pass : AllByRecursion Passes (level_checks d)
      levels_pass = (
        or_from (eqb (levels d) 0) (ltb (max_mips d.size d.dimension) (levels d)) (not_zero _ a.levels_positive)
            (le-ltb _ _ (level_bound d.dimension a.dimension_rules a.levels_within)),
        (
          not_from_true _ (eq-eqb _ _ (subst (λ (m : ℕ × ℕ). width d % m.0 ≡ 0) (sym (own_multiple unplanar)) a.whole_blocks_across)),
          (
            not_from_true _ (eq-eqb _ _ (subst (λ (m : ℕ × ℕ). height d % m.1 ≡ 0) (sym (own_multiple unplanar)) a.whole_blocks_down)),
            tt,
          ),
        ),
      )

      transient_passes : AllByRecursion Passes (transient_checks d)
      transient_passes = (
        must_from (is_transient d) (eqb d.usage.0 48) (λ t. eq-eqb _ _ (a.transient_rules t).usage),
        (
          must_from (is_transient d) (eqb (levels d) 1) (λ t. eq-eqb _ _ (a.transient_rules t).one_level),
          (
            must_from (is_transient d) (eqb (depth d) 1) (λ t. eq-eqb _ _ (a.transient_rules t).one_layer),
            (
              must_from (is_transient d) (is_empty views) (λ t. ap is_empty (a.transient_rules t).no_view_formats),
              tt,
            ),
          ),
        ),
      )

      multisample_rules_at : is_multisampled d ≡ true → MultisampleRules v d
      multisample_rules_at m = a.multisample_rules (ltb-true 1 (samples d) m)

      four_supported : is_multisampled d ≡ true → sample_count_supported (row_of d.format).guaranteed.flags.0 (samples d) ≡ true
      four_supported m =
          elim a.sample_count [
            | inl one ↦ absurd (omega (arith, one, ltb-true 1 (samples d) m))
            | inr four ↦ subst (λ (s : ℕ). sample_count_supported (row_of d.format).guaranteed.flags.0 s ≡ true) (sym four) (multisample_rules_at m).format
          ]

      multisample_passes : AllByRecursion Passes (multisample_checks v.features.0 (row_of d.format).guaranteed.flags.0 d)
      multisample_passes = (
        must_from (is_multisampled d) (eqb (levels d) 1) (λ m. eq-eqb _ _ (multisample_rules_at m).one_level),
        (
          mustnt_from (is_multisampled d) (not (eqb (depth d) 1) && not (contains v.features.0 MULTISAMPLE_ARRAY))
              (λ m. and_left _ _ (not_from_true _ (eq-eqb _ _ (multisample_rules_at m).one_layer))),
          (
            mustnt_from (is_multisampled d) (contains d.usage.0 STORAGE_BINDING) (λ m. (multisample_rules_at m).no_storage),
            (
              must_from (is_multisampled d) (contains d.usage.0 RENDER_ATTACHMENT) (λ m. (multisample_rules_at m).attachment),
              (
                must_from (is_multisampled d) (intersects (row_of d.format).guaranteed.flags.0 MULTISAMPLED) (λ m. four_multisampled d.format (multisample_rules_at m).format),
                (
                  must_from (is_multisampled d) (sample_count_supported (row_of d.format).guaranteed.flags.0 (samples d)) four_supported,
                  tt,
                ),
              ),
            ),
          ),
        ),
      )

      usage_allowed : difference d.usage.0 (allowed_usages_of v.features.0 d.format) ≡ 0
      usage_allowed =
          subst (λ (n : ℕ). difference d.usage.0 n ≡ 0) (sym (own_usages unplanar))
          (allowed_if_able d.format d.usage.0 (six_bits d.usage.0 a.usage_known) unplanar
          (and_from (imp (contains d.usage.0 RENDER_ATTACHMENT) (contains (row_of d.format).guaranteed.allowed_usages.0 RENDER_ATTACHMENT))
          (imp (contains d.usage.0 STORAGE_BINDING) (intersects (row_of d.format).guaranteed.flags.0 112))
          (imp_from _ _ (λ t. (a.rendering t).0)) (imp_from _ _ a.storage))
          (λ t. (a.transient_rules t).usage))

      format_passes : AllByRecursion Passes (format_checks v.features.0 d)
      format_passes = (
        not_from_true _ a.format_enabled,
        both (multisample_checks v.features.0 (row_of d.format).guaranteed.flags.0 d) (format_usage_checks v.features.0 d) multisample_passes
            (not_from_true _ (eq-eqb _ _ usage_allowed), tt),
      )

      this_is : (o : Option TextureFormat) (g : TextureFormat) → o ≡ Some g → is_this o g ≡ true
      this_is o g e = subst (λ (p : Option TextureFormat). is_this p g ≡ true) (sym e) (format_same g g refl)

      view_passes : (view : TextureFormat) → Compatible d.format view → (not (same_format view d.format) && not (is_twin d.format view)) ≡ false
      view_passes view (inl same) = and_left _ _ (not_from_true _ (format_same view d.format same))
      view_passes view (inr twin) = must_from (not (same_format view d.format)) (is_twin d.format view) (λ _. this_is (twin_of d.format) view twin)

      views_pass : (vs : List TextureFormat) → AllByRecursion (Compatible d.format) vs → AllByRecursion Passes (each_view_format d.format vs)
      views_pass [] h = tt
      views_pass (view ∷ vs) h = (view_passes view h.0, views_pass vs h.1)

      view_formats_pass : AllByRecursion Passes (after_format v d)
      view_formats_pass =
          both (each_view_format d.format views) (downlevel_checks v.downlevel_flags.0 d.format views) (views_pass views a.view_formats_compatible)
          (must_from (is_twin_listed d.format views) (contains v.downlevel_flags.0 VIEW_FORMATS) (λ _. w.view_formats), tt)

      pub checks_pass : AllByRecursion Passes (create_checks v d)
      checks_pass =
          both (shape_checks v d) (after_shape v d)
          (both (usages d) (after_usage v d) usage_passes
          (both (map as_dimension (sizes v d)) (after_size v d) (sides_pass d.dimension a.dimension_rules)
          (both (dimension_checks d) (after_dimension v d) dimension_passes (both (block_checks d) (after_blocks v d) blocks_pass sliced_passes))))
          (both (mip_checks d) (after_mips v d) (both (level_checks d) (transient_checks d) levels_pass transient_passes)
          (both (format_checks v.features.0 d) (after_format v d) format_passes view_formats_pass))
