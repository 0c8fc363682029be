-- What the rows of the table say of usages and samples, by one computed test, for the formats and usages of WebGPU.
use Rattle.std.proofs.Common.{◌≡◌, ℕ, zero, suc, ◌<◌, Bool, true, false, cond, not, ◌&&◌, ◌||◌, eqb, List, [], ◌∷◌, get_or, sym, refl, ap, ◌∙◌, subst, inl, inr, not-suc-le-zero, mod-eq_of_lt, arith, lit<}
use lib.Bits.{bit_and, bit_xor, xor_assoc, xor_self, xor_zero_r, xor_zero_l, and_comm, and_le_r, and_le_l, and_mask}
use Rattle.std.proofs.lemmas.Bool.{cases_lt, and_parts, and_from, eqb-true, eq-eqb, ne_eqb, not-true, not_from_false, true≢false, false≢true}
use Rattle.types.proofs.Every.{conj, nth, each}
use Rattle.types.proofs.Rows.{row_law}
use Rattle.types.specs.Bits.{contains, difference, intersects}
use Rattle.types.specs.Formats.{is_planar, required_features_of}
use Rattle.types.specs.Row.{row_of}
use Rattle.types.specs.Samples.{MULTISAMPLED, X2, X4, X8, X16, sample_count_supported}
use Rattle.types.specs.Usage.{ALL_USAGES, RENDER_ATTACHMENT, STORAGE_BINDING, TRANSIENT_ATTACHMENT}
use Rattle.types.specs.Laws.{WEBGPU_USAGES}
use Rattle.types.specs.declared.format.TextureFormat.{TextureFormat}

-- ---- tests

abbrev pub imp : Bool → Bool → Bool
imp a b = not a || b

pub modus : (a b : Bool) → imp a b ≡ true → a ≡ true → b ≡ true
modus true b h p = h
modus false b h p = absurd (false≢true p)

pub imp_from : (a b : Bool) → (a ≡ true → b ≡ true) → imp a b ≡ true
imp_from true b h = h refl
imp_from false b h = refl

-- a test of every number below n
abbrev pub below : ℕ → (ℕ → Bool) → Bool
below zero p = true
below (suc n) p = p n && below n p

pub below_at : (n : ℕ) (p : ℕ → Bool) → below n p ≡ true → (k : ℕ) → k < n → p k ≡ true
below_at zero p h k l = absurd (not-suc-le-zero l)
below_at (suc n) p h k l =
    elim (cases_lt k n) [
      | inl less ↦ below_at n p (and_parts (p n) (below n p) h).1 k less
      | inr more ↦ (let e : n ≡ k = omega arith in subst (λ (m : ℕ). p m ≡ true) e (and_parts (p n) (below n p) h).0)
    ]

abbrev allowed : TextureFormat → ℕ
allowed f = (row_of f).guaranteed.allowed_usages.0

abbrev flags : TextureFormat → ℕ
flags f = (row_of f).guaranteed.flags.0

-- the usages that a format of WebGPU allows are those that its abilities allow
abbrev able : TextureFormat → ℕ → Bool
able f u = imp (contains u RENDER_ATTACHMENT) (contains (allowed f) RENDER_ATTACHMENT) && imp (contains u STORAGE_BINDING) (intersects (flags f) 112)

abbrev usage_tests : TextureFormat → ℕ → List Bool
usage_tests f u =
    imp (not (is_planar f) && eqb (difference u (allowed f)) 0) (able f u)
    ∷ imp (not (is_planar f) && (able f u && imp (contains u TRANSIENT_ATTACHMENT) (eqb u 48))) (eqb (difference u (allowed f)) 0)
    ∷ []

-- the one test
abbrev row_tests : TextureFormat → List Bool
row_tests f =
    imp (is_planar f) (eqb (required_features_of f) 64)
    ∷ below 64 (λ u. conj (usage_tests f u))
    ∷ not (contains (flags f) X2)
    ∷ not (contains (flags f) X8)
    ∷ not (contains (flags f) X16)
    ∷ imp (contains (flags f) X4) (intersects (flags f) MULTISAMPLED)
    ∷ []

row : (f : TextureFormat) (k : ℕ) → k < 6 → get_or (row_tests f) k true ≡ true
row f k h = nth (row_tests f) (each (λ g. conj (row_tests g)) refl f) k h

usage : (f : TextureFormat) (u : ℕ) → u < 64 → (k : ℕ) → k < 2 → get_or (usage_tests f u) k true ≡ true
usage f u l k h = nth (usage_tests f u) (below_at 64 (λ v. conj (usage_tests f v)) (row f 1 (lit< tt)) u l) k h

pub planar_needs : (f : TextureFormat) → is_planar f ≡ true → required_features_of f ≡ 64
planar_needs f p = eqb-true _ _ (modus (is_planar f) (eqb (required_features_of f) 64) (row f 0 (lit< tt)) p)

-- ---- sets of bits

xor_zero : (a b : ℕ) → bit_xor a b ≡ 0 → a ≡ b
xor_zero a b h =
    sym (xor_zero_r a) ∙ ap (bit_xor a) (sym (xor_self b)) ∙ sym (xor_assoc a b b) ∙ ap (λ (x : ℕ). bit_xor x b) h ∙ xor_zero_l b

-- nothing is left of u without a: u lies within a
pub within : (u a : ℕ) → difference u a ≡ 0 → bit_and u a ≡ u
within u a h = sym (xor_zero u (bit_and u a) h)

pub six_bits : (u : ℕ) → contains WEBGPU_USAGES u ≡ true → u < 64
six_bits u h = let e : bit_and 63 u ≡ u = eqb-true _ _ h in omega (arith, and_le_l 63 u, e)

pub in_six_bits : (u : ℕ) → u < 64 → contains WEBGPU_USAGES u ≡ true
in_six_bits u l = eq-eqb (bit_and 63 u) u (and_comm 63 u ∙ and_mask u 6 ∙ mod-eq_of_lt l)

module _ (f : TextureFormat) (u : ℕ) where
  pub allowed_six_bits : difference u (allowed f) ≡ 0 → u < 64
  allowed_six_bits h =
      let e : bit_and u (allowed f) ≡ u = within u (allowed f) h in
      let a : allowed f < 64 = six_bits (allowed f) (row_law f).usages in
      omega (arith, and_le_r u (allowed f), e, a)

  module _ (l : u < 64) (p : is_planar f ≡ false) where
    pub able_if_allowed : difference u (allowed f) ≡ 0 → able f u ≡ true
    able_if_allowed h =
        modus (not (is_planar f) && eqb (difference u (allowed f)) 0) (able f u) (usage f u l 0 (lit< tt))
        (and_from (not (is_planar f)) (eqb (difference u (allowed f)) 0) (not_from_false (is_planar f) p) (eq-eqb _ _ h))

    pub allowed_if_able : able f u ≡ true → (contains u TRANSIENT_ATTACHMENT ≡ true → u ≡ 48) → difference u (allowed f) ≡ 0
    allowed_if_able h t =
        eqb-true _ _
        (modus (not (is_planar f) && (able f u && imp (contains u TRANSIENT_ATTACHMENT) (eqb u 48))) (eqb (difference u (allowed f)) 0)
        (usage f u l 1 (lit< tt))
        (and_from (not (is_planar f)) (able f u && imp (contains u TRANSIENT_ATTACHMENT) (eqb u 48)) (not_from_false (is_planar f) p)
        (and_from (able f u) (imp (contains u TRANSIENT_ATTACHMENT) (eqb u 48)) h
        (imp_from (contains u TRANSIENT_ATTACHMENT) (eqb u 48) (λ k. eq-eqb u 48 (t k))))))

-- every usage of WebGPU is known
known_test : below 64 (λ u. eqb (difference u ALL_USAGES) 0) ≡ true
known_test = refl

pub known : (u : ℕ) → u < 64 → difference u ALL_USAGES ≡ 0
known u l = eqb-true _ _ (below_at 64 (λ v. eqb (difference v ALL_USAGES) 0) known_test u l)

-- ---- sample counts: four is the one beside one

pick : (s1 s2 s4 s8 s16 a2 a4 a8 a16 : Bool) → a2 ≡ false → a8 ≡ false → a16 ≡ false → s1 ≡ false
    → cond s1 true (cond s2 a2 (cond s4 a4 (cond s8 a8 (cond s16 a16 false)))) ≡ true → (s4 ≡ true) × (a4 ≡ true)
pick true s2 s4 s8 s16 a2 a4 a8 a16 p q r n h = absurd (true≢false n)
pick false true s4 s8 s16 a2 a4 a8 a16 p q r n h = absurd (true≢false (sym h ∙ p))
pick false false true s8 s16 a2 a4 a8 a16 p q r n h = (refl, h)
pick false false false true s16 a2 a4 a8 a16 p q r n h = absurd (true≢false (sym h ∙ q))
pick false false false false true a2 a4 a8 a16 p q r n h = absurd (true≢false (sym h ∙ r))
pick false false false false false a2 a4 a8 a16 p q r n h = absurd (false≢true h)

only_four : (a2 a4 a8 a16 : Bool) (s : ℕ) → a2 ≡ false → a8 ≡ false → a16 ≡ false
    → cond (eqb s 1) true (cond (eqb s 2) a2 (cond (eqb s 4) a4 (cond (eqb s 8) a8 (cond (eqb s 16) a16 false)))) ≡ true
    → 1 < s → (s ≡ 4) × (a4 ≡ true)
only_four a2 a4 a8 a16 s p q r h l =
    let n1 : eqb s 1 ≡ false = ne_eqb s 1 (λ e. omega (arith, e, l)) in
    let c = pick (eqb s 1) (eqb s 2) (eqb s 4) (eqb s 8) (eqb s 16) a2 a4 a8 a16 p q r n1 h in
    (eqb-true s 4 c.0, c.1)

pub supported_four : (f : TextureFormat) (s : ℕ) → sample_count_supported (flags f) s ≡ true → 1 < s → (s ≡ 4) × (contains (flags f) X4 ≡ true)
supported_four f s h l =
    only_four (contains (flags f) X2) (contains (flags f) X4) (contains (flags f) X8) (contains (flags f) X16) s
    (not-true _ (row f 2 (lit< tt))) (not-true _ (row f 3 (lit< tt))) (not-true _ (row f 4 (lit< tt))) h l

pub four_multisampled : (f : TextureFormat) → contains (flags f) X4 ≡ true → intersects (flags f) MULTISAMPLED ≡ true
four_multisampled f h = modus (contains (flags f) X4) (intersects (flags f) MULTISAMPLED) (row f 5 (lit< tt)) h
