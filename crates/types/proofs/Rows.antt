-- The law of the table's rows, by one computed test.
use Rattle.std.proofs.Common.{◌≡◌, ℕ, ◌<◌, Bool, true, false, eqb, List, [], ◌∷◌, get_or, Some, None, Option, refl, ap, subst, lit<}
use Rattle.std.proofs.lemmas.Bool.{eqb-true, false≢true}
use Rattle.types.proofs.Every.{conj, nth, each, same_format_lem}
use Rattle.types.specs.Bits.{contains}
use Rattle.types.specs.Format.{same_format}
use Rattle.types.specs.Formats.{aspects_of, block_dimensions, part_of, required_features_of, twin_of}
use Rattle.types.specs.Laws.{RowLaw, WEBGPU_USAGES, aspects_at}
use Rattle.types.specs.Row.{row_of}
use Rattle.types.specs.declared.aspect.TextureAspect.{TextureAspect}
use Rattle.types.specs.declared.aspect.TextureAspect.TheVariants.{All, DepthOnly, StencilOnly, Plane0, Plane1}
use Rattle.types.specs.declared.format.TextureFormat.{TextureFormat}

pair : {a b c d : ℕ} → a ≡ c → b ≡ d → ◌≡◌ {A = ℕ × ℕ} (a, b) (c, d)
pair p q = cc

-- a test of the format that there may be
abbrev maybe : Option TextureFormat → (TextureFormat → Bool) → Bool
maybe None p = true
maybe (Some f) p = p f

maybe_some : (o : Option TextureFormat) (p : TextureFormat → Bool) (f : TextureFormat) → maybe o p ≡ true → o ≡ Some f → p f ≡ true
maybe_some o p f h e = subst (λ (x : Option TextureFormat). maybe x p ≡ true) e h

abbrev is : Option TextureFormat → TextureFormat → Bool
is None f = false
is (Some g) f = same_format g f

is_lem : (o : Option TextureFormat) (f : TextureFormat) → is o f ≡ true → o ≡ Some f
is_lem None f h = absurd (false≢true h)
is_lem (Some g) f h = ap Some (same_format_lem g f h)

abbrev twin_tests : TextureFormat → TextureFormat → List Bool
twin_tests f t =
    is (twin_of t) f
    ∷ eqb (block_dimensions t).0 (block_dimensions f).0
    ∷ eqb (block_dimensions t).1 (block_dimensions f).1
    ∷ eqb (aspects_of t) (aspects_of f)
    ∷ eqb (required_features_of t) (required_features_of f)
    ∷ []

abbrev part_test : TextureFormat → TextureAspect → Bool
part_test f a = maybe (part_of f a) (λ p. eqb (aspects_of p) (aspects_at f a))

-- the one test: twins point at each other and agree, usages are WebGPU's, parts have their aspect and no other
abbrev row_tests : TextureFormat → List Bool
row_tests f =
    maybe (twin_of f) (λ t. conj (twin_tests f t))
    ∷ contains WEBGPU_USAGES (row_of f).guaranteed.allowed_usages.0
    ∷ part_test f All
    ∷ part_test f DepthOnly
    ∷ part_test f StencilOnly
    ∷ part_test f Plane0
    ∷ part_test f Plane1
    ∷ []

module _ (f : TextureFormat) where
  row : (k : ℕ) → k < 7 → get_or (row_tests f) k true ≡ true
  row k h = nth (row_tests f) (each (λ g. conj (row_tests g)) refl f) k h

  twin : (t : TextureFormat) → twin_of f ≡ Some t → (k : ℕ) → k < 5 → get_or (twin_tests f t) k true ≡ true
  twin t e k h = nth (twin_tests f t) (maybe_some (twin_of f) (λ u. conj (twin_tests f u)) t (row 0 (lit< tt)) e) k h

  part : (a : TextureAspect) → part_test f a ≡ true
  part All = row 2 (lit< tt)
  part DepthOnly = row 3 (lit< tt)
  part StencilOnly = row 4 (lit< tt)
  part Plane0 = row 5 (lit< tt)
  part Plane1 = row 6 (lit< tt)

  pub row_law : RowLaw f
  row_law =
      record {
        twin_back = λ t e. is_lem (twin_of t) f (twin t e 0 (lit< tt));
        twin_block = λ t e. pair (eqb-true _ _ (twin t e 1 (lit< tt))) (eqb-true _ _ (twin t e 2 (lit< tt)));
        twin_aspects = λ t e. eqb-true _ _ (twin t e 3 (lit< tt));
        twin_needs = λ t e. eqb-true _ _ (twin t e 4 (lit< tt));
        part_aspects = λ a p e. eqb-true _ _ (maybe_some (part_of f a) (λ q. eqb (aspects_of q) (aspects_at f a)) p (part a) e);
        usages = row 1 (lit< tt);
      }
