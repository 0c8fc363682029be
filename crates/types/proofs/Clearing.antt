-- The use for clearing stays among a texture's host usages, whatever else they hold.
use Rattle.std.proofs.Common.{◌≡◌, ℕ, zero, suc, ◌*◌, ◌/◌, ◌%◌, ◌<◌, Bool, true, false, cond, ◌&&◌, ◌⊎◌, refl, ap, ◌∙◌, inl, inr, mod-lt, arith, lit<}
use lib.Bits.{bit_or, and_high, or_mod, or_shr}
use Rattle.std.proofs.lemmas.Bool.{eq-eqb, false≢true, true≢false}
use Rattle.types.specs.Bits.{contains}
use Rattle.types.specs.Dimension.{is_2d}
use Rattle.types.specs.Formats.{aspects_of, is_depth_stencil}
use Rattle.types.specs.Usage.{COPY_DST, RENDER_ATTACHMENT}
use Rattle.types.specs.Uses.{Clearable, host_uses, texture_uses}
use Rattle.types.specs.declared.dimension.TextureDimension.{TextureDimension}
use Rattle.types.specs.declared.format.TextureFormat.{TextureFormat}
use Rattle.types.specs.declared.format_features.TextureFormatFeatures.{TextureFormatFeatures}

-- one binary digit joined with 1 is 1
digit : (d : ℕ) → d < 2 → bit_or d 1 ≡ 1
digit zero h = refl
digit (suc zero) h = refl
digit (suc (suc d)) h = absurd (omega (arith, h))

odd : (a : ℕ) → bit_or a 1 % 2 ≡ 1
odd a = or_mod a 1 1 ∙ digit (a % 2) (mod-lt a (lit< tt))

two : (a : ℕ) → contains (bit_or a 2) 2 ≡ true
two a = eq-eqb _ _ (and_high (bit_or a 2) 1 1 ∙ ap (λ (x : ℕ). x % 2 * 2) (or_shr a 2 1) ∙ ap (λ (x : ℕ). x * 2) (odd (a / 2)))

eight : (a : ℕ) → contains (bit_or a 8) 8 ≡ true
eight a = eq-eqb _ _ (and_high (bit_or a 8) 1 3 ∙ ap (λ (x : ℕ). x % 2 * 8) (or_shr a 8 3) ∙ ap (λ (x : ℕ). x * 8) (odd (a / 8)))

thirty_two : (a : ℕ) → contains (bit_or a 32) 32 ≡ true
thirty_two a = eq-eqb _ _ (and_high (bit_or a 32) 1 5 ∙ ap (λ (x : ℕ). x % 2 * 32) (or_shr a 32 5) ∙ ap (λ (x : ℕ). x * 32) (odd (a / 32)))

-- by the three questions that choose the use
chosen : (a : ℕ) (deep copied drawn : Bool) →
    (deep ≡ true → contains (bit_or a (cond deep 32 (cond copied 2 (cond drawn 8 2)))) 32 ≡ true)
    × (deep ≡ false → (contains (bit_or a (cond deep 32 (cond copied 2 (cond drawn 8 2)))) 2 ≡ true)
    ⊎ (contains (bit_or a (cond deep 32 (cond copied 2 (cond drawn 8 2)))) 8 ≡ true))
chosen a true copied drawn = (λ _. thirty_two a, λ p. absurd (true≢false p))
chosen a false true drawn = (λ p. absurd (false≢true p), λ _. inl (two a))
chosen a false false true = (λ p. absurd (false≢true p), λ _. inr (eight a))
chosen a false false false = (λ p. absurd (false≢true p), λ _. inl (two a))

pub clearable : (usage : ℕ) (format : TextureFormat) (dimension : TextureDimension) (features : TextureFormatFeatures)
    → Clearable format (texture_uses usage format dimension features)
clearable usage format dimension features =
    chosen (host_uses usage (aspects_of format) features.flags.0) (is_depth_stencil format) (contains usage COPY_DST)
    (contains features.allowed_usages.0 RENDER_ATTACHMENT && is_2d dimension)
