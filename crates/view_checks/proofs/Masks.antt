-- Sets of bits that are cut to a mask.
use Rattle.std.proofs.Common.{◌≡◌, ℕ, zero, suc, ◌+◌, ◌*◌, ◌/◌, ◌%◌, ◌<◌, true, false, not, sym, refl, ap, ◌∙◌, mod-lt, div-add-mod', arith, lit<}
use lib.Arith.{bin_ind}
use lib.Bits.{bit_and, and_comm, and_mod, and_self, and_shr}
use Rattle.std.proofs.lemmas.Bool.{eq-eqb}
use Rattle.types.specs.Bits.{contains, intersects}

by_digits : (a b : ℕ) → a / 2 ≡ b / 2 → a % 2 ≡ b % 2 → a ≡ b
by_digits a b high low =
    sym (div-add-mod' a 2) ∙ (λ i. high i * 2 + low i) ∙ div-add-mod' b 2

digit_assoc : (x y z : ℕ) → x < 2 → y < 2 → z < 2 → bit_and (bit_and x y) z ≡ bit_and x (bit_and y z)
digit_assoc zero y z hx hy hz = refl
digit_assoc (suc zero) zero z hx hy hz = refl
digit_assoc (suc zero) (suc zero) zero hx hy hz = refl
digit_assoc (suc zero) (suc zero) (suc zero) hx hy hz = refl
digit_assoc (suc zero) (suc zero) (suc (suc z)) hx hy hz = absurd (omega (arith, hz))
digit_assoc (suc zero) (suc (suc y)) z hx hy hz = absurd (omega (arith, hy))
digit_assoc (suc (suc x)) y z hx hy hz = absurd (omega (arith, hx))

and_assoc : (a b c : ℕ) → bit_and (bit_and a b) c ≡ bit_and a (bit_and b c)
and_assoc =
    bin_ind (λ (n : ℕ). (b c : ℕ) → bit_and (bit_and n b) c ≡ bit_and n (bit_and b c)) (λ b c. refl)
    (λ n ih b c. by_digits _ _
    (and_shr (bit_and n b) c 1 ∙ ap (λ (x : ℕ). bit_and x (c / 2)) (and_shr n b 1) ∙ ih (b / 2) (c / 2)
    ∙ sym (and_shr n (bit_and b c) 1 ∙ ap (bit_and (n / 2)) (and_shr b c 1)))
    (and_mod (bit_and n b) c 1 ∙ ap (λ (x : ℕ). bit_and x (c % 2)) (and_mod n b 1)
    ∙ digit_assoc (n % 2) (b % 2) (c % 2) (mod-lt n (lit< tt)) (mod-lt b (lit< tt)) (mod-lt c (lit< tt))
    ∙ sym (and_mod n (bit_and b c) 1 ∙ ap (bit_and (n % 2)) (and_mod b c 1))))

-- a set lies within a mask where the mask holds each of its bits
abbrev Within : ℕ → ℕ → Type 0
Within mask set = bit_and mask set ≡ set

-- what is cut to a mask lies within it, and within all that it lay within before
pub cut : (set mask : ℕ) → Within mask (bit_and set mask)
cut set mask = and_comm mask (bit_and set mask) ∙ and_assoc set mask mask ∙ ap (bit_and set) (and_self mask)

pub still : (whole set mask : ℕ) → Within whole set → Within whole (bit_and set mask)
still whole set mask h = sym (and_assoc whole set mask) ∙ ap (λ (x : ℕ). bit_and x mask) h

pub itself : (set : ℕ) → Within set set
itself set = and_self set

pub held : (mask set : ℕ) → Within mask set → contains mask set ≡ true
held mask set h = eq-eqb _ _ h

-- and it has nothing of what the mask has not
pub apart : (mask set others : ℕ) → Within mask set → bit_and mask others ≡ 0 → intersects set others ≡ false
apart mask set others h none =
    let e : bit_and set others ≡ 0 =
    ap (λ (x : ℕ). bit_and x others) (sym h) ∙ and_assoc mask set others ∙ ap (bit_and mask) (and_comm set others) ∙ sym (and_assoc mask others set)
    ∙ ap (λ (x : ℕ). bit_and x set) none
    in
    ap not (eq-eqb (bit_and set others) 0 e)
