use Rattle.std.proofs.Common.{ℕ, ◌^◌, ◌<◌, ◌≤◌, max, sym, ap, arith, pow_mono}
use native.Mathlib.Nat.{div-eq_of_lt}
use Rattle.types.proofs.texture_info.level_side.Goals as goal

-- a side has 32 binary digits at the most, so as many halvings leave nothing of it
pub returns-else-level-lt-BITS : goal.returns-else-level-lt-BITS
returns-else-level-lt-BITS c =
    let deep : 32 ≤ c.args.level = omega arith in
    let wide : 2 ^ 32 ≤ 2 ^ c.args.level = pow_mono deep in
    let short : c.args.side < 2 ^ c.args.level = omega (arith, wide) in
    sym (ap (λ (n : ℕ). max n 1) (div-eq_of_lt short))
