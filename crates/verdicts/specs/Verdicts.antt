-- How the checks' answers stand to the stored ones.
use Rattle.std.specs.Prelude.{ℕ, Bool, true, false, Some, None, Ok, Err, Option, Result, ◌==◌}
use Rattle.verdicts.specs.declared.verdict.Verdict.{Verdict}
use Rattle.verdicts.specs.declared.verdict.Verdict.TheVariants.{BothAccept, BothRefuse, OnlyChecksAccept, OnlyChecksRefuse}

-- the number of the refusal, if there is one
abbrev pub refusal_of : {X E : Type 0} → (E → ℕ) → Result X E → Option ℕ
refusal_of number (Ok x) = None
refusal_of number (Err e) = Some (number e)

-- the verdict on the number of the checks' refusal, if any, and whether the implementation accepted
abbrev pub verdict_of : Option ℕ → Bool → Verdict
verdict_of None true = BothAccept
verdict_of None false = OnlyChecksAccept
verdict_of (Some n) true = OnlyChecksRefuse n
verdict_of (Some n) false = BothRefuse n

abbrev pub both_accept : Verdict → Bool
both_accept BothAccept = true
both_accept (BothRefuse n) = false
both_accept OnlyChecksAccept = false
both_accept (OnlyChecksRefuse n) = false

abbrev pub both_refuse : Verdict → Bool
both_refuse BothAccept = false
both_refuse (BothRefuse n) = true
both_refuse OnlyChecksAccept = false
both_refuse (OnlyChecksRefuse n) = false

abbrev pub differs : Verdict → Bool
differs BothAccept = false
differs (BothRefuse n) = false
differs OnlyChecksAccept = true
differs (OnlyChecksRefuse n) = true

-- the checks refuse with this number
abbrev pub refused_with : ℕ → Verdict → Bool
refused_with number BothAccept = false
refused_with number (BothRefuse n) = n == number
refused_with number OnlyChecksAccept = false
refused_with number (OnlyChecksRefuse n) = n == number
