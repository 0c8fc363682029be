-- Numbers that name things.
use Rattle.std.specs.Prelude.{◌≡◌, ◌≢◌, ℕ, Ok, Err, Result}
use Rattle.types.specs.declared.code.UnknownCode.{UnknownCode}

-- the thing with this code, or, where nothing has it, an error with the code
abbrev pub Decodes : {T : Type 0} → (T → ℕ) → ℕ → Result T UnknownCode → Type 0
Decodes code_of code (Ok x) = code_of x ≡ code
Decodes {T = T} code_of code (Err e) = (e.0 ≡ code) × ((x : T) → code_of x ≢ code)
