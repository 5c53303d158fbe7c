-- What a function of the code says of a walk over places: that it gives the same, or the same refusal, or that memory ran out.
use Rattle.std.specs.Prelude.{◌≡◌, IsOk, Result, Ok, Err}
use Rattle.dtal_code.specs.Verdicts.{Walk}
use Rattle.dtal_code.specs.declared.refusal.Where.{Where}
use Rattle.instruction_checks.specs.declared.error.Broken.{Broken}
use Rattle.instruction_checks.specs.declared.error.Broken.TheVariants as broken
use Rattle.dtal_verifier.specs.declared.error.VerifyError.{VerifyError}
use Rattle.dtal_verifier.specs.declared.error.VerifyError.TheVariants as verify_error

abbrev pub Refuses : {Y : Type 0} → VerifyError → Walk Y → Type 0
Refuses (verify_error.Refused at rule) wanted = wanted ≡ Err (record { at = at; rule = rule })
Refuses verify_error.Memory wanted = Unit {0}

abbrev pub Passes : {X Y : Type 0} → (X → Y) → Result X VerifyError → Walk Y → Type 0
Passes view (Ok x) wanted = wanted ≡ Ok (view x)
Passes view (Err error) wanted = Refuses error wanted

-- The same of a walk of which only the refusal is seen.
abbrev pub Decides : {X Y : Type 0} → Result X VerifyError → Walk Y → Type 0
Decides (Ok x) wanted = IsOk wanted
Decides (Err error) wanted = Refuses error wanted

-- a broken rule, told with its place
abbrev pub located : Where → Broken → VerifyError
located place (broken.Rule rule) = verify_error.Refused place rule
located place broken.Memory = verify_error.Memory
