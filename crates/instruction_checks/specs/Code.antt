-- What a function of the code says of what is asked at a place: that it gives the same, or the same broken rule, or that memory ran out.
use Rattle.std.specs.Prelude.{◌≡◌, IsOk, Result, Ok, Err}
use Rattle.operation_rules.specs.declared.error.RuleError.{RuleError}
use Rattle.operation_rules.specs.declared.error.RuleError.TheVariants as rule_error
use Rattle.dtal_code.specs.Verdicts.{Verdict, rule_of}
use Rattle.instruction_checks.specs.declared.error.Broken.{Broken}
use Rattle.instruction_checks.specs.declared.error.Broken.TheVariants as broken

-- A rule that is broken is the definition's.
abbrev pub Fails : {Y : Type 0} → Broken → Verdict Y → Type 0
Fails (broken.Rule rule) wanted = wanted ≡ Err rule
Fails broken.Memory wanted = Unit {0}

-- What was returned, as it is seen, is what the definition gives.
abbrev pub Gives : {X Y : Type 0} → (X → Y) → Result X Broken → Verdict Y → Type 0
Gives view (Ok x) wanted = wanted ≡ Ok (view x)
Gives view (Err error) wanted = Fails error wanted

-- The same, whatever the value is.
abbrev pub IsGiven : {X Y : Type 0} → Result X Broken → Verdict Y → Type 0
IsGiven (Ok x) wanted = IsOk wanted
IsGiven (Err error) wanted = Fails error wanted

-- ---- the errors of calls

abbrev pub of_rule : RuleError → Broken
of_rule (rule_error.Fault fault) = broken.Rule (rule_of fault)
of_rule rule_error.Memory = broken.Memory
