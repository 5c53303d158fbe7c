-- What the code says of a definition: that it gives the same, or the same fault, or that memory ran out.
use Rattle.std.specs.Prelude.{◌≡◌, Result, Ok, Err}
use Rattle.index_sorts.specs.declared.error.ContextError.{ContextError}
use Rattle.index_sorts.specs.declared.error.ContextError.TheVariants as context_error
use Rattle.state_types.specs.Answers.{◌>>=◌}
use Rattle.state_types.specs.declared.error.StateError.{StateError}
use Rattle.state_types.specs.declared.error.StateError.TheVariants as state_error
use Rattle.operation_rules.specs.Faults.{Ruling, WrongKind, Large, Full}
use Rattle.operation_rules.specs.declared.error.RuleError.{RuleError}
use Rattle.operation_rules.specs.declared.error.RuleError.TheVariants as rule_error

abbrev pub Fails : {Y : Type 0} → RuleError → Ruling Y → Type 0
Fails (rule_error.Fault fault) wanted = wanted ≡ Err fault
Fails rule_error.Memory wanted = Unit {0}

-- what was returned, as it is seen, is what the definition gives
abbrev pub Gives : {X Y : Type 0} → (X → Y) → Result X RuleError → Ruling Y → Type 0
Gives view (Ok x) wanted = wanted ≡ Ok (view x)
Gives view (Err error) wanted = Fails error wanted

-- one part and then the next, under a name that clauses can use
abbrev pub and_then : {A B E : Type 0} → Result A E → (A → Result B E) → Result B E
and_then first next = first >>= next

-- ---- the errors of calls

abbrev pub of_context : ContextError → RuleError
of_context context_error.Variables = rule_error.Fault (Full context_error.Variables)
of_context context_error.Rows = rule_error.Fault (Full context_error.Rows)
of_context context_error.Memory = rule_error.Memory

abbrev pub of_state : StateError → RuleError
of_state (state_error.Large why) = rule_error.Fault (Large why)
of_state (state_error.Kind number) = rule_error.Fault WrongKind
of_state state_error.Memory = rule_error.Memory
