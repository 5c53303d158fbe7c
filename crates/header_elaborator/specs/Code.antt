-- What a function of the code says of a definition: that it gives the same, or why it does not answer.
use Rattle.std.specs.Prelude.{◌≡◌, Result, Ok, Err}
use Rattle.index_sorts.specs.declared.error.ContextError.{ContextError}
use Rattle.index_sorts.specs.declared.error.ContextError.TheVariants as context_error
use Rattle.operation_rules.specs.declared.error.RuleError.{RuleError}
use Rattle.operation_rules.specs.declared.error.RuleError.TheVariants as rule_error
use Rattle.state_types.specs.Answers.{◌>>=◌}
use Rattle.state_types.specs.declared.error.StateError.{StateError}
use Rattle.state_types.specs.declared.error.StateError.TheVariants as state_error
use Rattle.xan_lin.specs.declared.term.LimitKind.TheVariants as limit
use Rattle.typed_core.specs.Limits.{Stop as Defined, Walk, Past, Misfit, Stray, limit_of, stop_of_fault}
use Rattle.header_elaborator.specs.declared.error.Stop.{Stop}
use Rattle.header_elaborator.specs.declared.error.Stop.TheVariants as stop

-- All reasons but want of memory are the definition's.
abbrev pub Fails : {Y : Type 0} → Stop → Walk Y → Type 0
Fails (stop.Past kind) wanted = wanted ≡ Err (Past kind)
Fails stop.Misfit wanted = wanted ≡ Err Misfit
Fails stop.Stray wanted = wanted ≡ Err Stray
Fails stop.Memory wanted = Unit {0}

-- What was returned, as it is seen, is what the definition gives.
abbrev pub Gives : {X Y : Type 0} → (X → Y) → Result X Stop → Walk Y → Type 0
Gives view (Ok x) wanted = wanted ≡ Ok (view x)
Gives view (Err error) wanted = Fails error wanted

-- The same, with the state behind it.
abbrev pub Steps : {X Y S : Type 0} → (X → Y) → Result X Stop → S → Walk (Y × S) → Type 0
Steps view (Ok x) new wanted = wanted ≡ Ok (view x, new)
Steps view (Err error) new wanted = Fails error wanted

-- one part and then the next, under a name that clauses can use
abbrev pub and_then : {A B E : Type 0} → Result A E → (A → Result B E) → Result B E
and_then first next = first >>= next

-- ---- the errors of calls

abbrev pub of_context : ContextError → Stop
of_context context_error.Variables = stop.Past limit.Variables
of_context context_error.Rows = stop.Past limit.Rows
of_context context_error.Memory = stop.Memory

abbrev pub of_state : StateError → Stop
of_state (state_error.Large why) = stop.Past (limit_of why)
of_state (state_error.Kind number) = stop.Misfit
of_state state_error.Memory = stop.Memory

-- a reason of the definition
abbrev pub of_stop : Defined → Stop
of_stop (Past kind) = stop.Past kind
of_stop Misfit = stop.Misfit
of_stop Stray = stop.Stray

abbrev pub of_rule : RuleError → Stop
of_rule (rule_error.Fault fault) = of_stop (stop_of_fault fault)
of_rule rule_error.Memory = stop.Memory
