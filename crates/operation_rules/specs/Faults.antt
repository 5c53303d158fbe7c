-- Why an operation has no rule: one name for each rule of verification that an operation can break, in the order in which they are looked at.
use Rattle.std.specs.Prelude.{Result, Ok, Err, Option, Some, None}
use Rattle.xan_lin.specs.declared.term.TooLarge.{TooLarge}
use Rattle.index_sorts.specs.declared.error.ContextError.{ContextError}
use Rattle.state_types.specs.Answers.{Check}
use Rattle.state_types.specs.declared.error.StateError.TheVariants as state_error
pub use Rattle.operation_rules.specs.declared.error.Fault.{Fault}
pub use Rattle.operation_rules.specs.declared.error.Fault.TheVariants.{NoTarget, NoType, NoPlace, WrongCount, WrongKind, Large, Full}

abbrev pub Ruling : Type 0 → Type 0
Ruling A = Result A Fault

-- an exact form that is needed
abbrev pub needed : {A : Type 0} → Result A TooLarge → Ruling A
needed (Ok x) = Ok x
needed (Err why) = Err (Large why)

abbrev pub filled : {A : Type 0} → Result A ContextError → Ruling A
filled (Ok x) = Ok x
filled (Err why) = Err (Full why)

abbrev pub or_fault : {A : Type 0} → Fault → Option A → Ruling A
or_fault fault (Some x) = Ok x
or_fault fault None = Err fault

-- no definition answers `Memory`
abbrev pub of_match : {A : Type 0} → Check A → Ruling A
of_match (Ok x) = Ok x
of_match (Err (state_error.Large why)) = Err (Large why)
of_match (Err (state_error.Kind number)) = Err WrongKind
of_match (Err state_error.Memory) = Err WrongKind
