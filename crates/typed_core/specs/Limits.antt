-- What a program can have too much of, how much is allowed, and answers that are a value or why there is none.
use Rattle.std.specs.Prelude.{ℕ, nat_lt, Bool as Truth, true, false, Result, Ok, Err, if◌then◌else◌}
use Rattle.xan_lin.specs.Linear.{bound}
use Rattle.xan_lin.specs.declared.term.LimitKind.{LimitKind}
use Rattle.xan_lin.specs.declared.term.LimitKind.TheVariants as limit
use Rattle.xan_lin.specs.declared.term.TooLarge.{TooLarge}
use Rattle.xan_lin.specs.declared.term.TooLarge.TheVariants as large
use Rattle.index_sorts.specs.declared.error.ContextError.{ContextError}
use Rattle.index_sorts.specs.declared.error.ContextError.TheVariants as context_error
use Rattle.operation_rules.specs.Faults.{Ruling}
use Rattle.operation_rules.specs.declared.error.Fault.{Fault}
use Rattle.operation_rules.specs.declared.error.Fault.TheVariants.{NoTarget, NoType, NoPlace, WrongCount, WrongKind, Large, Full}

-- how much of each there may be
abbrev pub most : LimitKind → ℕ
most limit.Length = 1048576
most limit.Nesting = 64
most limit.Functions = 1024
most limit.Types = 1024
most limit.Parameters = 8
most limit.Variables = 1024
most limit.Rows = 512
most limit.Terms = 16
most limit.Magnitude = bound
most limit.Places = 240
most limit.Cone = 64
most limit.System = 2000

-- Why an elaboration stops: a limit is passed, or the core is none. It is a misfit where a number names nothing, or a kind is another one
-- than is asked for; it is a stray where terms or index variables do not rise, or where a form names an index variable that is not there.
-- Neither comes of a core that keeps the rules of a core.
pub data Stop : Type 0 where
  Past : LimitKind → Stop
  Misfit : Stop
  Stray : Stop

-- a value, or why there is none
abbrev pub Walk : Type 0 → Type 0
Walk A = Result A Stop

-- there are so many of a kind
abbrev pub within : LimitKind → ℕ → Walk (Unit {0})
within kind count = if nat_lt (most kind) count then Err (Past kind) else Ok tt

-- ---- refusals of forms, contexts and matches

abbrev pub limit_of : TooLarge → LimitKind
limit_of large.Terms = limit.Terms
limit_of large.Magnitude = limit.Magnitude

-- an exact form that is needed, and has to be within the bounds
abbrev pub needed : {A : Type 0} → Result A TooLarge → Walk A
needed (Ok x) = Ok x
needed (Err why) = Err (Past (limit_of why))

-- no definition answers `Memory`
abbrev pub stop_of_context : ContextError → Stop
stop_of_context context_error.Variables = Past limit.Variables
stop_of_context context_error.Rows = Past limit.Rows
stop_of_context context_error.Memory = Misfit

abbrev pub in_context : {A : Type 0} → Result A ContextError → Walk A
in_context (Ok x) = Ok x
in_context (Err why) = Err (stop_of_context why)

-- ---- refusals of rules

-- a fault that is no limit is that of kinds or numbers
abbrev pub stop_of_fault : Fault → Stop
stop_of_fault NoTarget = Misfit
stop_of_fault NoType = Misfit
stop_of_fault NoPlace = Misfit
stop_of_fault WrongCount = Misfit
stop_of_fault WrongKind = Misfit
stop_of_fault (Large why) = Past (limit_of why)
stop_of_fault (Full why) = stop_of_context why

abbrev pub by_rule : {A : Type 0} → Ruling A → Walk A
by_rule (Ok x) = Ok x
by_rule (Err fault) = Err (stop_of_fault fault)

-- ---- what holds of every core

-- what was tested is so, or the core is none
abbrev pub held : Truth → Walk (Unit {0})
held true = Ok tt
held false = Err Stray
