-- Answers that are a value or the first refusal, and what the code says of them.
use Rattle.std.specs.Prelude.{◌≡◌, Result, Ok, Err}
pub use Rattle.xan_seq.specs.Answers.{◌>>=◌}
use Rattle.xan_lin.specs.declared.term.TooLarge.{TooLarge}
use Rattle.state_types.specs.declared.error.StateError.{StateError}
use Rattle.state_types.specs.declared.error.StateError.TheVariants.{Kind, Large, Memory}

-- a value, or why there is none; no definition answers `Memory`
abbrev pub Check : Type 0 → Type 0
Check A = Result A StateError

-- an exact result that must be within the bounds of forms
abbrev pub within_bounds : {A : Type 0} → Result A TooLarge → Check A
within_bounds (Ok x) = Ok x
within_bounds (Err why) = Err (Large why)

-- ---- what a call answers

abbrev pub Fails : {Y : Type 0} → StateError → Check Y → Type 0
Fails Memory wanted = Unit {0}
Fails (Kind number) wanted = wanted ≡ Err (Kind number)
Fails (Large why) wanted = wanted ≡ Err (Large why)

-- what was returned, as it is seen, is what the definition gives, or memory ran out
abbrev pub Gives : {X Y : Type 0} → (X → Y) → Result X StateError → Check Y → Type 0
Gives view (Ok x) wanted = wanted ≡ Ok (view x)
Gives view (Err error) wanted = Fails error wanted
