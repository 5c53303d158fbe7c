-- Which variables are named by the rows that a rule takes to hold, and by the types that it gives.
use Rattle.std.specs.Prelude.{ℕ, Option, Some, None, Result, Ok, Err}
use Rattle.xan_lin.specs.Linear.{Linear, NamesBelow}
use Rattle.xan_lin.specs.declared.term.TooLarge.{TooLarge}
use Rattle.state_types.specs.Types.{TypeBelow}
use Rattle.state_types.specs.declared.types.Ty.{Ty}

-- a row, where there is one, names only variables less than `vars`
abbrev pub IsNamed : ℕ → Result Linear TooLarge → Type 0
IsNamed vars (Ok row) = NamesBelow vars row
IsNamed vars (Err why) = Unit {0}

-- so does the type of a place, where it has one
abbrev pub PlaceBelow : ℕ → Option Ty → Type 0
PlaceBelow vars (Some t) = TypeBelow vars t
PlaceBelow vars None = Unit {0}

-- so does a type that is given, where it is within the bounds
abbrev pub IsTypeNamed : ℕ → Result Ty TooLarge → Type 0
IsTypeNamed vars (Ok t) = TypeBelow vars t
IsTypeNamed vars (Err why) = Unit {0}
