-- What is asked of the signature of a function that is run, and what is answered of the arguments.
use Rattle.std.specs.Prelude.{◌≡◌, ◌<◌, ◌^◌, All, Option, None, Some, Result, Ok, Err, length}
use Rattle.xan_io.specs.Entry as fault
use Rattle.xan_io.specs.Entry.{EntryFault}
use Rattle.xan_lin.specs.Linear.{NamesBelow}
use Rattle.state_types.specs.Types.{TypeBelow}
use Rattle.state_types.specs.declared.closed.Signature.{Signature}
use Rattle.argument_checks.specs.declared.error.ArgumentError.{ArgumentError}
use Rattle.argument_checks.specs.declared.error.ArgumentError.TheVariants.{ArgCount, ArgKind, ArgIndex, EntryRow, Memory}

-- its parameters and rows name its own variables alone, and are so few that they can be numbered
pub record IsRunSignature (sig : Signature) : Type 0 where
  pub few : length sig.params < 2 ^ 31
  pub few_rows : length sig.rows < 2 ^ 31
  pub params : All (TypeBelow sig.vars) sig.params
  pub rows : All (NamesBelow sig.vars) sig.rows

-- nothing is answered where there is no fault, and else the fault, or memory ran out
abbrev pub HasNoFault : Option EntryFault → Result (Unit {0}) ArgumentError → Type 0
HasNoFault found (Ok done) = found ≡ None
HasNoFault found (Err ArgCount) = found ≡ Some fault.ArgCount
HasNoFault found (Err (ArgKind argument)) = found ≡ Some (fault.ArgKind argument)
HasNoFault found (Err (ArgIndex argument)) = found ≡ Some (fault.ArgIndex argument)
HasNoFault found (Err (EntryRow row)) = found ≡ Some (fault.EntryRow row)
HasNoFault found (Err Memory) = Unit {0}
