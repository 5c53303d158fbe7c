-- What is answered when a machine is loaded: a machine at the first state, or the first fault.
use Rattle.std.specs.Prelude.{◌≡◌, ℕ, ◌≤◌, List, Option, None, Some, Result, Ok, Err, length}
use Rattle.xan_io.specs.declared.arg.Arg.{Arg}
use Rattle.xan_io.specs.Entry as fault
use Rattle.xan_io.specs.Outcome.{Outcome}
use Rattle.state_types.specs.declared.closed.Signature.{Signature}
use Rattle.argument_checks.specs.Checking.{IsRunSignature}
use Rattle.dtal_code.specs.declared.limits.TheConstants.{MOST_LISTED}
use Rattle.dtal_code.specs.declared.object.Object.{Object}
use Rattle.dtal_code.specs.declared.program.Function.{Function}
use Rattle.dtal_code.specs.declared.program.DtalProgram.{DtalProgram}
use Rattle.dtal_code.specs.Acceptance.{Accepted}
use Rattle.dtal_code.specs.Declarations.{main_of}
use Rattle.dtal_code.specs.Machine.{State}
use Rattle.dtal_code.specs.ObjectCode.{Code, code_of}
use Rattle.dtal_code.specs.ObjectWords.{IsObject}
use Rattle.dtal_code.specs.Runs.{program_entry, outcome_from}
use Rattle.dtal_machine.specs.declared.loading.LoadError.{LoadError}
use Rattle.dtal_machine.specs.declared.loading.LoadError.TheVariants.{ArgCount, ArgKind, ArgIndex, EntryRow, NoStore, Memory}
use Rattle.dtal_machine.specs.Steps.{Loaded, Live}

-- the program is accepted, this is its object, and its function `main` has this signature
pub record IsProgramOf (object : Object) (sig : Signature) (program : DtalProgram) : Type 0 where
  pub accepted : Accepted program
  pub object_is : IsObject program object
  pub number : ℕ
  pub fun : Function
  pub is_main : main_of program.funs ≡ Some (number, fun)
  pub sig_is : fun.sig ≡ sig

-- there is one
pub record HasProgram (object : Object) (sig : Signature) : Type 0 where
  pub program : DtalProgram
  pub is : IsProgramOf object sig program

-- what is asked of a signature: that arguments can be looked at by it, and few parameters
pub record IsEntrySignature (sig : Signature) : Type 0 where
  pub few : length sig.params ≤ MOST_LISTED
  pub can_check : IsRunSignature sig

-- ---- answers

-- a fault of the arguments comes first, and each is answered as itself
abbrev pub fault_error : fault.EntryFault → LoadError
fault_error fault.ArgCount = ArgCount
fault_error (fault.ArgKind argument) = ArgKind argument
fault_error (fault.ArgIndex argument) = ArgIndex argument
fault_error (fault.EntryRow row) = EntryRow row

-- nothing is answered where there is no fault, and else the fault, or memory ran out
abbrev pub HasNoFault : Option fault.EntryFault → Result (Unit {0}) LoadError → Type 0
HasNoFault found (Ok done) = found ≡ None
HasNoFault found (Err ArgCount) = found ≡ Some fault.ArgCount
HasNoFault found (Err (ArgKind argument)) = found ≡ Some (fault.ArgKind argument)
HasNoFault found (Err (ArgIndex argument)) = found ≡ Some (fault.ArgIndex argument)
HasNoFault found (Err (EntryRow row)) = found ≡ Some (fault.EntryRow row)
HasNoFault found (Err NoStore) = ⊥
HasNoFault found (Err Memory) = Unit {0}

-- the fault, or that no activation may be, or the arguments have no room, or the machine at the first state
abbrev pub begins : Code → Result (Option State) fault.EntryFault → Result Loaded LoadError
begins code (Ok (Some state)) = Ok (record { code = code; now = Live state })
begins code (Ok None) = Err NoStore
begins code (Err fault) = Err (fault_error fault)

abbrev pub loaded : DtalProgram → List Arg → (heap depth : ℕ) → Result Loaded LoadError
loaded program args heap depth = begins (code_of program) (program_entry program args heap depth)

-- this is the answer, or memory ran out
abbrev pub Loads : Result Loaded LoadError → Result Loaded LoadError → Type 0
Loads wanted (Ok machine) = wanted ≡ Ok machine
Loads wanted (Err ArgCount) = wanted ≡ Err ArgCount
Loads wanted (Err (ArgKind argument)) = wanted ≡ Err (ArgKind argument)
Loads wanted (Err (ArgIndex argument)) = wanted ≡ Err (ArgIndex argument)
Loads wanted (Err (EntryRow row)) = wanted ≡ Err (EntryRow row)
Loads wanted (Err NoStore) = wanted ≡ Err NoStore
Loads wanted (Err Memory) = Unit {0}

-- ---- runs

-- the arguments have no fault, and this is the outcome of the program's run on them after so many steps
pub record IsRunOf (program : DtalProgram) (args : List Arg) (heap depth steps : ℕ) (outcome : Outcome) : Type 0 where
  pub entry : Option State
  pub begins : program_entry program args heap depth ≡ Ok entry
  pub is : outcome_from (code_of program) entry steps ≡ outcome
