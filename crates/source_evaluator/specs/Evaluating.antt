-- What is answered of a run of a source, and what is put of it.
use Rattle.std.specs.Prelude.{◌≡◌, ◌++◌, ◌≤◌, ℕ, ℤ, List, [], ◌∷◌, take, slice_get, Option, None, Some, Result, Ok, Err}
use Rattle.std.specs.Io.KnownBytes.{append_known}
use Rattle.xan_seq.specs.Answers.{◌>>=◌}
use Rattle.xan_io.specs.Entry as fault
use Rattle.xan_io.specs.Entry.{EntryFault}
use Rattle.xan_io.specs.Faults.{Rose}
use Rattle.xan_io.specs.Lines.{number_line}
use Rattle.xan_io.specs.Outcome as how
use Rattle.xan_io.specs.Outcome.{How, Outcome}
use Rattle.xan_io.specs.Written.{AppendsPrefix}
use Rattle.xan_io.specs.declared.arg.Arg.{Arg}
use Rattle.argument_checks.specs.declared.error.ArgumentError.{ArgumentError}
use Rattle.argument_checks.specs.declared.error.ArgumentError.TheVariants as argument
use Rattle.xanadu_tree.specs.Plain as core
use Rattle.typed_core.specs.SourceValues.{Value}
use Rattle.source_values.specs.declared.halt.Halt.{Halt}
use Rattle.source_values.specs.declared.halt.Halt.TheVariants as halt
use Rattle.source_values.specs.Placing.{values_placed}
use Rattle.source_values.specs.Values.{Ending}
use Rattle.source_evaluator.specs.Pending.{R, first_machine}
use Rattle.source_evaluator.specs.Steps.{Machine}
use Rattle.source_evaluator.specs.Work.{Statements}
use Rattle.source_evaluator.specs.declared.end.EvalError.{EvalError}
use Rattle.source_evaluator.specs.declared.end.EvalError.TheVariants as error
use Rattle.source_evaluator.specs.declared.end.SourceEnd.{SourceEnd}
use Rattle.source_evaluator.specs.declared.end.SourceEnd.TheVariants as end

-- a line for each number
abbrev pub number_lines : List ℤ → List ℕ
number_lines [] = []
number_lines (number ∷ numbers) = number_line number ++ number_lines numbers

-- ---- ends

-- how a run stands of which this is answered
abbrev pub how_of : SourceEnd → How
how_of (end.Returned word) = how.Returned word
how_of end.NoStore = how.NoStore
how_of end.Overflow = how.Overflow
how_of end.FuelEnded = how.Running

-- a run that goes no further; where it would be stuck, nothing is answered
abbrev pub answer_of : Halt → Result SourceEnd EvalError
answer_of halt.NoStore = Ok end.NoStore
answer_of halt.Overflow = Ok end.Overflow
answer_of halt.FuelEnded = Ok end.FuelEnded
answer_of halt.Memory = Err error.Memory
answer_of halt.Stuck = Err error.Memory

-- a fault of the arguments is answered as itself
abbrev pub error_of : ArgumentError → EvalError
error_of argument.ArgCount = error.ArgCount
error_of (argument.ArgKind number) = error.ArgKind number
error_of (argument.ArgIndex number) = error.ArgIndex number
error_of (argument.EntryRow row) = error.EntryRow row
error_of argument.Memory = error.Memory

-- ---- where a run begins

-- The run with so many units and an empty store: the arrays of the arguments come first, and then the body of `main` is to do.
abbrev pub begun : core.Fun → List Arg → (heap units : ℕ) → Ending Machine
begun f args heap units =
    values_placed [] args (record { blocks = []; heap = heap }) >>= λ p.
    Ok (first_machine f p.0 (record { units = units; store = p.1; printed = []; log = tt }))

-- the machine has the body of one of the functions to do, and nothing else
pub record BeginsIn (funs : List core.Fun) (m : Machine) : Type 0 where
  pub number : ℕ
  pub fun : core.Fun
  pub there : slice_get funs number ≡ Some fun
  pub work : m.work ≡ Statements fun.body ∷ []

-- ---- what is put of a run

-- what arguments in which this fault was found have printed, of which there is no run, or the run on them
abbrev pub printed_by : Option EntryFault → Outcome → List ℤ
printed_by None run = run.printed
printed_by (Some fault) run = []

module _ (found : Option EntryFault) (run : Outcome) (out out' : Option (List ℕ)) (faults faults' : ℕ) where
  -- the run has come to this end, and a line was put for each number that it printed
  pub record Ended (end : SourceEnd) : Type 0 where
    pub clean : found ≡ None
    pub how : run.how ≡ how_of end
    pub lines : out' ≡ append_known out (number_lines run.printed)
    pub counted : faults' ≡ faults

  -- the arguments have this first fault, and nothing was put
  pub record Faulted (fault : EntryFault) : Type 0 where
    pub is : found ≡ Some fault
    pub unsaid : out' ≡ out
    pub counted : faults' ≡ faults

  -- a part of the lines was put, and the count of faults rose
  pub record BrokeOff : Type 0 where
    pub clean : found ≡ None
    pub part : AppendsPrefix out out' (number_lines run.printed)
    pub rose : Rose faults faults'
    pub never_falls : faults ≤ faults'

  -- memory ran out: whole lines were put, for the numbers that were printed first
  pub record RanShort : Type 0 where
    pub count : ℕ
    pub lines : out' ≡ append_known out (number_lines (take count (printed_by found run)))
    pub counted : faults' ≡ faults

  -- what is answered of arguments in which this fault was found, and of the run on them
  abbrev pub Evaluated : Result SourceEnd EvalError → Type 0
  Evaluated (Ok end) = Ended end
  Evaluated (Err error.ArgCount) = Faulted fault.ArgCount
  Evaluated (Err (error.ArgKind number)) = Faulted (fault.ArgKind number)
  Evaluated (Err (error.ArgIndex number)) = Faulted (fault.ArgIndex number)
  Evaluated (Err (error.EntryRow row)) = Faulted (fault.EntryRow row)
  Evaluated (Err error.WriteFault) = BrokeOff
  Evaluated (Err error.Memory) = RanShort
