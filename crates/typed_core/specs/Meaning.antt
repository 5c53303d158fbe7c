-- The meaning of a core: what its run has come to with some units of fuel.
--
-- A unit is taken as a call begins its function, other than the start of `main`, and as a loop's body begins. The run is a recursion on a
-- bound on the depth of calls and on the turns of loops; with one more than there are units the bound is never met.
use Rattle.std.specs.Prelude.{ℕ, zero, suc, ℤ, List, [], map, slice_get, Option, Some, None, Result, Ok, Err}
use Rattle.xan_io.specs.Entry.{EntryFault, unless_faulty}
use Rattle.xan_io.specs.Outcome.{Returned, NoStore, Stuck, Outcome}
use Rattle.xan_io.specs.declared.arg.Arg.{Arg}
use Rattle.xan_io.specs.declared.arg.Arg.TheVariants as arg
use Rattle.xan_lin.specs.Linear.{Linear}
use Rattle.state_types.specs.declared.types.Ty.{Ty}
use Rattle.state_types.specs.declared.types.Ty.TheVariants as ty
use Rattle.operation_rules.specs.Entry.{entry_fault, placed}
use Rattle.xanadu_tree.specs.declared.linear.Linear.{Linear as Exact}
use Rattle.xanadu_tree.specs.declared.types.CoreTy.{CoreTy}
use Rattle.xanadu_tree.specs.declared.types.CoreTy.TheVariants as core_ty
use Rattle.xanadu_tree.specs.Plain as core
use Rattle.typed_core.specs.Forms.{term_of}
use Rattle.typed_core.specs.SourceValues.{Tag, Number, Truth, Array, Value, Blocks, with_tags, separate}
use Rattle.typed_core.specs.SourceRuns.{Run, Answer, Recorder}
use Rattle.typed_core.specs.SourceOperands.{no_cells}
use Rattle.typed_core.specs.SourceCalls.{body, called}

-- ---- entry, over the declared types of `main`

abbrev pub exact_form : Exact → Linear
exact_form form = record { terms = map term_of form.terms; constant = form.constant }

abbrev pub exact_type : CoreTy → Ty
exact_type (core_ty.Int form) = ty.Int (exact_form form)
exact_type core_ty.Bool = ty.Bool
exact_type (core_ty.Array element form) = ty.Array element (exact_form form)
exact_type (core_ty.Named number) = ty.Named number

-- the first fault of the arguments of a function; one that does not exist has none, and its run is stuck
abbrev pub fault_of : Option core.Fun → List Arg → Option EntryFault
fault_of None args = None
fault_of (Some f) args = entry_fault f.quant.count (map exact_form f.quant.rows) (map exact_type f.params) args

abbrev pub source_fault : core.Program → List Arg → Option EntryFault
source_fault program args = fault_of (slice_get program.funs program.main) args

abbrev pub tag_of : Arg → Tag
tag_of (arg.Int n) = Number
tag_of (arg.Bool b) = Truth
tag_of (arg.Array cells) = Array

-- ---- a run

module _ {L : Type 0} (recorder : Recorder L) (funs : List core.Fun) (depth : ℕ) where
  -- the body of `main`, which is the first activation
  abbrev pub main_body : (main bound : ℕ) → Option core.Fun → List Value → Run L → Answer L Value
  main_body main bound None values st = Err (record { how = Stuck; run = st })
  main_body main bound (Some f) values st = body recorder (called recorder funs depth bound 1) main bound f values st

  -- where there may be an activation, and the arguments have room
  abbrev pub started : (main bound live : ℕ) → Option (List Value × Run L) → Run L → Answer L Value
  started main bound zero begun st = Err (record { how = NoStore; run = st })
  started main bound (suc live) None st = Err (record { how = NoStore; run = st })
  started main bound (suc live) (Some begun) st = main_body main bound (slice_get funs main) begun.0 begun.1

abbrev pub first_run : {L : Type 0} → (heap fuel : ℕ) → L → Run L
first_run heap fuel log = record { units = fuel; store = record { blocks = []; heap = heap }; printed = []; log = log }

-- the arguments as values, and the run in whose store their arrays are
abbrev pub placed_in : {L : Type 0} → List Arg → Run L → Option (List ℤ × Blocks) → Option (List Value × Run L)
placed_in args st None = None
placed_in args st (Some begun) = Some (with_tags (map tag_of args) begun.0, record st { store = begun.1 })

-- the run with a log, under a bound
abbrev pub source_run : {L : Type 0} → Recorder L → L → (bound : ℕ) → core.Program → List Arg → (heap depth fuel : ℕ) → Answer L Value
source_run recorder log bound program args heap depth fuel =
    let st = first_run heap fuel log in
    started recorder program.funs depth program.main bound depth (placed_in args st (placed (separate no_cells) args st.store)) st

abbrev pub outcome_of : {L : Type 0} → Answer L Value → Outcome
outcome_of (Ok done) = record { printed = done.1.printed; how = Returned done.0.word }
outcome_of (Err end) = record { printed = end.run.printed; how = end.how }

-- nothing is recorded
abbrev pub no_log : Recorder (Unit {0})
no_log fun place env store log = log

-- the outcome with so many units of fuel, for arguments without a fault
abbrev pub source_outcome : core.Program → List Arg → (heap depth : ℕ) → (fuel : ℕ) → Outcome
source_outcome program args heap depth fuel = outcome_of (source_run no_log tt (suc fuel) program args heap depth fuel)

-- no run begins where an argument has a fault
abbrev pub source_entry : core.Program → List Arg → (heap depth : ℕ) → Result (ℕ → Outcome) EntryFault
source_entry program args heap depth = unless_faulty (source_fault program args) (source_outcome program args heap depth)
