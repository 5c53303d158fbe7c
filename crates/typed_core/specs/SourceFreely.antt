-- The meaning of a core without a bound. Wherever a part of a run begins, the bound is one more than the units of fuel that are left, so that
-- it is never met; what a part does in terms of its own parts then names no bound at all.
use Rattle.std.specs.Prelude.{ℕ, zero, suc, Bool, true, false, List, ◌∷◌, slice_get, nat_lt, Option, Some, None, Err}
use Rattle.xan_io.specs.Outcome.{NoStore, Stuck}
use Rattle.xan_io.specs.declared.arg.Arg.{Arg}
use Rattle.xan_seq.specs.Answers.{◌>>=◌}
use Rattle.operation_rules.specs.Entry.{placed}
use Rattle.xanadu_tree.specs.declared.stmt.Clause.{Clause}
use Rattle.xanadu_tree.specs.Plain as core
use Rattle.typed_core.specs.SourceValues.{Value, separate}
use Rattle.typed_core.specs.SourceRuns.{Run, Answer, Env, Place, Recorder, Calls, Flow, ends, stuck, spent}
use Rattle.typed_core.specs.SourceOperands.{no_cells}
use Rattle.typed_core.specs.SourceTests.{holds}
use Rattle.typed_core.specs.SourceStatements.{reached, behind, one_of_two, turned, statement, block}
use Rattle.typed_core.specs.SourceCalls.{body, called}
use Rattle.typed_core.specs.Meaning.{first_run, placed_in}

module _ {L : Type 0} (recorder : Recorder L) (funs : List core.Fun) (depth : ℕ) where
  -- ---- parts of a run

  -- a call, with so many activations at it
  abbrev pub free_call : (live : ℕ) → Calls L
  free_call live fun values st = called recorder funs depth (suc st.units) live fun values st

  abbrev pub free_statement : (live fun : ℕ) → Place → core.Stmt → Env → Run L → Answer L Flow
  free_statement live fun place s env st = statement recorder (free_call live) fun (suc st.units) place s env st

  abbrev pub free_block : (live fun : ℕ) → Place → (number : ℕ) → core.Stmts → Env → Run L → Answer L Flow
  free_block live fun place number ss env st = block recorder (free_call live) fun (suc st.units) place number ss env st

  abbrev pub free_body : (live fun : ℕ) → core.Fun → List Value → Run L → Answer L Value
  free_body live fun f values st = body recorder (free_call live) fun (suc st.units) f values st

  -- ---- what those that have a bound do

  -- where there may be one activation more, it takes its unit and begins
  abbrev pub freely_begun : (room : Bool) → (live fun : ℕ) → Option core.Fun → List Value → Run L → Answer L Value
  freely_begun room live fun None values st = stuck st
  freely_begun false live fun (Some f) values st = ends NoStore st
  freely_begun true live fun (Some f) values st = do
    (paid, one) ← spent st
    free_body (suc live) fun f values one

  abbrev pub freely_called : (live fun : ℕ) → List Value → Run L → Answer L Value
  freely_called live fun values st = freely_begun (nat_lt live depth) live fun (slice_get funs fun) values st

  -- a statement, and then those behind it
  abbrev pub freely_behind : (live fun : ℕ) → Place → (number : ℕ) → core.Stmt → core.Stmts → Env → Run L → Answer L Flow
  freely_behind live fun place number s ss env st = do
    (flow, one) ← free_statement live fun (number ∷ place) s env (reached recorder fun (number ∷ place) env st)
    behind flow (λ env st. free_block live fun place (suc number) ss env st) one

  abbrev pub freely_branched : (live fun : ℕ) → Place → core.Test → (on_true on_false : core.Stmts) → Env → Run L → Answer L Flow
  freely_branched live fun place test on_true on_false env st = do
    (truth, one) ← holds (free_call live) env test st
    one_of_two truth (λ st. free_block live fun (0 ∷ place) 0 on_true env st) (λ st. free_block live fun (1 ∷ place) 0 on_false env st) one

  -- one turn of a loop, and then the loop again
  abbrev pub freely_turned : (live fun : ℕ) → Place → core.Test → Option Clause → core.Stmts → (at : ℕ) → Env → Run L → Answer L Flow
  freely_turned live fun place test head inner at env st = do
    (truth, one) ← holds (free_call live) env test st
    turned truth (λ env st. free_block live fun (0 ∷ place) 0 inner env st) (λ env st. free_statement live fun place (core.While test head inner at) env st) env one

  -- ---- a run

  abbrev pub freely_main : (main : ℕ) → Option core.Fun → List Value → Run L → Answer L Value
  freely_main main None values st = Err (record { how = Stuck; run = st })
  freely_main main (Some f) values st = free_body 1 main f values st

  abbrev pub freely_started : (main live : ℕ) → Option (List Value × Run L) → Run L → Answer L Value
  freely_started main zero begun st = Err (record { how = NoStore; run = st })
  freely_started main (suc live) None st = Err (record { how = NoStore; run = st })
  freely_started main (suc live) (Some begun) st = freely_main main (slice_get funs main) begun.0 begun.1

abbrev pub freely_run : {L : Type 0} → Recorder L → L → core.Program → List Arg → (heap depth fuel : ℕ) → Answer L Value
freely_run recorder log program args heap depth fuel =
    let st = first_run heap fuel log in
    freely_started recorder program.funs depth program.main depth (placed_in args st (placed (separate no_cells) args st.store)) st
