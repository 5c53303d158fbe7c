-- With one more than the units that are left as a bound, no bound is met.
use Rattle.std.proofs.Common.{◌≡◌, ℕ, zero, suc, ℤ, ◌≤◌, ◌<◌, Bool, true, false, List, ◌∷◌, nat_lt, Option, Some, None, refl, arith}
use Rattle.std.specs.Prelude.{slice_get}
use Rattle.xan_io.specs.declared.arg.Arg.{Arg}
use Rattle.operation_rules.specs.Entry.{placed}
use Rattle.xanadu_tree.specs.declared.stmt.Clause.{Clause}
use Rattle.xanadu_tree.specs.Plain as core
use Rattle.typed_core.specs.SourceValues.{Value, Blocks, separate}
use Rattle.typed_core.specs.SourceRuns.{Run, Answer, Env, Place, Recorder, Flow, spent}
use Rattle.typed_core.specs.SourceOperands.{no_cells}
use Rattle.typed_core.specs.SourceTests.{holds}
use Rattle.typed_core.specs.SourceStatements.{reached, turned, turns, statement, block}
use Rattle.typed_core.specs.SourceCalls.{begun, called}
use Rattle.typed_core.specs.Meaning.{main_body, started, first_run, placed_in, source_run}
use Rattle.typed_core.specs.SourceFreely.{free_call, free_statement, free_block, freely_begun, freely_called, freely_behind, freely_branched, freely_turned, freely_main, freely_started, freely_run}
use Rattle.typed_core.proofs.AlikeAnswers.{Alike, CallsAlike, ok_alike, looser, alike_then}
use Rattle.typed_core.proofs.AlikeOperands.{holds_alike}
use Rattle.typed_core.proofs.AlikeStatements.{behind_alike, two_alike, paid_alike, turns_alike, statement_alike, block_alike}
use Rattle.typed_core.proofs.AlikeCalls.{body_alike, called_alike}

module _ {L : Type 0} (recorder : Recorder L) (funs : List core.Fun) (depth : ℕ) where
  -- calls under a bound that is greater than the units are free ones
  free_alike : (b live most : ℕ) → most < b → CallsAlike most (called recorder funs depth b live) (free_call recorder funs depth live)
  free_alike b live most low = record {
    by = λ m h fun values st k.
        looser m st.units (called recorder funs depth b live fun values st) (free_call recorder funs depth live fun values st) k
        ((called_alike recorder funs depth b (suc st.units) live st.units (omega (arith, low, h, k)) (omega arith)).by st.units (omega arith) fun values st (omega arith));
  }

  same_calls : (live most : ℕ) → CallsAlike most (free_call recorder funs depth live) (free_call recorder funs depth live)
  same_calls live most = record {
    by = λ m h fun values st k.
        looser m st.units (free_call recorder funs depth live fun values st) (free_call recorder funs depth live fun values st) k
        ((called_alike recorder funs depth (suc st.units) (suc st.units) live st.units (omega arith) (omega arith)).by st.units (omega arith) fun values st (omega arith));
  }

  -- ---- calls

  begun_free : (room : Bool) (live fun : ℕ) (f : Option core.Fun) (values : List Value) (st : Run L)
      → begun recorder funs depth room (called recorder funs depth st.units (suc live)) fun st.units f values st ≡ freely_begun recorder funs depth room live fun f values st
  unfolding spent
  begun_free room live fun None values st = refl
  begun_free false live fun (Some f) values st = refl
  begun_free true live fun (Some f) values st =
      (paid_alike st.units st.units st _ _ (omega arith) (λ less lower low paid k.
      looser less paid.units _ _ k
      (body_alike recorder paid.units st.units (suc paid.units) (called recorder funs depth st.units (suc live)) (free_call recorder funs depth (suc live)) fun
      (free_alike st.units (suc live) paid.units (omega (arith, k, lower))) (omega (arith, k, lower)) (omega arith) f values paid (omega arith)))).same

  pub call_free : (live fun : ℕ) (values : List Value) (st : Run L) → free_call recorder funs depth live fun values st ≡ freely_called recorder funs depth live fun values st
  unfolding called
  call_free live fun values st = begun_free (nat_lt live depth) live fun (slice_get funs fun) values st

  -- ---- statements

  block_free : (live fun bound : ℕ) (place : Place) (number : ℕ) (ss : core.Stmts) (env : Env) (most : ℕ) (st : Run L) → st.units ≤ most → st.units < bound
      → Alike most (block recorder (free_call recorder funs depth live) fun bound place number ss env st) (free_block recorder funs depth live fun place number ss env st)
  block_free live fun bound place number ss env most st h low =
      looser most st.units _ _ h
      (block_alike recorder (free_call recorder funs depth live) (free_call recorder funs depth live) fun st.units bound (suc st.units) (same_calls live st.units) low (omega arith) place number ss env st (omega arith))

  pub behind_free : (live fun : ℕ) (place : Place) (number : ℕ) (s : core.Stmt) (ss : core.Stmts) (env : Env) (st : Run L)
      → free_block recorder funs depth live fun place number (core.AStmt s ss) env st ≡ freely_behind recorder funs depth live fun place number s ss env st
  unfolding block
  behind_free live fun place number s ss env st =
      let call = free_call recorder funs depth live in
      let here = reached recorder fun (number ∷ place) env st in
      (alike_then st.units (statement recorder call fun (suc st.units) (number ∷ place) s env here) _ _ _
      (statement_alike recorder call call fun st.units (suc st.units) (suc st.units) (same_calls live st.units) (omega arith) (omega arith) (number ∷ place) s env here (omega arith))
      (λ p k. behind_alike st.units p.0 _ _ p.1 k (λ more. block_free live fun (suc st.units) place (suc number) ss more st.units p.1 k (omega (arith, k))))).same

  pub branch_free : (live fun : ℕ) (place : Place) (test : core.Test) (on_true on_false : core.Stmts) (join : Option Clause) (at : ℕ) (env : Env) (st : Run L)
      → free_statement recorder funs depth live fun place (core.If test on_true on_false join at) env st ≡ freely_branched recorder funs depth live fun place test on_true on_false env st
  unfolding statement
  branch_free live fun place test on_true on_false join at env st =
      let call = free_call recorder funs depth live in
      (alike_then st.units (holds call env test st) (holds call env test st) _ _ (holds_alike st.units call call (same_calls live st.units) env test st (omega arith))
      (λ p k. two_alike st.units p.0 _ _ _ _ p.1 (block_free live fun (suc st.units) (0 ∷ place) 0 on_true env st.units p.1 k (omega (arith, k)))
      (block_free live fun (suc st.units) (1 ∷ place) 0 on_false env st.units p.1 k (omega (arith, k))))).same

  -- a turn that is paid, and the loop again
  turned_free : (live fun most : ℕ) (place : Place) (test : core.Test) (head : Option Clause) (inner : core.Stmts) (at : ℕ) (truth : Bool) (env : Env) (st : Run L) → st.units ≤ most
      → (let call = free_call recorder funs depth live in
      let tests : Env → Run L → Answer L Bool = λ env st. holds call env test st in
      let bodies : ℕ → Env → Run L → Answer L Flow = λ bound env st. block recorder call fun bound (0 ∷ place) 0 inner env st in
      Alike most (turned truth (bodies most) (turns tests bodies most) env st)
      (turned truth (λ env st. free_block recorder funs depth live fun (0 ∷ place) 0 inner env st)
      (λ env st. free_statement recorder funs depth live fun place (core.While test head inner at) env st) env st))
  unfolding spent statement
  turned_free live fun most place test head inner at false env st h = ok_alike most _ _ h
  turned_free live fun most place test head inner at true env st h =
      let call = free_call recorder funs depth live in
      paid_alike most st.units st _ _ h (λ less lower low paid k.
      alike_then less (block recorder call fun most (0 ∷ place) 0 inner env paid) (free_block recorder funs depth live fun (0 ∷ place) 0 inner env paid) _ _
      (block_free live fun most (0 ∷ place) 0 inner env less paid k (omega (arith, k, low)))
      (λ p l. behind_alike less p.0 _ _ p.1 l (λ more. looser less p.1.units _ _ l
      (turns_alike p.1.units _ _ _ _
      (record { by = λ m u env st v. holds_alike m call call (same_calls live m) env test st v })
      (record { by = λ m b c u s t env st v. block_alike recorder call call fun m b c (same_calls live m) s t (0 ∷ place) 0 inner env st v })
      most (suc p.1.units) p.1.units (omega arith) (omega (arith, l, low)) (omega arith) more p.1 (omega arith)))))

  pub turn_free : (live fun : ℕ) (place : Place) (test : core.Test) (head : Option Clause) (inner : core.Stmts) (at : ℕ) (env : Env) (st : Run L)
      → free_statement recorder funs depth live fun place (core.While test head inner at) env st ≡ freely_turned recorder funs depth live fun place test head inner at env st
  unfolding statement turns
  turn_free live fun place test head inner at env st =
      let call = free_call recorder funs depth live in
      (alike_then st.units (holds call env test st) (holds call env test st) _ _ (holds_alike st.units call call (same_calls live st.units) env test st (omega arith))
      (λ p k. turned_free live fun st.units place test head inner at p.0 env p.1 k)).same

  -- ---- runs

  main_free : (main bound : ℕ) (f : Option core.Fun) (values : List Value) (st : Run L) → st.units < bound
      → main_body recorder funs depth main bound f values st ≡ freely_main recorder funs depth main f values st
  main_free main bound None values st low = refl
  main_free main bound (Some f) values st low =
      (body_alike recorder st.units bound (suc st.units) (called recorder funs depth bound 1) (free_call recorder funs depth 1) main (free_alike bound 1 st.units low) low (omega arith) f values st
      (omega arith)).same

  started_free : (main bound live : ℕ) (args : List Arg) (placing : Option (List ℤ × Blocks)) (st : Run L) → st.units < bound
      → started recorder funs depth main bound live (placed_in args st placing) st ≡ freely_started recorder funs depth main live (placed_in args st placing) st
  started_free main bound zero args placing st low = refl
  started_free main bound (suc live) args None st low = refl
  started_free main bound (suc live) args (Some p) st low = main_free main bound (slice_get funs main) _ _ low

pub run_free : (L : Type 0) (recorder : Recorder L) (log : L) (bound : ℕ) (program : core.Program) (args : List Arg) (heap depth fuel : ℕ) → fuel < bound
    → source_run recorder log bound program args heap depth fuel ≡ freely_run recorder log program args heap depth fuel
run_free L recorder log bound program args heap depth fuel low =
    let st = first_run heap fuel log in
    started_free recorder program.funs depth program.main bound depth args (placed (separate no_cells) args st.store) st low
