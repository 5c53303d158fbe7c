-- Calls and whole runs with two bounds that are both above the units left.
use Rattle.std.proofs.Common.{◌≡◌, ℕ, zero, suc, ℤ, ◌≤◌, ◌<◌, Bool, true, false, List, [], length, nat_lt, ◌==◌, Option, Some, None, arith}
use Rattle.std.specs.Prelude.{slice_get}
use Rattle.xan_io.specs.declared.arg.Arg.{Arg}
use Rattle.operation_rules.specs.Entry.{placed}
use Rattle.xanadu_tree.specs.Plain as core
use Rattle.typed_core.specs.SourceValues.{Value, Blocks, separate}
use Rattle.typed_core.specs.SourceRuns.{Run, Calls, Recorder, Flow, Next, Gives, spent}
use Rattle.typed_core.specs.SourceOperands.{no_cells}
use Rattle.typed_core.specs.SourceStatements.{block}
use Rattle.typed_core.specs.SourceCalls.{env_of, result, body_if, body, begun, called}
use Rattle.typed_core.specs.Meaning.{main_body, started, first_run, placed_in, source_run}
use Rattle.typed_core.proofs.AlikeAnswers.{Alike, CallsAlike, ok_alike, err_alike, alike_then}
use Rattle.typed_core.proofs.AlikeStatements.{paid_alike, block_alike}

module _ {L : Type 0} where
  result_alike : (most : ℕ) (flow : Flow) (st : Run L) → st.units ≤ most → Alike most (result flow st) (result flow st)
  result_alike most (Gives v) st h = ok_alike most _ _ h
  result_alike most (Next env) st h = err_alike most _

  -- the run that begins has no more units
  abbrev HasAtMost : ℕ → Option (List Value × Run L) → Type 0
  HasAtMost most None = Unit {0}
  HasAtMost most (Some p) = p.1.units ≤ most

  placed_at_most : (args : List Arg) (st : Run L) (begun : Option (List ℤ × Blocks)) → HasAtMost st.units (placed_in args st begun)
  placed_at_most args st None = tt
  placed_at_most args st (Some begun) = omega arith

module _ {L : Type 0} (recorder : Recorder L) where
  body_if_alike : (most b b' : ℕ) (fit : Bool) (c d : Calls L) (fun : ℕ) → CallsAlike most c d → most < b → most < b' → (f : core.Fun) (values : List Value) (st : Run L)
      → st.units ≤ most → Alike most (body_if recorder fit c fun b f values st) (body_if recorder fit d fun b' f values st)
  body_if_alike most b b' true c d fun calls low low' f values st h =
      alike_then most (block recorder c fun b [] 0 f.body (env_of f values) st) _ _ _ (block_alike recorder c d fun most b b' calls low low' [] 0 f.body (env_of f values) st h)
      (λ p k. result_alike most p.0 p.1 k)
  body_if_alike most b b' false c d fun calls low low' f values st h = err_alike most _

  pub body_alike : (most b b' : ℕ) (c d : Calls L) (fun : ℕ) → CallsAlike most c d → most < b → most < b' → (f : core.Fun) (values : List Value) (st : Run L)
      → st.units ≤ most → Alike most (body recorder c fun b f values st) (body recorder d fun b' f values st)
  unfolding body
  body_alike most b b' c d fun calls low low' f values st h = body_if_alike most b b' (length values == length f.params) c d fun calls low low' f values st h

module _ {L : Type 0} (recorder : Recorder L) (funs : List core.Fun) (depth : ℕ) where
  begun_alike : (most b b' : ℕ) (room : Bool) (c d : Calls L) (fun : ℕ) → ((m : ℕ) → m < most → CallsAlike m c d) → most < suc b → most < suc b'
      → (f : Option core.Fun) (values : List Value) (st : Run L) → st.units ≤ most
      → Alike most (begun recorder funs depth room c fun b f values st) (begun recorder funs depth room d fun b' f values st)
  unfolding spent
  begun_alike most b b' room c d fun calls low low' None values st h = err_alike most _
  begun_alike most b b' false c d fun calls low low' (Some f) values st h = err_alike most _
  begun_alike most b b' true c d fun calls low low' (Some f) values st h =
      paid_alike most st.units st _ _ h (λ m less lower paid l.
      body_alike recorder m b b' c d fun (calls m lower) (omega (arith, lower, low)) (omega (arith, lower, low')) f values paid l)

  pub called_alike : (b b' live most : ℕ) → most < b → most < b' → CallsAlike most (called recorder funs depth b live) (called recorder funs depth b' live)
  unfolding called
  called_alike zero b' live most low low' = absurd (omega (arith, low))
  called_alike (suc b) zero live most low low' = absurd (omega (arith, low'))
  called_alike (suc b) (suc b') live most low low' = record {
    by = λ m h fun values st k.
        begun_alike m b b' (nat_lt live depth) _ _ fun
        (λ n l. called_alike b b' (suc live) n (omega (arith, l, h, low)) (omega (arith, l, h, low')))
        (omega (arith, h, low)) (omega (arith, h, low')) (slice_get funs fun) values st k;
  }

  main_alike : (most b b' main : ℕ) → most < b → most < b' → (f : Option core.Fun) (values : List Value) (st : Run L) → st.units ≤ most
      → Alike most (main_body recorder funs depth main b f values st) (main_body recorder funs depth main b' f values st)
  main_alike most b b' main low low' None values st h = err_alike most _
  main_alike most b b' main low low' (Some f) values st h = body_alike recorder most b b' _ _ main (called_alike b b' 1 most low low') low low' f values st h

  started_alike : (most b b' main live : ℕ) → most < b → most < b' → (begun : Option (List Value × Run L)) (st : Run L) → HasAtMost most begun
      → Alike most (started recorder funs depth main b live begun st) (started recorder funs depth main b' live begun st)
  started_alike most b b' main zero low low' begun st h = err_alike most _
  started_alike most b b' main (suc live) low low' None st h = err_alike most _
  started_alike most b b' main (suc live) low low' (Some p) st h = main_alike most b b' main low low' (slice_get funs main) p.0 p.1 h

pub runs_alike : (L : Type 0) (recorder : Recorder L) (log : L) (b b' : ℕ) (program : core.Program) (args : List Arg) (heap depth fuel : ℕ) → fuel < b → fuel < b'
    → source_run recorder log b program args heap depth fuel ≡ source_run recorder log b' program args heap depth fuel
runs_alike L recorder log b b' program args heap depth fuel low low' =
    let st = first_run heap fuel log in
    let begun = placed (separate no_cells) args st.store in
    (started_alike recorder program.funs depth fuel b b' program.main depth low low' (placed_in args st begun) st
    (placed_at_most args st begun)).same
