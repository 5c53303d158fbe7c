-- What a call does: activations are counted, a unit of fuel is taken, and the function's body gives the result.
use Rattle.std.specs.Prelude.{ℕ, zero, suc, ◌-◌, Bool, true, false, List, [], ◌++◌, map, replicate, length, slice_get, nat_lt, Option, Some, None, Ok, ◌==◌}
use Rattle.xan_io.specs.Outcome.{NoStore, Running}
use Rattle.xan_seq.specs.Answers.{◌>>=◌}
use Rattle.xanadu_tree.specs.Plain as core
use Rattle.typed_core.specs.SourceValues.{Value}
use Rattle.typed_core.specs.SourceRuns.{Run, Answer, Env, Recorder, Calls, Flow, Next, Gives, ends, stuck, spent}
use Rattle.typed_core.specs.SourceStatements.{block}

-- The parameters are the first variables; the others have no value yet.
abbrev pub env_of : core.Fun → List Value → Env
env_of f values = map Some values ++ replicate (length f.kinds - length values) None

module _ {L : Type 0} where
  -- a function whose body completes has no result
  abbrev pub result : Flow → Run L → Answer L Value
  result (Gives v) st = Ok (v, st)
  result (Next env) st = stuck st

module _ {L : Type 0} (recorder : Recorder L) where
  abbrev pub body_if : (fit : Bool) → Calls L → (fun bound : ℕ) → core.Fun → List Value → Run L → Answer L Value
  body_if true call fun bound f values st = do
    (flow, one) ← block recorder call fun bound [] 0 f.body (env_of f values) st
    result flow one
  body_if false call fun bound f values st = stuck st

  -- the body of a function, with as many values as it has parameters
  unfoldable pub body : Calls L → (fun bound : ℕ) → core.Fun → List Value → Run L → Answer L Value
  body call fun bound f values st = body_if (length values == length f.params) call fun bound f values st

module _ {L : Type 0} (recorder : Recorder L) (funs : List core.Fun) (depth : ℕ) where
  -- where there may be one activation more, it takes its unit and begins
  abbrev pub begun : (room : Bool) → Calls L → (fun bound : ℕ) → Option core.Fun → List Value → Run L → Answer L Value
  begun room call fun bound None values st = stuck st
  begun false call fun bound (Some f) values st = ends NoStore st
  begun true call fun bound (Some f) values st = do
    (paid, one) ← spent st
    body recorder call fun bound f values one

  -- With so many activations at the call. The bound is on calls within calls, and on the turns of loops within them.
  unfoldable pub called : (bound live : ℕ) → Calls L
  called zero live fun values st = ends Running st
  called (suc bound) live fun values st =
      begun (nat_lt live depth) (called bound (suc live)) fun bound (slice_get funs fun) values st
