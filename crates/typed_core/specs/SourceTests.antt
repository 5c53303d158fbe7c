-- What tests come to: the parts from left to right, as far as they decide.
use Rattle.std.specs.Prelude.{Bool, true, false, not, [], ◌∷◌, Ok}
use Rattle.xan_seq.specs.Answers.{◌>>=◌}
use Rattle.operation_rules.specs.declared.operation.Operation.TheVariants as operation
use Rattle.xanadu_tree.specs.Plain as core
use Rattle.typed_core.specs.SourceValues.{Truth, Value, have_tags}
use Rattle.typed_core.specs.SourceRuns.{Run, Answer, Env, Calls, stuck, taken}
use Rattle.typed_core.specs.SourceOperands.{acts, no_cells, value}

module _ {L : Type 0} where
  abbrev pub decided_if : (fit : Bool) → Value → Run L → Answer L Bool
  decided_if true v st = taken st (acts no_cells (operation.BranchTruth true) (v ∷ []) st)
  decided_if false v st = stuck st

  -- a leaf is a truth value
  unfoldable pub decided : Value → Run L → Answer L Bool
  decided v st = decided_if (have_tags (v ∷ []) (Truth ∷ [])) v st

  -- where the part was `go_on`, the others decide
  abbrev pub unless : (go_on decided : Bool) → (Run L → Answer L Bool) → Run L → Answer L Bool
  unless true true others st = others st
  unless true false others st = Ok (false, st)
  unless false true others st = Ok (true, st)
  unless false false others st = others st

module _ {L : Type 0} (call : Calls L) (env : Env) where
  unfoldable mutual
    pub holds : core.Test → Run L → Answer L Bool
    holds (core.Leaf e) st = do
      (v, one) ← value call env e st
      decided v one
    holds (core.All parts) st = all_hold parts st
    holds (core.Any parts) st = any_holds parts st
    holds (core.Not part) st = do
      (truth, one) ← holds part st
      Ok (not truth, one)

    pub all_hold : core.Tests → Run L → Answer L Bool
    all_hold core.NoTest st = Ok (true, st)
    all_hold (core.ATest part others) st = do
      (truth, one) ← holds part st
      unless true truth (λ st. all_hold others st) one

    pub any_holds : core.Tests → Run L → Answer L Bool
    any_holds core.NoTest st = Ok (false, st)
    any_holds (core.ATest part others) st = do
      (truth, one) ← holds part st
      unless false truth (λ st. any_holds others st) one
