-- Tests: the rows that hold where a test is true, and those where it is false.
use Rattle.std.specs.Prelude.{true, false, None, List, [], ◌∷◌, Ok}
use Rattle.xan_lin.specs.Linear.{Linear}
use Rattle.state_types.specs.Answers.{◌>>=◌}
use Rattle.state_types.specs.declared.types.Ty.{Ty}
use Rattle.operation_rules.specs.Applied.{all_assuming}
use Rattle.operation_rules.specs.Faults.{filled}
use Rattle.operation_rules.specs.Sides.{side}
use Rattle.operation_rules.specs.declared.operation.Operation.{Operation}
use Rattle.operation_rules.specs.declared.operation.Operation.TheVariants.{Branch, BranchTruth}
use Rattle.xanadu_tree.specs.Plain as core
use Rattle.typed_core.specs.Constructs.{state_by}
use Rattle.typed_core.specs.Limits.{Walk, by_rule}
use Rattle.typed_core.specs.Operands.{operand}
use Rattle.typed_core.specs.Operators.{comparison_of, in_order}
use Rattle.typed_core.specs.States.{Site, State, resuming, noting_state}

-- the rows on either side, and the state behind the test, whose own rows do not matter
pub record Sides : Type 0 where
  pub on_true : List Linear
  pub on_false : List Linear
  pub after : State

-- ---- leaves

-- a branch by an operation over these types: it has the rule of the operation, and what holds on either side comes behind that
unfoldable pub branched : Site → Operation → List Ty → State → Walk Sides
branched site op types st = do
  more ← state_by site None op types st
  yes_side ← by_rule (filled (all_assuming (side true op types) more.ctx))
  no_side ← by_rule (filled (all_assuming (side false op types) more.ctx))
  Ok (record { on_true = yes_side.rows; on_false = no_side.rows; after = more })

-- a truth value, of which nothing follows
unfoldable pub truth_leaf : Site → core.Expr → State → Walk Sides
truth_leaf site e st = do
  (t, more) ← operand site e st
  branched site (BranchTruth true) (t ∷ []) more

unfoldable pub leaf : Site → core.Expr → State → Walk Sides
leaf site (core.Compare rel left right) st = do
  (t, one) ← operand site left st
  (u, two) ← operand site right one
  branched site (Branch (comparison_of rel)) (in_order rel t u) two
leaf site e st = truth_leaf site e st

-- ---- tests

-- where a part of a test begins, and where a branch does: on this side
abbrev pub on_side : List Linear → State → State
on_side rows st = resuming rows st.types st

module _ (site : Site) where
  unfoldable mutual
    pub tested : core.Test → State → Walk Sides
    tested (core.Leaf e) st = leaf site e st
    -- each part begins where the one before it is true; where the whole is false, no more is known than before it
    tested (core.All parts) st = do
      last ← all_true parts (record { on_true = st.ctx.rows; on_false = st.ctx.rows; after = st })
      Ok (record { on_true = last.on_true; on_false = st.ctx.rows; after = noting_state st.ctx.rows last.after })
    -- and the reverse
    tested (core.Any parts) st = do
      last ← all_false parts (record { on_true = st.ctx.rows; on_false = st.ctx.rows; after = st })
      Ok (record { on_true = st.ctx.rows; on_false = last.on_false; after = noting_state st.ctx.rows last.after })
    tested (core.Not part) st = do
      sides ← tested part st
      Ok (record { on_true = sides.on_false; on_false = sides.on_true; after = sides.after })

    -- parts behind those that were looked at
    pub all_true : core.Tests → Sides → Walk Sides
    all_true core.NoTest sides = Ok sides
    all_true (core.ATest part others) sides = do
      more ← tested part (on_side sides.on_true sides.after)
      all_true others more

    pub all_false : core.Tests → Sides → Walk Sides
    all_false core.NoTest sides = Ok sides
    all_false (core.ATest part others) sides = do
      more ← tested part (on_side sides.on_false sides.after)
      all_false others more
