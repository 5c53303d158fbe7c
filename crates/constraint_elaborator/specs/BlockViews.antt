-- The parts of an `if` and of a `while` between their blocks.
use Rattle.std.specs.Prelude.{ℕ, ◌||◌, List, Option, Ok}
use Rattle.state_types.specs.Answers.{◌>>=◌}
use Rattle.state_types.specs.declared.state.StateType.{StateType}
use Rattle.state_types.specs.declared.types.Ty.{Ty}
use Rattle.typed_core.specs.Joins.{Joint, changes_any, entered, entered_if, joined, stated, still_visible}
use Rattle.typed_core.specs.Limits.{Walk}
use Rattle.typed_core.specs.States.{Site, State, noting_state, point, resuming}
use Rattle.typed_core.specs.Statements.{Branches, after_branches, block}
use Rattle.typed_core.specs.Tests.{on_side, tested}
use Rattle.xan_lin.specs.Linear.{Linear}
use Rattle.xanadu_tree.specs.BodyRules.{completes_all}
use Rattle.xanadu_tree.specs.Plain as core
use Rattle.xanadu_tree.specs.declared.stmt.Clause.{Clause}
use Rattle.constraint_elaborator.specs.declared.blocks.Ends as code_ends
use Rattle.constraint_elaborator.specs.declared.blocks.Turns as code_turns
use Rattle.join_elaborator.specs.JoinViews.{joint_of}

-- ---- if

-- the rows where the test is false, and where the first branch begins
unfoldable pub begun_if : Site → core.Test → State → Walk (List Linear × State)
begun_if site test st = do
  sides ← tested site test st
  Ok (sides.on_false, on_side sides.on_true sides.after)

-- where the second branch begins
abbrev pub begun_other : (rows : List Linear) → (types : List (ℕ × Ty)) → State → State
begun_other rows types st = let more = resuming rows types st in noting_state rows more

-- what the branches end with, the second here
abbrev pub ends_of : code_ends.Ends → State → Branches
ends_of ends st = record { one = ends.one; two = point st; one_completes = ends.one_completes; two_completes = ends.two_completes }

-- behind both
abbrev pub left : (on_true on_false : core.Stmts) → Option Clause → Site → (at : ℕ) → (before one : StateType) → (two : State) → Walk State
left on_true on_false join site at before one two =
    after_branches (completes_all on_true) (completes_all on_false) join site at (λ x. changes_any on_true x || changes_any on_false x) before one two

-- the test and the first branch, with its end, and where the second begins
unfoldable pub first_branch : Site → core.Test → (on_true : core.Stmts) → State → Walk (StateType × State)
first_branch site test on_true st = do
  (rows, start) ← begun_if site test st
  one ← block site on_true start
  Ok (point one, begun_other rows st.types one)

-- the second branch, and what follows both
unfoldable pub second_branch : (on_true on_false : core.Stmts) → Option Clause → Site → (at : ℕ) → (before one : StateType) → State → Walk State
second_branch on_true on_false join site at before one st = do
  two ← block site on_false st
  left on_true on_false join site at before one two

-- a branch's end goes on
abbrev pub gone_on : (before : List (ℕ × Ty)) → (end : StateType) → State → State
gone_on before end st = let more = resuming end.ctx.rows (still_visible before end.places) st in noting_state more.ctx.rows more

-- ---- while

-- what a way in has to give, the types where a turn begins, and the state there
pub record Turning : Type 0 where
  pub joint : Joint
  pub types : List (ℕ × Ty)
  pub state : State

abbrev pub turns_of : code_turns.Turns → State → Turning
turns_of turns st = record { joint = joint_of turns.joint; types = turns.types; state = st }

unfoldable pub begun_turns : (body : core.Stmts) → Site → (at : ℕ) → (head : Option Clause) → State → Walk Turning
begun_turns body site at head st = do
  (joint, start) ← joined site (stated head) (changes_any body) (point st) st
  begun ← entered site at joint (point st) start
  Ok (record { joint = joint; types = start.types; state = begun })

-- behind the loop
abbrev pub ended_turns : (body : core.Stmts) → Site → (at : ℕ) → Joint → (types : List (ℕ × Ty)) → (rows : List Linear) → State → Walk State
ended_turns body site at joint types rows st = do
  back ← entered_if (completes_all body) site at joint (point st) st
  Ok (noting_state rows (resuming rows types back))

-- a loop's body, and what follows it
unfoldable pub turn_body : (body : core.Stmts) → Site → (at : ℕ) → Joint → (types : List (ℕ × Ty)) → (rows : List Linear) → State → Walk State
turn_body body site at joint types rows st = do
  more ← block site body st
  ended_turns body site at joint types rows more

-- its test, its body, and what follows
unfoldable pub turn : (body : core.Stmts) → core.Test → Site → (at : ℕ) → Joint → (types : List (ℕ × Ty)) → State → Walk State
turn body test site at joint types st = do
  sides ← tested site test st
  turn_body body site at joint types sides.on_false (on_side sides.on_true sides.after)
