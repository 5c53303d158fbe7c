-- Which state is elaborated in front of a statement: what a law on runs that reach the statement speaks of.
use Rattle.std.specs.Prelude.{◌≡◌, ◌⊎◌, ℕ, List, [], slice_get, Some, Ok}
use Rattle.state_types.specs.declared.closed.Packed.{Packed}
use Rattle.state_types.specs.declared.closed.Signature.{Signature}
use Rattle.xanadu_tree.specs.Plain as core
use Rattle.typed_core.specs.declared.goal.GoalAt.{GoalAt}
use Rattle.typed_core.specs.declared.note.Note.{Note}
use Rattle.typed_core.specs.Goals.{body_start}
use Rattle.typed_core.specs.Headers.{table_of, signatures}
use Rattle.typed_core.specs.Joins.{Joint, changes_any, stated, joined, entered}
use Rattle.typed_core.specs.States.{Site, State, point}
use Rattle.typed_core.specs.Statements.{statement, block, other_branch}
use Rattle.typed_core.specs.Tests.{Sides, tested, on_side}

unfoldable mutual
  -- the statement stands in the block, or within one of its statements, and this state is elaborated in front of it
  pub StandsIn : Site → core.Stmts → State → (reached : core.Stmt) → (there : State) → Type 0
  StandsIn site core.NoStmt st reached there = ⊥
  StandsIn site (core.AStmt s ss) st reached there =
      ((reached ≡ s) × (there ≡ st))
      ⊎ (StandsWithin site s st reached there
      ⊎ ((more : State) × (statement site s st ≡ Ok more) × StandsIn site ss more reached there))

  pub StandsWithin : Site → core.Stmt → State → (reached : core.Stmt) → (there : State) → Type 0
  StandsWithin site (core.Set x e) st reached there = ⊥
  StandsWithin site (core.Split xs e at) st reached there = ⊥
  StandsWithin site (core.Store array index e at) st reached there = ⊥
  StandsWithin site (core.Do call) st reached there = ⊥
  StandsWithin site (core.Print e) st reached there = ⊥
  StandsWithin site (core.If test on_true on_false join at) st reached there =
      (sides : Sides) × (tested site test st ≡ Ok sides)
      × (StandsIn site on_true (on_side sides.on_true sides.after) reached there
      ⊎ ((one : State) × (block site on_true (on_side sides.on_true sides.after) ≡ Ok one)
      × StandsIn site on_false (other_branch sides.on_false st one) reached there))
  StandsWithin site (core.While test head body at) st reached there =
      (joint : Joint) × (start : State) × (begun : State) × (sides : Sides)
      × (joined site (stated head) (changes_any body) (point st) st ≡ Ok (joint, start)) × (entered site at joint (point st) start ≡ Ok begun)
      × (tested site test begun ≡ Ok sides) × StandsIn site body (on_side sides.on_true sides.after) reached there
  StandsWithin site (core.Return value at) st reached there = ⊥

-- the same of a function of a program, whatever goals and notes come before it
pub record IsBefore (program : core.Program) (fun : ℕ) (reached : core.Stmt) (there : State) : Type 0 where
  pub table : List Packed
  pub sigs : List Signature
  pub f : core.Fun
  pub own : Signature
  pub goals : List GoalAt
  pub notes : List Note
  pub start : State
  pub types : table_of program.types ≡ Ok table
  pub headers : signatures program.funs [] ≡ Ok sigs
  pub function : slice_get program.funs fun ≡ Some f
  pub signature : slice_get sigs fun ≡ Some own
  pub begins : body_start own goals notes ≡ Ok start
  pub stands : StandsIn (record { table = table; sigs = sigs; fun = fun; own = own }) f.body start reached there
