-- Where the goals and notes of a statement stand among those of the block in which it is reached, and those of a function among all.
use Rattle.std.specs.Prelude.{◌≡◌, ◌≤◌, ℕ, List, [], slice_get, Some, Ok}
use Rattle.state_types.specs.declared.closed.Signature.{Signature}
use Rattle.xanadu_tree.specs.Plain as core
use Rattle.typed_core.specs.declared.goal.GoalAt.{GoalAt}
use Rattle.typed_core.specs.declared.note.Note.{Note}
use Rattle.typed_core.specs.Goals.{Elaboration, body_start}
use Rattle.typed_core.specs.Growth.{Continues, Later}
use Rattle.typed_core.specs.Headers.{table_of, signatures}
use Rattle.typed_core.specs.Places.{places_of}
use Rattle.typed_core.specs.States.{Site, State}
use Rattle.typed_core.specs.Statements.{statement, block}

-- The statement is elaborated from the state in front of it. What it makes stands behind what was there before the block, and in front of all that
-- comes later in the block.
pub record IsSegment (site : Site) (reached : core.Stmt) (begin there end : State) : Type 0 where
  pub behind : State
  pub is : statement site reached there ≡ Ok behind
  pub before : Later begin there
  pub later : Later behind end

-- A function of a program with what elaboration makes of it: its body is elaborated from where it begins, behind the goals and notes of the
-- functions before it, and what it makes stands in front of all that later functions make.
pub record IsFunctionSegment (program : core.Program) (made : Elaboration) (fun : ℕ) (f : core.Fun) : Type 0 where
  pub own : Signature
  pub goals : List GoalAt
  pub notes : List Note
  pub start : State
  pub end : State
  pub types : table_of program.types ≡ Ok made.table
  pub headers : signatures program.funs [] ≡ Ok made.sigs
  pub signature : slice_get made.sigs fun ≡ Some own
  pub places : places_of f ≤ 240
  pub begins : body_start own goals notes ≡ Ok start
  pub body : block (record { table = made.table; sigs = made.sigs; fun = fun; own = own }) f.body start ≡ Ok end
  pub later_goals : Continues end.goals made.goals
  pub later_notes : Continues end.notes made.notes
