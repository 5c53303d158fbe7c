-- What is kept of an elaborated and of a proved program.
use Rattle.std.specs.Prelude.{◌≡◌, List, Ok}
use Rattle.std.specs.List.{AllZip}
use Rattle.proof_lines.specs.Lines.{LinesProve}
use Rattle.proof_lines.specs.declared.line.Line.{Line}
use Rattle.state_types.specs.declared.closed.Packed.{Packed}
use Rattle.state_types.specs.declared.closed.Signature.{Signature}
use Rattle.xanadu_tree.specs.PlainOf.{CoreParts, plain_core}
use Rattle.typed_core.specs.declared.goal.GoalAt.{GoalAt}
use Rattle.typed_core.specs.declared.note.Note.{Note}
use Rattle.typed_core.specs.Goals.{Elaboration, elaborated}

-- a core, and what elaboration makes of it
pub record ElaboratedParts : Type 0 where
  pub core : CoreParts
  pub made : Elaboration

abbrev pub elaboration_of : List Packed → List Signature → List Note → List GoalAt → Elaboration
elaboration_of table sigs notes goals = record { table = table; sigs = sigs; notes = notes; goals = goals }

-- the second is what the definition gives for the first
abbrev pub IsElaboration : CoreParts → Elaboration → Type 0
IsElaboration core made = elaborated (plain_core core) ≡ Ok made

-- lines prove a goal from the rows of its context
abbrev pub ProveGoal : GoalAt → List Line → Type 0
ProveGoal goal lines = LinesProve goal.ctx.rows goal.row lines

-- as many lists of lines as goals, each of which proves the goal of its place
abbrev pub ProveAll : List GoalAt → List (List Line) → Type 0
ProveAll goals lines = AllZip ProveGoal goals lines

-- an elaborated program, and the lines of its goals
pub record ProvedParts : Type 0 where
  pub base : ElaboratedParts
  pub lines : List (List Line)
