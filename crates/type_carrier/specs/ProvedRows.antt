-- Goals with the lines that prove them, as what stands with an instruction, and notes from the front.
use Rattle.std.specs.Prelude.{ℕ, Bool as Truth, true, false, List, [], ◌∷◌, ◌++◌, Option, Some, None, slice_get}
use Rattle.proof_lines.specs.declared.line.Line.{Line}
use Rattle.xan_lin.specs.Linear.{Linear}
use Rattle.xan_lin.specs.Same.{same_form}
use Rattle.state_types.specs.declared.state.StateType.{StateType}
use Rattle.state_types.specs.declared.types.Ty.{Ty}
use Rattle.three_address.specs.declared.typed.Edge.{Edge}
use Rattle.three_address.specs.declared.typed.ProvedRow.{ProvedRow}
use Rattle.typed_core.specs.declared.goal.GoalAt.{GoalAt}
use Rattle.typed_core.specs.declared.note.Note.{Note}
use Rattle.typed_core.specs.declared.note.Note.TheVariants as note

-- the goals of a program, and for each its lines
pub record Proofs : Type 0 where
  pub goals : List GoalAt
  pub lines : List (List Line)

-- ---- rows

-- a goal's row with its lines
abbrev pub row_with : (place : Option ℕ) → Option GoalAt → Option (List Line) → List ProvedRow
row_with place None lines = []
row_with place (Some goal) None = []
row_with place (Some goal) (Some lines) = record { place = place; row = goal.row; lines = lines } ∷ []

abbrev pub row_at : Proofs → (place : Option ℕ) → (number : ℕ) → List ProvedRow
row_at proofs place number = row_with place (slice_get proofs.goals number) (slice_get proofs.lines number)

-- the rows of goals, in order, behind those so far
unfoldable pub rows_onto : Proofs → (numbers : List ℕ) → List ProvedRow → List ProvedRow
rows_onto proofs [] made = made
rows_onto proofs (number ∷ numbers) made = rows_onto proofs numbers (made ++ row_at proofs None number)

abbrev pub is_row : Linear → Option GoalAt → Truth
is_row row None = false
is_row row (Some goal) = same_form goal.row row

abbrev pub first_or : Truth → (found later : List ProvedRow) → List ProvedRow
first_or true found later = found
first_or false found later = later

-- a demanded row where it is that of one of these goals; else it is known, and nothing proves it
unfoldable pub row_among : Proofs → (numbers : List ℕ) → (place : Option ℕ) → Linear → List ProvedRow
row_among proofs [] place row = []
row_among proofs (number ∷ numbers) place row =
    first_or (is_row row (slice_get proofs.goals number)) (row_at proofs place number) (row_among proofs numbers place row)

-- demanded rows of a place, behind those so far
unfoldable pub rows_among : Proofs → (numbers : List ℕ) → (place : Option ℕ) → List Linear → List ProvedRow → List ProvedRow
rows_among proofs numbers place [] made = made
rows_among proofs numbers place (row ∷ rows) made = rows_among proofs numbers place rows (made ++ row_among proofs numbers place row)

-- ---- edges

-- where nothing has to be proved and no variable has a value
abbrev pub plain : Edge
plain = record { values = []; by = [] }

abbrev pub demand_edge : Proofs → (numbers : List ℕ) → Edge
demand_edge proofs numbers = record { values = []; by = rows_onto proofs numbers [] }

-- ---- notes

-- the goals of a demand that stands in front
abbrev pub demand_in : List Note → List ℕ
demand_in (note.Demand goals ∷ notes) = goals
demand_in _ = []

abbrev pub state_in : List Note → Option StateType
state_in (note.State state ∷ notes) = Some state
state_in _ = None

-- a way into a state
pub record Way : Type 0 where
  pub values : List (ℕ × Linear)
  pub present : List Ty
  pub goals : List ℕ

abbrev pub way : List (ℕ × Linear) → List Ty → (goals : List ℕ) → Way
way values present goals = record { values = values; present = present; goals = goals }

abbrev pub way_in : List Note → Way
way_in (note.Edge values present goals ∷ notes) = way values present goals
way_in _ = way [] [] []

-- those behind the one in front
abbrev pub behind_front : List Note → List Note
behind_front [] = []
behind_front (one ∷ notes) = notes

abbrev pub proofs_in : List GoalAt → List (List Line) → Proofs
proofs_in goals lines = record { goals = goals; lines = lines }
