-- What a label demands on a way to it, where it is not known: place by place, and then the label's rows.
--
-- Nothing is demanded for a variable that has its type from before, nor for one whose index is a variable of the state's own. What is left
-- are the variables whose types a clause states; their present types stand in the note.
use Rattle.std.specs.Prelude.{ℕ, ◌==◌, Bool as Truth, true, false, List, [], ◌∷◌, ◌++◌, Option, Some, None, Result, Ok, Err}
use Rattle.xan_lin.specs.Linear.{Linear}
use Rattle.xan_lin.specs.Subst.{subst_of}
use Rattle.xan_lin.specs.declared.term.TooLarge.{TooLarge}
use Rattle.state_types.specs.Answers.{Check}
use Rattle.state_types.specs.Matching.{index_rows}
use Rattle.state_types.specs.Types.{index_of}
use Rattle.state_types.specs.declared.state.StateType.{StateType}
use Rattle.state_types.specs.declared.types.Ty.{Ty}
use Rattle.three_address.specs.LiveLabels.{live_mark}
use Rattle.three_address.specs.declared.typed.Edge.{Edge}
use Rattle.three_address.specs.declared.typed.ProvedRow.{ProvedRow}
use Rattle.typed_core.specs.Strays.{values_rise}
use Rattle.xanadu_tree.specs.declared.types.CoreTy.{CoreTy}
use Rattle.type_carrier.specs.ProvedRows.{Proofs, Way, plain, row_among, rows_among}

-- ---- labels

abbrev pub kept_if : Truth → ℕ × Ty → List (ℕ × Ty) → List (ℕ × Ty)
kept_if true entry made = made ++ entry ∷ []
kept_if false entry made = made

-- the places that are live at a label, by the columns of the function, behind those so far
unfoldable pub live_places : (columns : List (List Truth)) → (label : ℕ) → List (ℕ × Ty) → List (ℕ × Ty) → List (ℕ × Ty)
live_places columns label [] made = made
live_places columns label (entry ∷ entries) made = live_places columns label entries (kept_if (live_mark columns label entry.0) entry made)

-- a noted state as that of a label
abbrev pub label_state : (columns : List (List Truth)) → (label : ℕ) → StateType → StateType
label_state columns label state = record { ctx = state.ctx; places = live_places columns label state.places [] }

-- ---- ways

abbrev pub first_type : Truth → Ty → Option Ty → Option Ty
first_type true t later = Some t
first_type false t later = later

-- the present type of a variable that the clause names
unfoldable pub present_at : List (ℕ × CoreTy) → (present : List Ty) → (place : ℕ) → Option Ty
present_at [] present place = None
present_at (named ∷ others) [] place = None
present_at (named ∷ others) (t ∷ present) place = first_type (named.0 == place) t (present_at others present place)

-- the number of the first of the state's own variables
abbrev pub first_own : List (ℕ × Linear) → (vars : ℕ) → ℕ
first_own [] vars = vars
first_own (v ∷ values) vars = v.0

abbrev pub rows_or_none : Check (List Linear) → List Linear
rows_or_none (Ok rows) = rows
rows_or_none (Err why) = []

abbrev pub place_rows : List (ℕ × Linear) → (below : ℕ) → (wanted : Ty) → (present : Option Ty) → List Linear
place_rows values below wanted None = []
place_rows values below wanted (Some t) = rows_or_none (index_rows values below (index_of wanted) (index_of t) [])

-- the proofs of what places demand, behind those so far
unfoldable pub places_by : Proofs → List (ℕ × CoreTy) → Way → (below : ℕ) → List (ℕ × Ty) → List ProvedRow → List ProvedRow
places_by proofs vars way below [] made = made
places_by proofs vars way below (wanted ∷ others) made =
    places_by proofs vars way below others
    (rows_among proofs way.goals (Some wanted.0) (place_rows way.values below wanted.1 (present_at vars way.present wanted.0)) made)

abbrev pub row_by : Proofs → (goals : List ℕ) → Result Linear TooLarge → List ProvedRow
row_by proofs goals (Ok row) = row_among proofs goals None row
row_by proofs goals (Err why) = []

-- the same of the rows of the label
unfoldable pub rows_by : Proofs → Way → (below : ℕ) → List Linear → List ProvedRow → List ProvedRow
rows_by proofs way below [] made = made
rows_by proofs way below (row ∷ rows) made = rows_by proofs way below rows (made ++ row_by proofs way.goals (subst_of way.values below row))

abbrev pub all_by : Proofs → List (ℕ × CoreTy) → Way → (below : ℕ) → StateType → List ProvedRow
all_by proofs vars way below target = rows_by proofs way below target.ctx.rows (places_by proofs vars way below target.places [])

-- listed variables rise on each way
abbrev pub rising_edge : Truth → Proofs → List (ℕ × CoreTy) → StateType → Way → Edge
rising_edge false proofs vars target way = plain
rising_edge true proofs vars target way = record { values = way.values; by = all_by proofs vars way (first_own way.values target.ctx.vars) target }

-- a way to a label
abbrev pub way_edge : Proofs → List (ℕ × CoreTy) → Option StateType → Way → Edge
way_edge proofs vars None way = plain
way_edge proofs vars (Some target) way = rising_edge (values_rise 0 way.values) proofs vars target way
