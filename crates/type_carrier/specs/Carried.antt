-- The typed code of a whole program: its code as it is, the states of labels, and what stands with instructions.
use Rattle.std.specs.Prelude.{◌≡◌, Bool as Truth, List, [], ◌∷◌, ◌++◌}
use Rattle.std.specs.List.{AllZip}
use Rattle.state_types.specs.declared.state.StateType.{StateType}
use Rattle.three_address.specs.LiveLabels.{AreAllColumns}
use Rattle.three_address.specs.declared.function.Lowered.{Lowered}
use Rattle.three_address.specs.declared.typed.Edge.{Edge}
use Rattle.three_address.specs.declared.typed.Typed.{Typed}
use Rattle.typed_core.specs.Proving.{ProvedParts}
use Rattle.typed_core.specs.declared.note.Note.{Note}
use Rattle.xanadu_tree.specs.Plain as core
use Rattle.xanadu_tree.specs.PlainOf.{plain_core}
use Rattle.type_carrier.specs.ProvedRows.{Proofs}
use Rattle.type_carrier.specs.CarriedTests.{Labelled, Sources}
use Rattle.type_carrier.specs.CarriedStatements.{block}

-- a column for each place of a function, with a mark for each of its labels
abbrev pub Columns : Type 0
Columns = List (List Truth)

-- a body begins with the notes behind those of the functions before it
abbrev pub body_begins : List Note → Labelled
body_begins notes = record { now = record { edges = []; notes = notes }; states = [] }

abbrev pub function : Proofs → Columns → core.Fun → List Note → Labelled
function proofs columns f notes = block (record { proofs = proofs; columns = columns }) f.body (body_begins notes)

-- the states and edges of the functions so far, and the notes that are left
pub record Functions : Type 0 where
  pub states : List (List StateType)
  pub edges : List (List Edge)
  pub notes : List Note

abbrev pub with_function : Labelled → Functions → Functions
with_function done made = record {
  states = made.states ++ done.states ∷ [];
  edges = made.edges ++ done.now.edges ∷ [];
  notes = done.now.notes;
}

-- each function with the live places of its labels
unfoldable pub functions : Proofs → List core.Fun → List Columns → Functions → Functions
functions proofs [] columns made = made
functions proofs (f ∷ fs) [] made = made
functions proofs (f ∷ fs) (columns ∷ others) made = functions proofs fs others (with_function (function proofs columns f made.notes) made)

abbrev pub proofs_of : ProvedParts → Proofs
proofs_of program = record { goals = program.base.made.goals; lines = program.lines }

abbrev pub no_functions : List Note → Functions
no_functions notes = record { states = []; edges = []; notes = notes }

abbrev pub functions_of : List (List StateType) → List (List Edge) → List Note → Functions
functions_of states edges notes = record { states = states; edges = edges; notes = notes }

abbrev pub all_functions : ProvedParts → List Columns → Functions
all_functions program columns =
    functions (proofs_of program) (plain_core program.base.core).funs columns (no_functions program.base.made.notes)

abbrev pub carried : ProvedParts → Lowered → List Columns → Typed
carried program low columns =
    let made = all_functions program columns in
    record { low = low; states = made.states; edges = made.edges }

-- the typed code of a program, where the columns of each function are those of its live places
pub record Carries (program : ProvedParts) (low : Lowered) (typed : Typed) : Type 0 where
  pub columns : List Columns
  pub live : AllZip AreAllColumns low.funs columns
  pub is : typed ≡ carried program low columns
