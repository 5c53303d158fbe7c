-- The same of tests. Their branches demand nothing: what holds on either side is known there. A label of a test has the state that the test
-- noted.
use Rattle.std.specs.Prelude.{suc, Bool as Truth, true, false, not, List, [], ◌∷◌, ◌++◌, length, Option, Some, None, option_to_list}
use Rattle.std.specs.Option.{option_map}
use Rattle.lowering.specs.TestCode.{turn, inner_on}
use Rattle.state_types.specs.declared.state.StateType.{StateType}
use Rattle.three_address.specs.declared.typed.Edge.{Edge}
use Rattle.typed_core.specs.declared.note.Note.{Note}
use Rattle.xanadu_tree.specs.Plain as core
use Rattle.type_carrier.specs.ProvedRows.{Proofs, state_in, behind_front}
use Rattle.type_carrier.specs.Ways.{label_state}
use Rattle.type_carrier.specs.CarriedValues.{Carried, plainly, operand}

-- with the states of the labels so far
pub record Labelled : Type 0 where
  pub now : Carried
  pub states : List StateType

-- the live places of a function's labels, and the goals of the program with their lines
pub record Sources : Type 0 where
  pub proofs : Proofs
  pub columns : List (List Truth)

abbrev pub past_note : Carried → Carried
past_note c = record c { notes = behind_front c.notes }

abbrev pub walked : List Edge → List Note → List StateType → Labelled
walked edges notes states = record { now = record { edges = edges; notes = notes }; states = states }

-- the state in front is that of the next label
abbrev pub next_state : Sources → List Note → (states : List StateType) → Option StateType
next_state from notes states = option_map (label_state from.columns (suc (length states))) (state_in notes)

abbrev pub state_here : Sources → Labelled → Option StateType
state_here from l = next_state from l.now.notes l.states

abbrev pub labelled : Sources → Labelled → Labelled
labelled from l = record { now = past_note l.now; states = l.states ++ option_to_list (state_here from l) }

-- where no label stands, the note is left out
abbrev pub labelled_if : Truth → Sources → Labelled → Labelled
labelled_if true from l = labelled from l
labelled_if false from l = record l { now = past_note l.now }

abbrev pub jump_plainly : Truth → Labelled → Labelled
jump_plainly true l = record l { now = plainly l.now }
jump_plainly false l = l

abbrev pub leaf : Proofs → core.Expr → Carried → Carried
leaf proofs (core.Compare rel left right) c = plainly (operand proofs right (operand proofs left c))
leaf proofs e c = plainly (operand proofs e c)

module _ (from : Sources) where
  unfoldable mutual
    pub test : (on : Truth) → core.Test → Labelled → Labelled
    test on (core.Leaf e) l = record l { now = leaf from.proofs e l.now }
    test on (core.All parts) l = labelled_if on from (jump_plainly on (parts_carried (inner_on on on) on parts l))
    test on (core.Any parts) l = labelled_if (not on) from (jump_plainly (not on) (parts_carried (inner_on (not on) on) on parts l))
    test on (core.Not part) l = test (not on) part l

    pub parts_carried : (inner last : Truth) → core.Tests → Labelled → Labelled
    parts_carried inner last core.NoTest l = l
    parts_carried inner last (core.ATest t others) l = parts_carried inner last others (test (turn others inner last) t l)
