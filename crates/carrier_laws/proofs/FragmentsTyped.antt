-- Fragments of a function's code: where they stand, which labels come, and what it is for a fragment to be typed between two states of
-- elaboration.
use Rattle.std.proofs.Common.{◌≡◌, ℕ, suc, ◌+◌, ◌≤◌, Bool as Truth, true, false, List, [], ◌∷◌, ◌++◌, length, slice_get, Some}
use Rattle.std.specs.List.{AllZip}
use Rattle.lowering.specs.CodeBlocks.{Spaced}
use Rattle.lowering.specs.Lowered.{number_of}
use Rattle.state_types.specs.declared.state.StateType.{StateType}
use Rattle.three_address.specs.Flow.{label_at}
use Rattle.three_address.specs.LiveLabels.{AreAllColumns}
use Rattle.three_address.specs.declared.instruction.LowInstr.{LowInstr}
use Rattle.typed_core.specs.Growth.{Continues}
use Rattle.typed_core.specs.States.{State}
use Rattle.typed_core.specs.declared.note.Note.TheVariants as note
use Rattle.type_carrier.specs.CarriedTests.{Labelled, Sources}
use Rattle.type_carrier.specs.Ways.{label_state}
use Rattle.carrier_laws.proofs.OperandsRun.{Walk, Ahead, Here, IsLeft, Runs}

-- the live places at the labels of a function stand beside the walk
abbrev pub sources_of : Walk → List (List Truth) → Sources
sources_of w columns = record { proofs = w.proofs; columns = columns }

-- labels rise, and each column says what is live at them
pub record HasLabels (w : Walk) (columns : List (List Truth)) : Type 0 where
  pub positions : w.body.fun.labels ≡ w.body.positions
  pub rise : Spaced 1 w.body.positions (length w.body.fun.code)
  pub live : AreAllColumns w.body.fun columns
  pub room : w.vars ≤ w.body.fun.places

-- ---- labels

-- labels stand at these positions from here on, and there are states of those before
pub record Coming (w : Walk) (states : List StateType) (coming : List ℕ) : Type 0 where
  pub passed : List ℕ
  pub are : w.body.positions ≡ passed ++ coming
  pub as_many : length passed ≡ length states

-- the label at a position, with its number (from 0 on) and the state that elaboration noted
pub record LabelAt (w : Walk) (columns : List (List Truth)) (to number : ℕ) (noted : StateType) : Type 0 where
  pub number_is : number_of w.body.positions to ≡ suc number
  pub there : slice_get w.body.labels number ≡ Some (label_state columns (suc number) noted)
  pub found : label_at w.body.fun.labels (suc number) ≡ Some to

-- what is made later stands behind, states of labels too
pub record AllAhead (w : Walk) (st : State) (l : Labelled) : Type 0 where
  pub ahead : Ahead w st
  pub states : Continues l.states w.body.labels

-- ---- fragments

-- where a statement begins: the code and elaboration, and the labels that come
pub record Begins (w : Walk) (p : ℕ) (s : StateType) (st : State) (l : Labelled) (coming : List ℕ) : Type 0 where
  pub here : Here w p s st [] l.now.notes
  pub labels : Coming w l.states coming

-- a label of a fragment that stands from p on: its state is the one before the instruction there
pub record LabelStands (w : Walk) (columns : List (List Truth)) (p : ℕ) (states : List StateType) (end : StateType) (at : ℕ) (label : StateType) : Type 0 where
  pub offset : ℕ
  pub is : at ≡ p + offset
  pub stands : slice_get (states ++ end ∷ []) offset ≡ Some label
  pub number : ℕ
  pub noted : StateType
  pub label_is : label ≡ label_state columns number noted
  pub place : ℕ
  pub is_noted : slice_get w.notes place ≡ Some (note.State noted)

-- the code runs to this state type, and its labels, at these positions, have the states that are made
pub record Passes (w : Walk) (columns : List (List Truth)) (p : ℕ) (s : StateType) (code : List LowInstr) (positions : List ℕ) (l more : Labelled) (end : StateType) : Type 0 where
  pub runs : Runs w s code l.now.edges more.now.edges end
  pub made : List StateType
  pub made_is : more.states ≡ l.states ++ made
  pub labels : AllZip (LabelStands w columns p runs.states end) positions made

-- it goes on where elaboration stands
pub record GoesOn (w : Walk) (columns : List (List Truth)) (p : ℕ) (s : StateType) (code : List LowInstr) (positions : List ℕ) (l more : Labelled) (after : State) : Type 0 where
  pub end : StateType
  pub passes : Passes w columns p s code positions l more end
  pub here : Here w (p + length code) end after [] more.now.notes

-- where control does not come to what stands behind, any state type may stand there
abbrev pub Ends : (completes : Truth) → (w : Walk) (columns : List (List Truth)) (p : ℕ) (s : StateType) (code : List LowInstr) (positions : List ℕ) (l more : Labelled) (after : State) → Type 0
Ends true w columns p s code positions l more after = GoesOn w columns p s code positions l more after
Ends false w columns p s code positions l more after = (end : StateType) → Passes w columns p s code positions l more end

-- a fragment between two states, with the labels that come behind it
pub record Typed (completes : Truth) (w : Walk) (columns : List (List Truth)) (p : ℕ) (s : StateType) (code : List LowInstr) (positions : List ℕ) (l more : Labelled) (after : State)
    (coming : List ℕ) : Type 0 where
  pub ends : Ends completes w columns p s code positions l more after
  pub left : IsLeft w after more.now.notes
  pub labels : Coming w more.states coming
