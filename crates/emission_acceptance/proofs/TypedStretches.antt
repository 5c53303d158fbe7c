-- The stretches of a function that is typed are typed, and the whole.
use Rattle.std.proofs.Common.{◌≡◌, ℕ, suc, List, [], ◌∷◌, length, refl, ap}
use Rattle.std.specs.List.{AllZip}
use Rattle.state_types.specs.declared.state.StateType.{StateType}
use Rattle.three_address.specs.Typing.{IsTyped, IsTypedFun, setting_of}
use Rattle.three_address.specs.declared.assignment.Assignment.{Assignment}
use Rattle.three_address.specs.declared.function.LowFun.{LowFun}
use Rattle.three_address.specs.declared.function.Lowered.{Lowered}
use Rattle.three_address.specs.declared.typed.Edge.{Edge}
use Rattle.three_address.specs.declared.typed.Typed.{Typed}
use Rattle.dtal_code.specs.Acceptance.{Accepted}
use Rattle.dtal_code.specs.Grammar.{InGrammar}
use Rattle.dtal_emit.specs.Emitted.{emitted}
use Rattle.emission_laws.specs.ApartHomes.{Kept, IsReadyFun}
use Rattle.emission_laws.specs.EmittedRanges.{IsRanged}
use Rattle.emission_acceptance.specs.Acceptable.{AreAcceptable}
use Rattle.emission_acceptance.specs.TypesThrough.{AreTypesApart, LabelsPass}
use Rattle.emission_acceptance.proofs.BlocksWalked.{StretchesStand}
use Rattle.emission_acceptance.proofs.ProgramsAccepted.{accepted_so, cells_have}
use Rattle.emission_acceptance.proofs.RuledCounts.{HaveCells}
use Rattle.emission_acceptance.proofs.StretchesTyped.{stands}

zip_length : {A B : Type 0} (P : A → B → Type 0) (xs : List A) (ys : List B) → AllZip P xs ys → length xs ≡ length ys
zip_length P [] [] all = refl
zip_length P [] (y ∷ ys) all = absurd all
zip_length P (x ∷ xs) [] all = absurd all
zip_length P (x ∷ xs) (y ∷ ys) all = ap suc (zip_length P xs ys all.1)

pub stretches_stand : (low : Lowered) (fun : LowFun) (labels : List StateType) (edges : List Edge) (homes : List ℕ) (kept : Kept) (texts : List StateType) → HaveCells low.table
    → (typed : IsTypedFun low fun labels edges) → IsReadyFun low.funs fun (length labels) edges → AreTypesApart fun labels homes kept
    → LabelsPass (setting_of low fun.sig) fun labels homes kept texts → StretchesStand (setting_of low fun.sig) fun edges homes kept typed.states texts
stretches_stand low fun labels edges homes kept texts cells typed ready apart pass at state text instr edge is_there edge_there state_there through =
    stands (setting_of low fun.sig) low.funs fun labels edges typed.states homes kept texts apart pass cells (zip_length _ labels fun.labels typed.label_each) typed.again
    at state instr edge is_there edge_there state_there (ready.instrs at instr is_there) (typed.allowed at state instr edge state_there is_there edge_there) text through

-- ---- the whole

pub accepted_programs : (typed : Typed) (homes : Assignment) (kept : (number : ℕ) → Kept) → IsTyped typed → IsRanged typed homes → AreAcceptable typed homes kept
    → InGrammar (emitted typed homes) → Accepted (emitted typed homes)
accepted_programs typed homes kept is ranged acceptable grammar =
    let cells = cells_have typed.low.table acceptable.headed.table ranged.types in
    accepted_so typed homes kept is ranged acceptable grammar
    (λ fun labels edges own keeps t ready apart pass. stretches_stand typed.low fun labels edges own keeps _ cells t ready apart pass)
