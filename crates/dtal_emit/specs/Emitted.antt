-- Which program of the assembly language typed code over places becomes, where each place has a home.
use Rattle.std.specs.Prelude.{ℕ, zero, suc, ◌-◌, Bool, true, false, List, [], ◌∷◌, ◌++◌, length, take, drop, Option, Some, None, nat_lt, nat_le, if◌then◌else◌}
use Rattle.xan_lin.specs.Linear.{Linear}
use Rattle.proof_lines.specs.declared.line.Line.{Line}
use Rattle.state_types.specs.PlaceTypes.{with_type}
use Rattle.state_types.specs.declared.state.StateType.{StateType}
use Rattle.state_types.specs.declared.types.Ty.{Ty}
use Rattle.three_address.specs.Splits.{Parts, parts_of}
use Rattle.three_address.specs.declared.assignment.Assignment.{Assignment}
use Rattle.three_address.specs.declared.function.LowFun.{LowFun}
use Rattle.three_address.specs.declared.instruction.LowInstr.{LowInstr}
use Rattle.three_address.specs.declared.typed.Edge.{Edge}
use Rattle.three_address.specs.declared.typed.ProvedRow.{ProvedRow}
use Rattle.three_address.specs.declared.typed.Typed.{Typed}
use Rattle.dtal_code.specs.declared.instruction.Instr.{Instr}
use Rattle.dtal_code.specs.declared.limits.TheConstants.{PLACES}
use Rattle.dtal_code.specs.declared.program.Block.{Block}
use Rattle.dtal_code.specs.declared.program.DtalProgram.{DtalProgram}
use Rattle.dtal_code.specs.declared.program.Function.{Function}
use Rattle.dtal_code.specs.declared.program.LabelState.{LabelState}
use Rattle.dtal_emit.specs.Acting.{takes_places, acting}
use Rattle.dtal_emit.specs.Homes.{home_of, homes_of, loads, registers, results, stores, entry_moves}
use Rattle.dtal_emit.specs.declared.homes.TheConstants.{SCRATCH}

-- ---- what proves the rows of a way to a label

-- The text asks for them by the places of the label in the order of their homes, and then for the rows of the label.
abbrev pub rank : List ℕ → Option ℕ → ℕ
rank homes None = PLACES
rank homes (Some place) = home_of homes place

abbrev pub suc_if : Bool → ℕ → ℕ
suc_if true count = suc count
suc_if false count = 0

-- how many at the front are not behind this rank
unfoldable pub count_before : ℕ → List ℕ → ℕ
count_before key [] = 0
count_before key (other ∷ ranks) = suc_if (nat_le other key) (count_before key ranks)

abbrev pub inserted : {A : Type 0} → (at : ℕ) → A → List A → List A
inserted at x made = take at made ++ x ∷ drop at made

-- each behind those that are not behind its rank, among the lines so far, whose ranks are these
unfoldable pub ordered_from : List ℕ → List ProvedRow → (ranks : List ℕ) → List (List Line) → List (List Line)
ordered_from homes [] ranks made = made
ordered_from homes (by ∷ bys) ranks made =
    let at = count_before (rank homes by.place) ranks in ordered_from homes bys (inserted at (rank homes by.place) ranks) (inserted at by.lines made)

abbrev pub ordered : List ℕ → List ProvedRow → List (List Line)
ordered homes bys = ordered_from homes bys [] []

-- ---- instructions

-- the one that acts, with what stands with it
abbrev pub with_edge : List ℕ → LowInstr → Edge → (writes reads : List ℕ) → Instr
with_edge homes i edge writes reads =
    record { op = acting i.op i.number i.target writes reads; edge = edge.values; by = ordered homes edge.by }

-- over registers: words in slots are moved to the scratch registers first, and a result for a slot comes from the first of them
abbrev pub over_registers : List ℕ → LowInstr → Edge → (writes reads : List ℕ) → List Instr
over_registers homes i edge writes reads =
    loads SCRATCH reads ++ (with_edge homes i edge (results writes) (registers SCRATCH reads) ∷ stores writes)

abbrev pub by_kind : Bool → List ℕ → LowInstr → Edge → (writes reads : List ℕ) → List Instr
by_kind true homes i edge writes reads = with_edge homes i edge writes reads ∷ []
by_kind false homes i edge writes reads = over_registers homes i edge writes reads

-- nothing becomes of what has not the places and the number of its form
abbrev pub with_parts : List ℕ → LowInstr → Edge → Option Parts → List Instr
with_parts homes i edge None = []
with_parts homes i edge (Some parts) = by_kind (takes_places i.op) homes i edge (homes_of homes parts.0) (homes_of homes parts.1)

unfoldable pub emitted_instr : List ℕ → LowInstr → Edge → List Instr
emitted_instr homes i edge = with_parts homes i edge (parts_of i)

unfoldable pub emitted_all : List ℕ → List LowInstr → List Edge → List Instr
emitted_all homes (i ∷ is) (edge ∷ edges) = emitted_instr homes i edge ++ emitted_all homes is edges
emitted_all homes [] edges = []
emitted_all homes (i ∷ is) [] = []

-- ---- labels

-- the types of the homes of places
unfoldable pub at_homes : List ℕ → List (ℕ × Ty) → List (ℕ × Ty) → List (ℕ × Ty)
at_homes homes [] made = made
at_homes homes (x ∷ places) made = at_homes homes places (with_type (home_of homes x.0) x.1 made)

abbrev pub label_state : List ℕ → StateType → LabelState
label_state homes state = record { vars = state.ctx.vars; rows = state.ctx.rows; places = at_homes homes state.places [] }

-- ---- blocks

-- The code from one label to the next is a block. The first has no label, and begins with the moves of parameters.
unfoldable pub blocks_from : List ℕ → (at : ℕ) → Option LabelState → (positions : List ℕ) → List StateType → List LowInstr → List Edge → (front : List Instr) → List Block
blocks_from homes at state [] labels code edges front = record { state = state; code = front ++ emitted_all homes code edges } ∷ []
blocks_from homes at state (next ∷ positions) [] code edges front = record { state = state; code = front ++ emitted_all homes code edges } ∷ []
blocks_from homes at state (next ∷ positions) (label ∷ labels) code edges front =
    record { state = state; code = front ++ emitted_all homes (take (next - at) code) (take (next - at) edges) }
    ∷ blocks_from homes next (Some (label_state homes label)) positions labels (drop (next - at) code) (drop (next - at) edges) []

-- ---- functions and programs

-- of the parameters at most eight begin in registers
abbrev pub fewer : ℕ → ℕ → ℕ
fewer m n = if nat_lt m n then m else n

abbrev pub emitted_fun : LowFun → List StateType → List Edge → List ℕ → Function
emitted_fun fun labels edges homes = record {
  name = fun.name;
  sig = fun.sig;
  blocks = blocks_from homes 0 None fun.labels labels fun.code edges (entry_moves homes (fewer 8 (length fun.sig.params)));
}

unfoldable pub emitted_funs : List LowFun → List (List StateType) → List (List Edge) → List (List ℕ) → List Function
emitted_funs (fun ∷ funs) (labels ∷ states) (es ∷ edges) (hs ∷ homes) = emitted_fun fun labels es hs ∷ emitted_funs funs states edges homes
emitted_funs [] states edges homes = []
emitted_funs (fun ∷ funs) [] edges homes = []
emitted_funs (fun ∷ funs) (labels ∷ states) [] homes = []
emitted_funs (fun ∷ funs) (labels ∷ states) (es ∷ edges) [] = []

-- types 0 and 1 are not written
unfoldable pub emitted : Typed → Assignment → DtalProgram
emitted typed homes = record { types = drop 2 typed.low.table; funs = emitted_funs typed.low.funs typed.states typed.edges homes.homes }
