-- Where places are kept: the homes of some places, and the moves between slots and the scratch registers.
use Rattle.std.specs.Prelude.{ℕ, zero, suc, ◌-◌, Bool, true, false, List, [], ◌∷◌, ◌++◌, length, take, drop, map, nat_lt, nat_le, if◌then◌else◌}
use Rattle.std.specs.List.{slice_index_or}
use Rattle.xan_lin.specs.Linear.{Linear}
use Rattle.proof_lines.specs.declared.line.Line.{Line}
use Rattle.state_types.specs.declared.types.Ty.{Ty}
use Rattle.dtal_code.specs.declared.instruction.Instr.{Instr}
use Rattle.dtal_code.specs.declared.instruction.Op.{Op}
use Rattle.dtal_code.specs.declared.instruction.Op.TheVariants as op
use Rattle.dtal_code.specs.declared.limits.TheConstants.{REGISTERS}
use Rattle.dtal_emit.specs.declared.homes.TheConstants.{SCRATCH}

-- ---- homes

-- the home of a place
abbrev pub home_of : List ℕ → ℕ → ℕ
home_of homes place = slice_index_or homes place 0

-- the homes of places, of at most eight: an instruction of the text lists no more
abbrev pub homes_of : List ℕ → List ℕ → List ℕ
homes_of homes places = map (home_of homes) (take 8 places)

abbrev pub is_slot : ℕ → Bool
is_slot home = nat_le REGISTERS home

-- ---- instructions beside the one that acts

-- an instruction with nothing beside it
abbrev pub alone : Op → Instr
alone o = record { op = o; edge = []; by = [] }

abbrev pub moved_if : Bool → (to from : ℕ) → List Instr
moved_if true to from = alone (op.Mv to from) ∷ []
moved_if false to from = []

-- ---- words that are read

-- the register in which a word is read: its home, or the next scratch register, to which it is moved first
abbrev pub register_of : (scratch home : ℕ) → ℕ
register_of scratch home = if is_slot home then scratch else home

-- the next scratch register behind it
abbrev pub scratch_behind : (scratch home : ℕ) → ℕ
scratch_behind scratch home = if is_slot home then suc scratch else scratch

-- the moves that come first, and the registers in which the words are then
unfoldable pub loads : (scratch : ℕ) → List ℕ → List Instr
loads scratch [] = []
loads scratch (home ∷ homes) = moved_if (is_slot home) scratch home ++ loads (scratch_behind scratch home) homes

unfoldable pub registers : (scratch : ℕ) → List ℕ → List ℕ
registers scratch [] = []
registers scratch (home ∷ homes) = register_of scratch home ∷ registers (scratch_behind scratch home) homes

-- ---- words that are written

-- the register into which a result goes first, and the move behind the instruction
abbrev pub results : List ℕ → List ℕ
results [] = []
results (home ∷ homes) = register_of SCRATCH home ∷ []

abbrev pub stores : List ℕ → List Instr
stores [] = []
stores (home ∷ homes) = moved_if (is_slot home) home SCRATCH

-- ---- entry

-- parameter `place` begins in the register of its number; one whose home is a slot goes there before all else
abbrev pub entry_move : List ℕ → ℕ → List Instr
entry_move homes place = moved_if (is_slot (home_of homes place)) (home_of homes place) place

-- those of the parameters below this number
unfoldable pub entry_moves : List ℕ → ℕ → List Instr
entry_moves homes zero = []
entry_moves homes (suc place) = entry_moves homes place ++ entry_move homes place
