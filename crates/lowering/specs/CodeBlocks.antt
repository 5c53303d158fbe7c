-- How lowered code is divided into blocks: labels rise, and nothing runs on from a block into the next one.
use Rattle.std.specs.Prelude.{◌≡◌, ◌⊎◌, ℕ, suc, ◌≤◌, Bool as Truth, true, false, List, [], ◌∷◌, length, slice_get, Some}
use Rattle.xanadu_tree.specs.KindRules.{IsAmong}
use Rattle.three_address.specs.declared.instruction.LowInstr.{LowInstr}
use Rattle.three_address.specs.declared.instruction.Op22.{Op22}
use Rattle.three_address.specs.declared.instruction.Op22.TheVariants as op
use Rattle.lowering.specs.Lowered.{leads}

-- whether control never goes on behind it
abbrev pub stops : Op22 → Truth
stops op.Jmp = true
stops op.Ret = true
stops _ = false

-- positions rise, the first one is at least this, and all are below that
unfoldable pub Spaced : (least : ℕ) → List ℕ → (most : ℕ) → Type 0
Spaced least [] most = least ≤ most
Spaced least (label ∷ labels) most = (least ≤ label) × Spaced (suc label) labels most

-- the instruction in front of a position is a jump or a return
pub record EndsBefore (code : List LowInstr) (position : ℕ) : Type 0 where
  pub before : ℕ
  pub next : position ≡ suc before
  pub instr : LowInstr
  pub there : slice_get code before ≡ Some instr
  pub stops : stops instr.op ≡ true

pub record InBlocks (code : List LowInstr) (labels : List ℕ) : Type 0 where
  -- no label is at 0, each is within the code, and there is an instruction from each to the next
  pub rise : Spaced 1 labels (length code)
  pub ends : (label : ℕ) → IsAmong labels label → EndsBefore code label
  pub last : EndsBefore code (length code)
  -- behind a jump or a return stands a label or the end
  pub behind : (at : ℕ) (instr : LowInstr) → slice_get code at ≡ Some instr → stops instr.op ≡ true → IsAmong labels (suc at) ⊎ (suc at ≡ length code)

-- some instruction leads to this target
pub record HasJump (code : List LowInstr) (target : ℕ) : Type 0 where
  pub at : ℕ
  pub instr : LowInstr
  pub there : slice_get code at ≡ Some instr
  pub leads : leads instr.op ≡ true
  pub to : instr.target ≡ target
