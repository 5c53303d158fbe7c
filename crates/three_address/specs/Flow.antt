-- Where control goes in a function.
use Rattle.std.specs.Prelude.{ℕ, zero, suc, List, [], ◌∷◌, Option, Some, None, option_to_list, slice_get}
use Rattle.operation_rules.specs.declared.operation.Operation.{Operation}
use Rattle.operation_rules.specs.declared.operation.Operation.TheVariants.{Branch, BranchTruth, Jump, Return}
use Rattle.three_address.specs.Instructions.{Instruction, instruction_of}
use Rattle.three_address.specs.declared.function.LowFun.{LowFun}
use Rattle.three_address.specs.declared.instruction.LowInstr.{LowInstr}

-- the position of a label, which are numbered from 1
abbrev pub label_at : List ℕ → (label : ℕ) → Option ℕ
label_at labels zero = None
label_at labels (suc before) = slice_get labels before

-- the positions to which an operation at a position may lead, where this is the position of its label
abbrev pub ways : Operation → (at : ℕ) → Option ℕ → List ℕ
ways (Branch comparison) at label = suc at ∷ option_to_list label
ways (BranchTruth b) at label = suc at ∷ option_to_list label
ways Jump at label = option_to_list label
ways Return at label = []
ways _ at label = suc at ∷ []

abbrev pub with_instruction : {A : Type 0} → Option A → (A → Option Instruction) → Option Instruction
with_instruction None use_of = None
with_instruction (Some x) use_of = use_of x

-- the instruction at a position
unfoldable pub instruction_at : List LowInstr → (at : ℕ) → Option Instruction
instruction_at code at = with_instruction (slice_get code at) instruction_of

-- ---- what is read, written and led to at a position; where no instruction stands, nothing

abbrev pub reads_of : Option Instruction → List ℕ
reads_of None = []
reads_of (Some i) = i.reads

abbrev pub writes_of : Option Instruction → List ℕ
writes_of None = []
writes_of (Some i) = i.writes

abbrev pub ways_of : Option Instruction → (at : ℕ) → Option ℕ → List ℕ
ways_of None at label = []
ways_of (Some i) at label = ways i.operation at label

abbrev pub target_of : Option LowInstr → ℕ
target_of None = 0
target_of (Some i) = i.target

unfoldable pub reads_at : LowFun → (at : ℕ) → List ℕ
reads_at fun at = reads_of (instruction_at fun.code at)

unfoldable pub writes_at : LowFun → (at : ℕ) → List ℕ
writes_at fun at = writes_of (instruction_at fun.code at)

unfoldable pub ways_from : LowFun → (at : ℕ) → List ℕ
ways_from fun at = ways_of (instruction_at fun.code at) at (label_at fun.labels (target_of (slice_get fun.code at)))
