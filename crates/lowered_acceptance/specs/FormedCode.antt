-- Code whose instructions have the form of their kind.
use Rattle.std.specs.Prelude.{◌≡◌, ℕ, List, Some, slice_get}
use Rattle.three_address.specs.Instructions.{Instruction, instruction_of}
use Rattle.three_address.specs.declared.instruction.LowInstr.{LowInstr}

-- each instruction has the places and the number of its form
abbrev pub HaveForms : List LowInstr → Type 0
HaveForms code = (at : ℕ) (instr : LowInstr) → slice_get code at ≡ Some instr → (i : Instruction) × (instruction_of instr ≡ Some i)
