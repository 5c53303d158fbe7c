-- How many instructions and conditional branches a program has, and how many a core asks for.
use Rattle.std.specs.Prelude.{ℕ, suc, ◌+◌, Bool as Truth, true, false, List, [], ◌∷◌, length}
use Rattle.xanadu_tree.specs.Plain as plain
use Rattle.typed_core.specs.Goals.{Elaboration}
use Rattle.three_address.specs.declared.function.LowFun.{LowFun}
use Rattle.three_address.specs.declared.instruction.LowInstr.{LowInstr}
use Rattle.lowering.specs.Lowered.{functions_of}
use Rattle.value_lowering.specs.OneInstruction.{one_if}
use Rattle.lowering.specs.TestLeaves.{block_leaves}
use Rattle.dtal_code.specs.Grammar.{size_of as blocks_size}
use Rattle.dtal_code.specs.declared.instruction.Instr.{Instr}
use Rattle.dtal_code.specs.declared.instruction.Op.{Op}
use Rattle.dtal_code.specs.declared.instruction.Op.TheVariants as op
use Rattle.dtal_code.specs.declared.program.Block.{Block}
use Rattle.dtal_code.specs.declared.program.Function.{Function}
use Rattle.dtal_code.specs.declared.program.DtalProgram.{DtalProgram}
use Rattle.dtal_emit.specs.Acting.{takes_places}

-- ---- conditional branches

abbrev pub is_conditional : Op → Truth
is_conditional (op.Br _ _ _ _) = true
is_conditional (op.Bt _ _) = true
is_conditional (op.Bf _ _) = true
is_conditional _ = false

unfoldable pub code_branches : List Instr → ℕ
code_branches [] = 0
code_branches (i ∷ code) = one_if (is_conditional i.op) + code_branches code

unfoldable pub blocks_branches : List Block → ℕ
blocks_branches [] = 0
blocks_branches (block ∷ blocks) = code_branches block.code + blocks_branches blocks

unfoldable pub functions_branches : List Function → ℕ
functions_branches [] = 0
functions_branches (fun ∷ funs) = blocks_branches fun.blocks + functions_branches funs

abbrev pub branches : DtalProgram → ℕ
branches program = functions_branches program.funs

-- ---- leaves of the tests of `if` and `while`

unfoldable pub functions_leaves : List plain.Fun → ℕ
functions_leaves [] = 0
functions_leaves (f ∷ fs) = block_leaves f.body + functions_leaves fs

abbrev pub tests : plain.Program → ℕ
tests core = functions_leaves core.funs

-- ---- instructions

unfoldable pub functions_instructions : List Function → ℕ
functions_instructions [] = 0
functions_instructions (fun ∷ funs) = blocks_size fun.blocks + functions_instructions funs

abbrev pub instructions : DtalProgram → ℕ
instructions program = functions_instructions program.funs

-- All places are slots. An instruction over registers stands with a move for each of its places: what it reads is brought to a register first, and what it
-- writes is taken from one. Others take slots as they are.
abbrev pub size_by : (as_they_are : Truth) → (places : ℕ) → ℕ
size_by true places = 1
size_by false places = suc places

unfoldable pub code_size : List LowInstr → ℕ
code_size [] = 0
code_size (i ∷ code) = size_by (takes_places i.op) (length i.places) + code_size code

-- the parameters begin in registers, and are moved to slots before all else
unfoldable pub functions_size : List LowFun → ℕ
functions_size [] = 0
functions_size (fun ∷ funs) = length fun.sig.params + code_size fun.code + functions_size funs

-- how many instructions the program of a core has: a number that the functions of its code over places, and so the core, decide
abbrev pub size_of : plain.Program → Elaboration → ℕ
size_of core made = functions_size (functions_of core core.funs made.sigs)
