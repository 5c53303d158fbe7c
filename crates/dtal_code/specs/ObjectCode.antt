-- A program as the machine runs it: the instructions of all functions one after the other, in which labels are resolved.
use Rattle.std.specs.Prelude.{ℕ, ◌+◌, Bool as Truth, ◌&&◌, List, [], ◌∷◌, ◌++◌, map, take, length, nat_lt, slice_get, Option, Some, None, if◌then◌else◌}
use Rattle.dtal_code.specs.declared.instruction.Instr.{Instr}
use Rattle.dtal_code.specs.declared.object.RunOp.{RunOp}
use Rattle.dtal_code.specs.declared.program.Block.{Block}
use Rattle.dtal_code.specs.declared.program.Function.{Function}
use Rattle.dtal_code.specs.declared.program.DtalProgram.{DtalProgram}
use Rattle.dtal_code.specs.Declarations.{main_of}
use Rattle.dtal_code.specs.Grammar.{size_of}
use Rattle.dtal_code.specs.Instructions.{resolved}

pub record Code : Type 0 where
  pub ops : List RunOp
  -- the number of each function's first instruction
  pub starts : List ℕ

-- ---- labels

abbrev pub is_label : List Block → (label : ℕ) → Truth
is_label blocks label = nat_lt 0 label && nat_lt label (length blocks)

-- The number of a label's first instruction, in a function whose first instruction has the number `start`. One that does not exist is past
-- the code.
abbrev pub target_in : (past start : ℕ) → List Block → (label : ℕ) → ℕ
target_in past start blocks label = if is_label blocks label then start + size_of (take label blocks) else past

-- ---- code

-- the instructions of blocks, in order
unfoldable pub instrs_of : List Block → List Instr
instrs_of [] = []
instrs_of (block ∷ blocks) = block.code ++ instrs_of blocks

abbrev pub function_code : (past start : ℕ) → List Block → List RunOp
function_code past start blocks = map (λ i. resolved (target_in past start blocks) i.op) (instrs_of blocks)

-- functions from an instruction on
unfoldable pub functions_code : (past start : ℕ) → List Function → List RunOp
functions_code past start [] = []
functions_code past start (fun ∷ funs) = function_code past start fun.blocks ++ functions_code past (start + size_of fun.blocks) funs

unfoldable pub starts_from : (start : ℕ) → List Function → List ℕ
starts_from start [] = []
starts_from start (fun ∷ funs) = start ∷ starts_from (start + size_of fun.blocks) funs

-- how many instructions there are
unfoldable pub program_size : List Function → ℕ
program_size [] = 0
program_size (fun ∷ funs) = size_of fun.blocks + program_size funs

abbrev pub code_of : DtalProgram → Code
code_of program = record { ops = functions_code (program_size program.funs) 0 program.funs; starts = starts_from 0 program.funs }

-- ---- where a run begins

abbrev pub start_or : (past : ℕ) → Option ℕ → ℕ
start_or past (Some start) = start
start_or past None = past

abbrev pub start_of : DtalProgram → Option (ℕ × Function) → ℕ
start_of program None = program_size program.funs
start_of program (Some main) = start_or (program_size program.funs) (slice_get (starts_from 0 program.funs) main.0)

-- the number of the first instruction of `main`, or past the code where there is none
abbrev pub main_start : DtalProgram → ℕ
main_start program = start_of program (main_of program.funs)
