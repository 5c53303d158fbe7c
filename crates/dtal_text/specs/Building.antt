-- The blocks that lines make one after the other, as the code makes them.
use Rattle.std.specs.Prelude.{◌≡◌, List, [], ◌∷◌, ◌++◌, Option, Some, None}
use Rattle.xan_read.specs.Reader.{Read}
use Rattle.proof_lines.specs.declared.line.Line.{Line}
use Rattle.dtal_code.specs.declared.instruction.Instr.{Instr}
use Rattle.dtal_code.specs.declared.program.Block.{Block}
use Rattle.dtal_text.specs.declared.line.BodyLine.{BodyLine}
use Rattle.dtal_text.specs.declared.building.Building.{Building}
use Rattle.dtal_text.specs.Chains.{into}
use Rattle.dtal_text.specs.OperandReading.{Way}
use Rattle.dtal_text.specs.ProgramReading.{Gathered, gathered}

-- the last instruction, with these lines of proofs
abbrev pub ended : Option Way → List (List Line) → List Instr
ended None by = []
ended (Some way) by = record { op = way.0; edge = way.1; by = by } ∷ []

-- the last instruction and those behind it, where more lines of proofs come first
abbrev pub code_behind : Option Way → List (List Line) → Gathered → List Instr
code_behind None by g = g.code
code_behind (Some way) by g = record { op = way.0; edge = way.1; by = by ++ g.by } ∷ g.code

-- all blocks, with what the lines behind these make
abbrev pub joined : Building → Gathered → List Block
joined b g = b.blocks.items ++ (record { state = b.state; code = b.code.items ++ code_behind b.last b.by.items g } ∷ g.blocks)

abbrev pub nothing : Gathered
nothing = record { by = []; code = []; blocks = [] }

-- all blocks, with what the lines make that are read
abbrev pub built : Building → Read (List BodyLine) → Read (List Block)
built b read = into (λ ls. joined b (gathered ls)) read

-- no line has come
pub record IsNew (b : Building) : Type 0 where
  pub blocks : b.blocks.items ≡ []
  pub state : b.state ≡ None
  pub code : b.code.items ≡ []
  pub last : b.last ≡ None
