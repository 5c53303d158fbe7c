-- The reading of functions and of whole programs.
use Rattle.std.specs.Prelude.{ℕ, List, [], ◌∷◌, None, Some, codes}
use Rattle.xan_read.specs.Reader.{Reader}
use Rattle.xan_read.specs.Combinators.{made, behind}
use Rattle.xan_read.specs.Lists.{repeated}
use Rattle.xan_read.specs.Names.{name}
use Rattle.proof_lines.specs.declared.line.Line.{Line}
use Rattle.state_types.specs.declared.closed.Packed.{Packed}
use Rattle.state_types.specs.declared.closed.Signature.{Signature}
use Rattle.dtal_code.specs.declared.instruction.Instr.{Instr}
use Rattle.dtal_code.specs.declared.limits.TheConstants.{LAST_NUMBER, MOST_TYPES}
use Rattle.dtal_code.specs.declared.program.Block.{Block}
use Rattle.dtal_code.specs.declared.program.Function.{Function}
use Rattle.dtal_code.specs.declared.program.DtalProgram.{DtalProgram}
use Rattle.dtal_code.specs.Lower.{keywords}
use Rattle.dtal_text.specs.declared.line.BodyLine.{BodyLine}
use Rattle.dtal_text.specs.declared.line.BodyLine.TheVariants as line_is
use Rattle.dtal_text.specs.Chains.{two}
use Rattle.dtal_text.specs.LineReading.{lines}
use Rattle.dtal_text.specs.TypeReading.{signature, type_line}

-- ---- the blocks that lines are, gathered from the last line on

pub record Gathered : Type 0 where
  -- the lines of proofs behind an instruction that is still to come
  pub by : List (List Line)
  -- the instructions of a block whose label is still to come
  pub code : List Instr
  pub blocks : List Block

abbrev pub with_line : BodyLine → Gathered → Gathered
with_line (line_is.Instr op edge) g = record { by = []; code = record { op = op; edge = edge; by = g.by } ∷ g.code; blocks = g.blocks }
with_line (line_is.By lines) g = record { by = lines ∷ g.by; code = g.code; blocks = g.blocks }
with_line (line_is.Label state) g = record { by = []; code = []; blocks = record { state = Some state; code = g.code } ∷ g.blocks }

unfoldable pub gathered : List BodyLine → Gathered
gathered [] = record { by = []; code = []; blocks = [] }
gathered (l ∷ ls) = with_line l (gathered ls)

abbrev pub blocks_of : Gathered → List Block
blocks_of g = record { state = None; code = g.code } ∷ g.blocks

unfoldable pub blocks : Reader (List Block)
blocks = made (λ ls. blocks_of (gathered ls)) lines

-- ---- functions and programs

abbrev pub function_of : List ℕ × (Signature × List Block) → Function
function_of x = record { name = x.0; sig = x.1.0; blocks = x.1.1 }

-- behind its first byte
unfoldable pub function : Reader Function
function = behind (codes "un ") (made function_of (two (name keywords) (codes " ") (two signature (codes "\n") blocks)))

abbrev pub program_of : List Packed × List Function → DtalProgram
program_of x = record { types = x.0; funs = x.1 }

unfoldable pub program : Reader DtalProgram
program = behind (codes "dtal 1\n") (made program_of (two (repeated 116 MOST_TYPES type_line) [] (repeated 102 LAST_NUMBER function)))
