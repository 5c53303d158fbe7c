-- How long a text may be, and what is said of a program that is accepted.
use Rattle.std.specs.Prelude.{ℕ, ◌+◌, List, [], ◌∷◌, length}
use Rattle.xan_io.specs.declared.files.TheConstants.{READ_MOST}
use Rattle.dtal_code.specs.declared.program.DtalProgram.{DtalProgram}
use Rattle.dtal_code.specs.declared.program.Function.{Function}
use Rattle.dtal_code.specs.Grammar.{size_of}
use Rattle.dtal_driver.specs.declared.answer.Answer.{Answer}
use Rattle.dtal_driver.specs.declared.answer.Answer.TheVariants as answer

-- a text has at most so many bytes
abbrev pub text_most : ℕ
text_most = READ_MOST

-- how many instructions functions have
unfoldable pub instructions_of : List Function → ℕ
instructions_of [] = 0
instructions_of (fun ∷ funs) = size_of fun.blocks + instructions_of funs

abbrev pub accepted_answer : DtalProgram → Answer
accepted_answer program = answer.Accepted (length program.funs) (instructions_of program.funs)
