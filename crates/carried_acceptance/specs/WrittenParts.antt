-- What has to be known of the numbers of code and of proofs so that they can be written: what the types of their parts in memory grant, and that no
-- proof has more lines than the text can number.
use Rattle.std.specs.Prelude.{◌≤◌, FitsSigned, List, length}
use Rattle.std.specs.Int.{w64}
use Rattle.std.specs.List.{All}
use Rattle.proof_lines.specs.declared.line.Line.{Line}
use Rattle.proof_lines.specs.declared.line.Line.TheVariants.{Hyp, Goal, Comb, Cut}
use Rattle.three_address.specs.declared.function.LowFun.{LowFun}
use Rattle.three_address.specs.declared.function.Lowered.{Lowered}
use Rattle.three_address.specs.declared.instruction.LowInstr.{LowInstr}
use Rattle.dtal_code.specs.Grammar.{IsNumber}
use Rattle.dtal_code.specs.declared.limits.TheConstants.{LAST_NUMBER}

-- a number of 64 bits, and one of a label or a function of 32
pub record HasNumbers (instr : LowInstr) : Type 0 where
  pub number : FitsSigned w64 instr.number
  pub target : IsNumber instr.target

abbrev pub HaveNumbers : LowFun → Type 0
HaveNumbers fun = All HasNumbers fun.code

-- multipliers and divisors of 64 bits
abbrev pub HasMultipliers : Line → Type 0
HasMultipliers (Hyp e) = Unit {0}
HasMultipliers Goal = Unit {0}
HasMultipliers (Comb left_by left right_by right) = FitsSigned w64 left_by × FitsSigned w64 right_by
HasMultipliers (Cut row by) = FitsSigned w64 by

abbrev pub HaveMultipliers : List Line → Type 0
HaveMultipliers lines = All HasMultipliers lines

-- so of all code, and of the lines of each goal
pub record AreWritten (low : Lowered) (proofs : List (List Line)) : Type 0 where
  pub numbers : All HaveNumbers low.funs
  pub short : All (λ lines. length lines ≤ LAST_NUMBER) proofs
  pub multipliers : All HaveMultipliers proofs
