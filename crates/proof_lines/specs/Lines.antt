-- What it is that lines prove a goal from hypotheses.
use Rattle.std.specs.Prelude.{◌≡◌, ℕ, ◌≤◌, ℤ, pos, ◌≤ℤ◌, IsTrue, List, [], ◌∷◌, ◌++◌, length, Some, slice_get}
use Rattle.std.specs.List.{Contains}
use Rattle.xan_lin.specs.Linear.{Linear, are_within}
use Rattle.proof_lines.specs.declared.line.Line.{Line}
use Rattle.proof_lines.specs.declared.line.Line.TheVariants.{Hyp, Goal, Comb, Cut}
use Rattle.proof_lines.specs.Rows.{opposite_of, combination_of, divides, cut_of, IsRefutation}
use Rattle.proof_lines.specs.Variables.{variables}

-- the sum of two earlier rows, each times a multiplier of at least 1
pub record IsCombination (rows : List Linear) (left_by : ℤ) (left : ℕ) (right_by : ℤ) (right : ℕ) (row : Linear) : Type 0 where
  pub left_row : Linear
  pub right_row : Linear
  pub left_is : slice_get rows left ≡ Some left_row
  pub right_is : slice_get rows right ≡ Some right_row
  pub left_positive : pos 1 ≤ℤ left_by
  pub right_positive : pos 1 ≤ℤ right_by
  pub row_is : row ≡ combination_of left_by left_row right_by right_row

-- an earlier row over a divisor of at least 1 that divides its coefficients
pub record IsCut (rows : List Linear) (from : ℕ) (by : ℤ) (row : Linear) : Type 0 where
  pub from_row : Linear
  pub from_is : slice_get rows from ≡ Some from_row
  pub positive : pos 1 ≤ℤ by
  pub divided : IsTrue (divides by from_row.terms)
  pub row_is : row ≡ cut_of from_row by

-- from the hypotheses, the goal and the rows of the lines before it, the line gives the row
abbrev pub LineGives : List Linear → Linear → List Linear → Line → Linear → Type 0
LineGives hyps goal rows (Hyp e) row = Contains hyps e × (row ≡ e)
LineGives hyps goal rows Goal row = row ≡ opposite_of goal
LineGives hyps goal rows (Comb left_by left right_by right) row = IsCombination rows left_by left right_by right row
LineGives hyps goal rows (Cut from by) row = IsCut rows from by row

-- each number of the row is within the bound of forms
abbrev pub IsSmall : Linear → Type 0
IsSmall row = IsTrue (are_within row.terms row.constant)

-- behind the rows of earlier lines, each of the lines gives one of the rows
abbrev pub LinesGive : List Linear → Linear → List Linear → List Line → List Linear → Type 0
LinesGive hyps goal before [] rows = rows ≡ []
LinesGive hyps goal before (line ∷ lines) [] = ⊥
LinesGive hyps goal before (line ∷ lines) (row ∷ rows) = LineGives hyps goal before line row × IsSmall row × LinesGive hyps goal (before ++ row ∷ []) lines rows

-- there is a last row, and it cannot hold
pub record EndsRefuted (rows : List Linear) : Type 0 where
  pub before : List Linear
  pub last : Linear
  pub rows_are : rows ≡ before ++ last ∷ []
  pub refuted : IsRefutation last

-- the lines prove the goal from the hypotheses
pub record LinesProve (hyps : List Linear) (goal : Linear) (lines : List Line) : Type 0 where
  pub rows : List Linear
  pub given : LinesGive hyps goal [] lines rows
  pub few_variables : length (variables rows) ≤ 64
  pub ends : EndsRefuted rows
