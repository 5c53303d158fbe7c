-- The first bad line and its first reason, as a function.
use Rattle.std.specs.Prelude.{ℕ, suc, ℤ, pos, Bool, false, ◌&&◌, List, [], ◌∷◌, ◌++◌, length, nat_lt, int_le, Option, Some, None, slice_get, Result, Ok, Err, if◌then◌else◌}
use Rattle.std.specs.List.{list_any}
use Rattle.xan_lin.specs.Linear.{Linear, are_within}
use Rattle.index_sorts.specs.Known.{same_form}
use Rattle.proof_lines.specs.declared.line.Line.{Line}
use Rattle.proof_lines.specs.declared.line.Line.TheVariants.{Hyp, Goal, Comb, Cut}
use Rattle.proof_lines.specs.declared.bad_line.BadLine.{BadLine}
use Rattle.proof_lines.specs.declared.bad_line.Why.{Why}
use Rattle.proof_lines.specs.declared.bad_line.Why.TheVariants as why
use Rattle.proof_lines.specs.Rows.{opposite_of, combination_of, divides, cut_of, is_refutation}
use Rattle.proof_lines.specs.Variables.{with_terms, variables}

-- ---- one line

abbrev pub is_listed : Linear → List Linear → Bool
is_listed e hyps = list_any (same_form e) hyps

-- what a row at a place gives, where there is one
abbrev pub with_row : Option Linear → (Linear → Result Linear Why) → Result Linear Why
with_row None f = Err why.NoSuchRow
with_row (Some row) f = f row

-- the row, where its numbers are within the bound and it makes at most 64 variables of those so far
abbrev pub bounded : List ℕ → Linear → Result Linear Why
bounded seen row =
    if are_within row.terms row.constant
    then (if nat_lt 64 (length (with_terms seen row.terms)) then Err why.Variables else Ok row)
    else Err why.TooLarge

abbrev pub is_positive : ℤ → Bool
is_positive n = int_le (pos 1) n

-- the row that the line gives behind these rows, with these variables, or the first reason why there is none
unfoldable pub row_given : List Linear → Linear → List Linear → List ℕ → Line → Result Linear Why
row_given hyps goal rows seen (Hyp e) = if is_listed e hyps then bounded seen e else Err why.NotInContext
row_given hyps goal rows seen Goal = bounded seen (opposite_of goal)
row_given hyps goal rows seen (Comb left_by left right_by right) =
    with_row (slice_get rows left) (λ x. with_row (slice_get rows right) (λ y.
    if is_positive left_by && is_positive right_by then bounded seen (combination_of left_by x right_by y) else Err why.Multiplier))
row_given hyps goal rows seen (Cut from by) =
    with_row (slice_get rows from) (λ x.
    if is_positive by then (if divides by x.terms then bounded seen (cut_of x by) else Err why.NotDivisible) else Err why.Multiplier)

-- ---- all lines

abbrev pub ends_refuted : List Linear → Bool
ends_refuted [] = false
ends_refuted (row ∷ []) = is_refutation row
ends_refuted (_ ∷ row ∷ rows) = ends_refuted (row ∷ rows)

-- what comes of the row that a line gave, or the line as a bad one
abbrev pub goes_on : ℕ → Result Linear Why → (Linear → Result (Unit {0}) BadLine) → Result (Unit {0}) BadLine
goes_on at (Err reason) f = Err (record { at = at; why = reason })
goes_on at (Ok row) f = f row

-- the check of the lines from number `at` on, behind the rows of those before
unfoldable pub checked_from : List Linear → Linear → ℕ → List Linear → List Line → Result (Unit {0}) BadLine
checked_from hyps goal at rows [] = if ends_refuted rows then Ok tt else Err (record { at = at; why = why.NotRefuted })
checked_from hyps goal at rows (line ∷ lines) =
    goes_on at (row_given hyps goal rows (variables rows) line) (λ row. checked_from hyps goal (suc at) (rows ++ row ∷ []) lines)

-- Ok where the lines prove the goal, else the first bad line and the first reason
abbrev pub checked : List Linear → Linear → List Line → Result (Unit {0}) BadLine
checked hyps goal lines = checked_from hyps goal 0 [] lines
