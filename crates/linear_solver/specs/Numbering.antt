-- How the rows of a reduced system get their steps.
use Rattle.std.specs.Prelude.{ℕ, ℤ, pos, List, [], ◌∷◌, ◌++◌, length, int_lt, if◌then◌else◌}
use Rattle.solver_rows.specs.declared.step.Step.{Step}
use Rattle.solver_rows.specs.declared.step.Step.TheVariants.{Cut}
use Rattle.solver_rows.specs.declared.source.Source.{Source}
use Rattle.solver_rows.specs.declared.source.Source.TheVariants.{Line, New}
use Rattle.solver_rows.specs.SystemRows.{Row}

-- the steps with that of a row, unless it is there, and the number of the step that gives the row
abbrev pub with_source : List Step → Source → List Step
with_source steps (Line n) = steps
with_source steps (New s) = steps ++ s ∷ []

abbrev pub source_line : List Step → Source → ℕ
source_line steps (Line n) = n
source_line steps (New s) = length steps

-- and behind it the step that divides the row by a number above 1
abbrev pub with_cut : List Step → ℕ → ℤ → List Step
with_cut steps line by = if int_lt (pos 1) by then steps ++ Cut line by ∷ [] else steps

abbrev pub cut_line : List Step → ℕ → ℤ → ℕ
cut_line steps line by = if int_lt (pos 1) by then length steps else line

abbrev pub steps_with : List Step → Source → ℤ → List Step
steps_with steps source by = with_cut (with_source steps source) (source_line steps source) by

abbrev pub line_with : List Step → Source → ℤ → ℕ
line_with steps source by = cut_line (with_source steps source) (source_line steps source) by

-- the row as one that a step gives
abbrev pub at_line : ℕ → Row → Row
at_line line r = record { terms = r.terms; constant = r.constant; source = Line line; by = pos 1 }

-- the rows of a system, and all steps so far
pub record System : Type 0 where
  pub steps : List Step
  pub rows : List Row

-- each row in order gets its steps, behind rows that have theirs
unfoldable pub numbered : List Step → List Row → List Row → System
numbered steps done [] = record { steps = steps; rows = done }
numbered steps done (r ∷ rows) = numbered (steps_with steps r.source r.by) (done ++ at_line (line_with steps r.source r.by) r ∷ []) rows
