-- What steps mean as lines of a proof.
use Rattle.std.specs.Prelude.{List, map}
use Rattle.std.specs.List.{slice_index_or}
use Rattle.xan_lin.specs.Linear.{Linear}
use Rattle.xan_lin.specs.Subst.{zero_form}
use Rattle.proof_lines.specs.declared.line.Line.{Line}
use Rattle.proof_lines.specs.declared.line.Line.TheVariants as line
use Rattle.solver_rows.specs.declared.step.Step.{Step}
use Rattle.solver_rows.specs.declared.step.Step.TheVariants.{Hyp, Goal, Comb, Cut}

-- the line of a step; a number past the hypotheses stands for the row 0
abbrev pub line_meant : List Linear → Step → Line
line_meant hyps (Hyp row) = line.Hyp (slice_index_or hyps row zero_form)
line_meant hyps Goal = line.Goal
line_meant hyps (Comb left_by left right_by right) = line.Comb left_by left right_by right
line_meant hyps (Cut row by) = line.Cut row by

abbrev pub lines_meant : List Linear → List Step → List Line
lines_meant hyps steps = map (line_meant hyps) steps
