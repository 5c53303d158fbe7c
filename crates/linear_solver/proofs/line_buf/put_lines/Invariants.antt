use Rattle.std.proofs.Common.{◌≡◌, take}
use Rattle.linear_solver.specs.Meaning.{lines_meant}
use Rattle.linear_solver.proofs.line_buf.put_lines.Given as goal

abbrev pub invariant-steps : goal.invariant-steps
invariant-steps l = l.lines.items ≡ lines_meant l.hyps (take l.step-index l.steps)
