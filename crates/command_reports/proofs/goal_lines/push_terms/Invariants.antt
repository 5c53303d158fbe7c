use Rattle.std.proofs.Common.{◌≡◌, ◌+◌, ◌*◌, ◌≤◌, ◌++◌, length, drop}
use Rattle.xan_lin.specs.Text.{terms_text}
use Rattle.command_reports.proofs.goal_lines.push_terms.Given as goal

abbrev pub invariant-loop-term : goal.invariant-loop-term
invariant-loop-term l =
    (l.line.bytes ++ terms_text (drop l.term-index l.terms) ≡ l.fn.line.bytes ++ terms_text l.terms)
    × (length l.line.bytes ≤ length l.fn.line.bytes + 82 * l.term-index)
