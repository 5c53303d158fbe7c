use Rattle.std.proofs.Common.{sym}
use Rattle.proof_lines.proofs.FilledCells.{blank_at}
use Rattle.proof_lines.proofs.checker.fill_cut.Goals as goal

pub divide-requires-clause-row : goal.divide-requires-clause-row
divide-requires-clause-row c = blank_at _ _ _ _ c.requires.rows (sym c.in-Some.ensures.row)
