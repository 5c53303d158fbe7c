use Rattle.std.proofs.Common.{sym}
use Rattle.proof_lines.proofs.FilledCells.{blank_at}
use Rattle.proof_lines.proofs.checker.fill_combination.Goals as goal

pub combine-requires-clause-left : goal.combine-requires-clause-left
combine-requires-clause-left c = blank_at _ _ _ _ c.requires.rows (sym c.in-Some.ensures.row)

pub combine-requires-clause-right : goal.combine-requires-clause-right
combine-requires-clause-right c = blank_at _ _ _ _ c.requires.rows (sym c.in-Some-row_at.ensures.row)
