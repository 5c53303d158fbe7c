use Rattle.std.proofs.Common.{sym, ◌∙◌}
use Rattle.proof_lines.proofs.Lasts.{last_is}
use Rattle.proof_lines.proofs.checker.ends_refuted.Goals as goal

pub returns-then-count-base : goal.returns-then-count-base
returns-then-count-base c = c.is_impossible.ensures ∙ sym (last_is c.args.pool.now.rows c.args.base _ _ c.mark-count.ensures.live c.if-count-base.true c.row.ensures.cells)
