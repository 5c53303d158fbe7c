use Rattle.std.proofs.Common.{arith}
use Rattle.join_elaborator.proofs.Marks.{rest_done}
use Rattle.join_elaborator.proofs.changes.+marks.Goals as goal

pub mark_block-returns : goal.mark_block-returns
mark_block-returns t c = rest_done c.args.block.now c.loop-statement.statement-index c.loop-statement.marks _ (omega (arith, c.loop-statement-test.false)) c.loop-statement.invariant
