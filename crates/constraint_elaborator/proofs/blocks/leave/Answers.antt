use Rattle.std.proofs.Common.{sym}
use Rattle.constraint_elaborator.proofs.blocks.leave.Goals as goal

pub returns-clause-left : goal.returns-clause-left
returns-clause-left c = rw (sym c.completes_all.ensures, sym c.completes_all-2.ensures) c.after_branches.ensures.left
