use Rattle.xanadu_tree.specs.PlainOf.{plain_block}
use Rattle.constraint_elaborator.proofs.CompletingBlocks.{ends-all}
use Rattle.constraint_elaborator.proofs.blocks.+completes.Goals as goal

pub completes_all-loop-statement-init : goal.completes_all-loop-statement-init
completes_all-loop-statement-init t c = ends-all (plain_block c.args.block.now)
