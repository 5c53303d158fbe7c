use Rattle.std.proofs.Common.{◌≡◌, ◌+◌, drop}
use Rattle.lowering.specs.StatementCode.{block_size}
use Rattle.xanadu_tree.specs.PlainOf.{plain_block}
use Rattle.lowering.proofs.blocks.+lengths.Given as goal

abbrev pub invariant-block_size-loop-s : goal.invariant-block_size-loop-s
invariant-block_size-loop-s l = l.size + block_size (plain_block (drop l.s-index l.block)) ≡ block_size (plain_block l.block)
