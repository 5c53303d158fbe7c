use Rattle.std.proofs.Common.{◌≡◌, ◌-◌, drop, length}
use Rattle.lowering.specs.Emitted.{completes_behind}
use Rattle.xanadu_tree.specs.BodyRules.{completes_all}
use Rattle.xanadu_tree.specs.PlainOf.{plain_block}
use Rattle.lowering.proofs.blocks.+completing.Given as goal

abbrev pub invariant-completes_all-loop-s : goal.invariant-completes_all-loop-s
invariant-completes_all-loop-s l = record {
  count : l.many ≡ length l.block - l.s-index;
  same : completes_behind l.found (plain_block (drop l.s-index l.block)) ≡ completes_all (plain_block l.block);
}
