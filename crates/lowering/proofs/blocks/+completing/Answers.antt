use Rattle.std.proofs.Common.{arith}
use Rattle.lowering.proofs.EmittedBlocks.{completes_step}
use Rattle.lowering.proofs.blocks.+completing.Goals as goal

pub completes_all-loop-s-preserved : goal.completes_all-loop-s-preserved
completes_all-loop-s-preserved t c = record {
  count = omega (arith, c.loop-s.invariant.count);
  same = completes_step c.args.block.now c.loop-s.s-index c.s-item.result c.loop-s.many c.loop-s.found c.completes_last-found.result _
      (omega (arith, c.loop-s-test.true)) c.s-item.is c.loop-s.invariant.count c.completes_last-found.ensures c.loop-s.invariant.same;
}
