use Rattle.std.proofs.Common.{arith}
use Rattle.lowering.proofs.EmittedTests.{size_step}
use Rattle.lowering.proofs.sizes.+tests.Goals as goal

pub parts_size-loop-part-preserved : goal.parts_size-loop-part-preserved
parts_size-loop-part-preserved t c = record {
  count = omega (arith, c.loop-part.invariant.count);
  size = size_step c.args.parts.now c.loop-part.part-index c.part-item.result c.args.inner c.args.last c.turn-asked.result c.loop-part.many c.loop-part.size
      c.in_ok-test_size.field-0 c.in_ok-size.size _ (omega (arith, c.loop-part-test.true)) c.part-item.is c.loop-part.invariant.count c.turn-asked.ensures
      c.in_ok-test_size.ensures c.in_ok-size.ensures c.loop-part.invariant.size;
}
