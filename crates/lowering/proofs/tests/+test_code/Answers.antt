use Rattle.std.proofs.Common.{arith}
use Rattle.lowering.proofs.EmittedTests.{code_step, labels_step}
use Rattle.lowering.proofs.tests.+test_code.Goals as goal

pub all-loop-part-preserved : goal.all-loop-part-preserved
all-loop-part-preserved t c = record {
  count = omega (arith, c.loop-part.invariant.count);
  code = code_step c.args.vars c.args.parts.now c.loop-part.part-index c.part-item.result c.args.inner c.args.last c.turn-asked.result c.args.inner_to c.args.last_to
      c.turn_to-goes.result c.loop-part.here c.loop-part.many c.in_ok-size.size c.in_ok-here.here (omega (arith, c.loop-part-test.true)) c.part-item.is
      c.loop-part.invariant.count c.turn-asked.ensures c.turn_to-goes.ensures c.in_ok-size.ensures c.in_ok-here.ensures
      c.loop-part.code.items _ _ c.in_ok-test.ensures.code c.loop-part.invariant.code;
  labels = labels_step c.args.vars c.args.parts.now c.loop-part.part-index c.part-item.result c.args.inner c.args.last c.turn-asked.result c.args.inner_to c.args.last_to
      c.turn_to-goes.result c.loop-part.here c.loop-part.many c.in_ok-size.size c.in_ok-here.here (omega (arith, c.loop-part-test.true)) c.part-item.is
      c.loop-part.invariant.count c.turn-asked.ensures c.turn_to-goes.ensures c.in_ok-size.ensures c.in_ok-here.ensures
      c.loop-part.labels.items _ _ c.in_ok-test.ensures.labels c.loop-part.invariant.labels;
}
