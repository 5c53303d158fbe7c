use Rattle.std.proofs.Common.{arith}
use Rattle.type_carrier.specs.Views.{sources_of}
use Rattle.type_carrier.proofs.CarriedLoops.{parts_turn}
use Rattle.type_carrier.proofs.tests.+test_walk.Goals as goal

pub all-loop-part-preserved : goal.all-loop-part-preserved
all-loop-part-preserved t c = record {
  count = omega (arith, c.loop-part.invariant.count);
  same = parts_turn (sources_of c.args.site.now) c.args.parts.now c.loop-part.part-index c.part-item.result c.args.inner c.args.last c.turn-asked.result c.loop-part.many _ _ _
      (omega (arith, c.loop-part-test.true)) c.part-item.is c.loop-part.invariant.count c.turn-asked.ensures c.in_ok-left.ensures c.loop-part.invariant.same;
}
