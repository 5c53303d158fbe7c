use Rattle.std.proofs.Common.{arith}
use Rattle.value_lowering.proofs.EmittedCode.{links_step}
use Rattle.value_lowering.proofs.values.+values.Goals as goal

pub links-loop-op-preserved : goal.links-loop-op-preserved
links-loop-op-preserved t c = record {
  count = omega (arith, c.loop-op.invariant.count);
  between = c.loop-op.invariant.between;
  deeper = c.loop-op.invariant.deeper;
  code = links_step _ c.args.rest.now c.loop-op.op-index c.loop-op-item.result c.loop-op.at c.loop-op.from c.args.depth c.args.to c.loop-op.many
      c.in_ok-between.between c.in_ok-deeper.deeper c.in_ok-right.right c.result_place-result.result c.op_of.result c.loop-op.code.items c.operand.new.code.items _ _
      (omega (arith, c.loop-op-test.true)) c.loop-op-item.is c.loop-op.invariant.count c.loop-op.invariant.between c.loop-op.invariant.deeper
      c.loop-op.invariant.code c.in_ok-right.ensures.code c.in_ok-right.ensures.place c.result_place-result.ensures c.op_of.ensures c.in_ok-emit.ensures;
}
