use Rattle.std.proofs.Common.{◌+◌, ◌-◌, ◌*◌, sym, ◌∙◌, arith}
use Rattle.xan_read.proofs.DigitRanges.{within_here, within_last, within_step, within_past}
use Rattle.xan_read.proofs.numbers.can_begin.Goals as goal

pub returns-then-meets : goal.returns-then-meets
returns-then-meets c =
    sym (within_here (20 - c.loop.counter) c.args.low c.args.high c.loop.from c.loop.width (sym c.meets.ensures ∙ c.if-meets.true)) ∙ c.loop.invariant.still

pub returns-then-from-high : goal.returns-then-from-high
returns-then-from-high c =
    sym (within_past (20 - c.loop.counter) c.args.low c.args.high c.loop.from c.loop.width (omega arith) (sym c.meets.ensures ∙ c.if-meets.false)) ∙ c.loop.invariant.still

pub loop-preserved : goal.loop-preserved
loop-preserved c = record {
  some = omega (arith, c.loop.invariant.some);
  few = omega (arith, c.loop.invariant.few);
  still = within_step (20 - c.loop.counter) (20 - (c.loop.counter + 1)) c.args.low c.args.high c.loop.from c.loop.width (c.loop.from * 10) (c.loop.width * 10)
      (omega arith) (omega arith) (omega arith) (sym c.meets.ensures ∙ c.if-meets.false) ∙ c.loop.invariant.still;
}

pub returns : goal.returns
returns c = c.meets-2.ensures ∙ sym (within_last (20 - c.loop.counter) c.args.low c.args.high c.loop.from c.loop.width (omega arith)) ∙ c.loop.invariant.still
