use Rattle.std.proofs.Common.{sym, ◌∙◌}
use Rattle.xan_read.proofs.DigitRanges.{digits_step}
use Rattle.xan_read.proofs.numbers.digits_behind.Goals as goal

pub digits-preserved : goal.digits-preserved
digits-preserved c = record {
  positive = c.in-Some.ensures.positive;
  still = digits_step c.args.low c.args.high c.digits.value c.digits.rest.now (c.in-Some.more, c.in-Some.others.now) (sym c.in-Some.ensures.digit) ∙ c.digits.invariant.still;
}
