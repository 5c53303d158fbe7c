use Rattle.std.proofs.Common.{arith}
use Rattle.xan_lin.proofs.ReplacedTerms.{replaced-next, replaced-end}
use Rattle.xan_lin.proofs.replace.count_replaced.Goals as goal

pub loop-term-preserved : goal.loop-term-preserved
loop-term-preserved c =
    let next = replaced-next c.args.terms.now c.args.values.now c.args.below c.loop-term.term-index c.loop-term-test.true in
    record {
      counted = omega (arith, next, c.loop-term.invariant.counted, c.count_for_variable-count.ensures.exact);
      few = omega (arith, c.loop-term.invariant.few, c.count_for_variable-count.ensures.few);
    }

pub returns-clause-exact : goal.returns-clause-exact
returns-clause-exact c =
    omega (arith, replaced-end c.args.terms.now c.args.values.now c.args.below c.loop-term.term-index c.loop-term-test.false, c.loop-term.invariant.counted)
