use Rattle.xan_lin.proofs.TermValues.{adds_value, values_added, one_more}
use Rattle.xan_lin.proofs.evaluate.value_of_all.Goals as goal

pub loop-term-preserved : goal.loop-term-preserved
loop-term-preserved c = record {
  same = let h = c.plus_product-value.ensures.exact in adds_value _ _ _ c.loop-term.term-index c.args.values.now c.args.terms.now c.loop-term-test.true h c.loop-term.invariant.same;
  small = one_more _ _ _ c.loop-term.invariant.small c.plus_product-value.ensures.grows;
}

pub returns-clause-exact : goal.returns-clause-exact
returns-clause-exact c = values_added _ _ c.loop-term.term-index c.args.values.now c.args.terms.now c.loop-term-test.false c.loop-term.invariant.same
