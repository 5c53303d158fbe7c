use Rattle.std.proofs.Common.{◌∙◌, ◌+ℤ◌, ◌*ℤ◌, ap, get_or, rules, w64, FitsSigned}
use Rattle.std.proofs.lemmas.Int.{to_z-of_z}
use Rattle.xan_lin.specs.Terms.{no_term}
use Rattle.xan_lin.specs.Wide.{whole}
use Rattle.xan_lin.proofs.TermValues.{one_more}
use Rattle.xan_lin.proofs.ReplacedTerms.{adds_constant, constants_added}
use Rattle.xan_lin.proofs.replace.constant_after.Goals as goal

pub loop-term-preserved : goal.loop-term-preserved
loop-term-preserved c =
    let fits : FitsSigned w64 c.constant_of_variable-each.result = search rules in
    let each_is = to_z-of_z w64 c.constant_of_variable-each.result fits ∙ c.constant_of_variable-each.ensures in
    record {
      same = adds_constant _ _ _ c.args.terms.now c.args.values.now c.args.below c.loop-term.term-index c.loop-term-test.true
          (c.plus_product-value.ensures.exact ∙ ap (λ n. whole c.loop-term.value +ℤ ((get_or c.args.terms.now c.loop-term.term-index no_term).coef *ℤ n)) each_is)
          c.loop-term.invariant.same;
      small = one_more _ _ _ c.loop-term.invariant.small c.plus_product-value.ensures.grows;
    }

pub returns-clause-exact : goal.returns-clause-exact
returns-clause-exact c = constants_added _ _ c.args.terms.now c.args.values.now c.args.below c.loop-term.term-index c.loop-term-test.false c.loop-term.invariant.same
