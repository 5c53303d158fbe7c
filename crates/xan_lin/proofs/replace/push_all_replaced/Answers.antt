use Rattle.std.proofs.Common.{length, drop, ap, arith, rules}
use Rattle.std.proofs.lemmas.List.{length-append, length-map}
use Rattle.xan_lin.specs.Products.{product_term, product_terms}
use Rattle.xan_lin.specs.Subst.{replaced_terms}
use Rattle.xan_lin.proofs.ReplacedTerms.{one_replaced, all_replaced, replaced-next}
use Rattle.xan_lin.proofs.replace.push_all_replaced.Goals as goal

pub loop-term-preserved : goal.loop-term-preserved
loop-term-preserved g c =
    one_replaced (product_terms c.loop-term.made.items) _ _ c.args.terms.now c.args.values.now c.args.below c.loop-term.term-index c.loop-term-test.true c.push_replaced.ensures.terms c.loop-term.invariant

pub returns : goal.returns
returns g c = all_replaced _ _ c.args.terms.now c.args.values.now c.args.below c.loop-term.term-index c.loop-term-test.false c.loop-term.invariant

pub push_replaced-requires : goal.push_replaced-requires
push_replaced-requires g c =
    let at = c.loop-term.term-index in
    let made = c.loop-term.made.items in
    let left = replaced_terms c.args.values.now c.args.below (drop at c.args.terms.now) in
    let next = replaced-next c.args.terms.now c.args.values.now c.args.below at c.loop-term-test.true in
    let whole = ap length c.loop-term.invariant in
    let split = length-append (product_terms made) left in
    let same = length-map made product_term in
    (search rules, (omega (arith, c.requires.room, next, whole, split, same), c.requires.rising))
