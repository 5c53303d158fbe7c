use Rattle.std.proofs.Common.{◌++◌, [], ◌∙◌, ap, get_or, rules, w64, FitsSigned}
use Rattle.std.proofs.lemmas.Int.{to_z-of_z}
use Rattle.xan_lin.specs.Terms.{no_term, with_multiple}
use Rattle.xan_lin.proofs.ScaledTerms.{goes_as, fails, ends}
use Rattle.xan_lin.proofs.scale.scaled.Goals as goal

pub returns-in_default : goal.returns-in_default
returns-in_default c = fails _ _ _ _ c.loop-term.invariant c.loop-term-test.true (c.in_default.ensures {u = tt})

pub loop-term-preserved : goal.loop-term-preserved
loop-term-preserved c =
    let f : FitsSigned w64 c.in-Some.coef = search rules in
    let k = c.in-Some.ensures {u = tt} in
    goes_as _ _ _ _ c.in-Some.coef _ c.loop-term.invariant c.loop-term-test.true k.0 k.1
    (c.push_multiple.ensures ∙ ap (λ n. c.loop-term.made.items ++ with_multiple (get_or c.args.terms.now c.loop-term.term-index no_term).var n []) (to_z-of_z w64 c.in-Some.coef f))

pub returns : goal.returns
returns c = (ends _ _ _ _ c.loop-term.invariant c.loop-term-test.false, c.loop-term.invariant.small)
