use Rattle.std.proofs.Common.{◌∙◌, length, ap}
use Rattle.xan_lin.proofs.ReplacedTerms.{replacement-listed, replacement-kept, replacement-zero}
use Rattle.xan_lin.proofs.replace.count_for_variable.Goals as goal

pub returns-in-Some-clause-exact : goal.returns-in-Some-clause-exact
returns-in-Some-clause-exact c =
    let is = replacement-listed c.args.values.now c.args.below c.args.var c.in-Some.form.now (c.in-Some.ensures {u = tt}) in
    ap length (c.terms.ensures.terms ∙ ap (λ form. form.terms) is)

pub returns-in-None-clause-exact : goal.returns-in-None-clause-exact
returns-in-None-clause-exact c =
    ap (λ form. length form.terms) (replacement-kept c.args.values.now c.args.below c.args.var (c.in-None.ensures {u = tt}) c.if-var-below.true)

pub returns-in-None-2-clause-exact : goal.returns-in-None-2-clause-exact
returns-in-None-2-clause-exact c =
    ap (λ form. length form.terms) (replacement-zero c.args.values.now c.args.below c.args.var (c.in-None-2.ensures {u = tt}) c.if-var-below.false)
