use Rattle.std.proofs.Common.{◌∙◌, ap, rules, w64, FitsSigned}
use Rattle.std.proofs.lemmas.Int.{to_z-of_z}
use Rattle.xan_lin.proofs.ReplacedTerms.{replacement-listed, constant-unlisted}
use Rattle.xan_lin.proofs.replace.constant_of_variable.Goals as goal

pub returns-in-Some : goal.returns-in-Some
returns-in-Some c =
    let fits : FitsSigned w64 c.constant_part.result = search rules in
    to_z-of_z w64 c.constant_part.result fits ∙ c.constant_part.ensures
    ∙ ap (λ form. form.constant) (replacement-listed c.args.values.now c.args.below c.args.var c.in-Some.form.now (c.in-Some.ensures {u = tt}))

pub returns-in-None : goal.returns-in-None
returns-in-None c = constant-unlisted c.args.values.now c.args.below c.args.var (c.in-None.ensures {u = tt})
