use Rattle.std.proofs.Common.{◌∙◌, ap, length, arith}
use Rattle.linear_solver.proofs.next.has_sign.Goals as goal

pub has-requires : goal.has-requires
has-requires c = omega (arith, c.requires.column, c.vars-vars.ensures.few, ap length c.vars-vars.ensures.vars)

pub returns : goal.returns
returns c = c.has.ensures ∙ c.signs.ensures.sign c.args.sign c.args.column c.requires.column
