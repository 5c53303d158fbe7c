use Rattle.std.proofs.Common.{rules, FitsSigned}
use Rattle.std.specs.Int.{w128}
use Rattle.std.proofs.lemmas.Int.{to_z-of_z}
use Rattle.type_shapes.specs.Linears.{linear}
use Rattle.type_shapes.proofs.form.Form.linear.Goals as goal

pub returns : goal.returns
unfolding linear
returns c =
    let fits : FitsSigned w128 c.args.self.now.constant = search rules in
    rw (to_z-of_z w128 c.args.self.now.constant fits) (search rules)
