use Rattle.std.proofs.Common.{◌+◌, ◌<◌, arith}
use Rattle.expression_elaborator.specs.Views.{state_of}
use Rattle.join_elaborator.proofs.JoinFailures.{too_many_fresh}
use Rattle.join_elaborator.proofs.renewing.add_fresh.Goals as goal

pub returns-in_default-clause-moved : goal.returns-in_default-clause-moved
returns-in_default-clause-moved c =
    let far : 1024 < c.args.count + c.args.others = omega (arith, c.in_default.ensures {u = tt}) in
    too_many_fresh (c.args.count + c.args.others) (state_of c.args.st.now) far

pub returns-in_default-checked_add-clause-moved : goal.returns-in_default-checked_add-clause-moved
returns-in_default-checked_add-clause-moved c =
    let same = c.in-Ok.ensures {u = tt} in
    let far : 1024 < c.args.count + c.args.others = omega (arith, same.1, c.in_default-checked_add.ensures {u = tt}) in
    too_many_fresh (c.args.count + c.args.others) (state_of c.args.st.now) far
