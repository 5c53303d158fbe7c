use Rattle.std.proofs.Common.{arith}
use Rattle.state_types.proofs.ValueLists.{value_made, values_made, values_rise}
use Rattle.state_types.proofs.values.values_for.Goals as goal

pub loop-var-preserved : goal.loop-var-preserved
loop-var-preserved c =
    value_made c.loop-var.values.items _ _ c.loop-var.var c.args.vars c.value_for.result c.args.pairs.now (omega arith) c.value_for.ensures c.in-Ok.ensures.items c.loop-var.invariant

pub returns-clause-values : goal.returns-clause-values
returns-clause-values c = values_made c.loop-var.values.items _ c.loop-var.var c.args.vars c.args.pairs.now (omega arith) c.loop-var.invariant

pub returns-clause-rising : goal.returns-clause-rising
returns-clause-rising c = values_rise c.loop-var.values.items c.args.below c.args.vars c.loop-var.var c.args.pairs.now (omega arith) c.loop-var.invariant
