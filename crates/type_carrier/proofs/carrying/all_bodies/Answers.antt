use Rattle.type_carrier.specs.ProvedRows.{proofs_in}
use Rattle.type_carrier.proofs.CarriedLoops.{functions_turn}
use Rattle.type_carrier.proofs.carrying.all_bodies.Goals as goal

pub functions-preserved : goal.functions-preserved
functions-preserved c =
    functions_turn (proofs_in c.args.goals.now c.args.lines.now) c.functions.funs_left.now c.functions.columns_left.now c.fun-item.result c.columns-item.result _ _ _ _
    c.in-len1-up.len_at_least c.fun-item.is c.in-len1-up-columns_left.len_at_least c.columns-item.is c.as_slice.ensures c.in_ok-rest.ensures c.functions.invariant
