use Rattle.std.proofs.Common.{arith}
use Rattle.solver_rows.proofs.CellSums.{adds_first, adds_past_first, adds_next, adds_past_next, adds_all}
use Rattle.solver_rows.proofs.cells.combine.Goals as goal

pub returns-in_default : goal.returns-in_default
returns-in_default c = adds_past_first _ _ _ _ _ _ _ c.clear.ensures c.requires.alike (c.in_default.ensures {u = tt})

pub cells-init : goal.cells-init
cells-init c =
    let first = c.in-Some.ensures {u = tt} in
    adds_first _ _ _ _ _ _ _ _ c.clear.ensures c.requires.alike first.0 first.1

pub returns-in_default-put_sum : goal.returns-in_default-put_sum
returns-in_default-put_sum c = adds_past_next _ _ _ _ _ _ _ _ c.cells.invariant c.cells-test.true c.requires.alike (c.in_default-put_sum.ensures {u = tt})

pub cells-preserved : goal.cells-preserved
cells-preserved c =
    let more = c.in-Some-put_sum.ensures {u = tt} in
    adds_next _ _ _ _ _ _ _ _ _ c.cells.invariant c.cells-test.true c.requires.alike more.0 more.1

pub returns : goal.returns
returns c = adds_all _ _ _ _ _ _ c.cells.invariant (let end = c.cells-test.false in omega arith)
