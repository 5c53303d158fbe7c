use Rattle.std.proofs.Common.{◌∙◌, sym, ap}
use Rattle.xan_lin.specs.Linear.{is_within}
use Rattle.solver_rows.proofs.CellSums.{sum_none}
use Rattle.solver_rows.proofs.cells.sum_of.Goals as goal

pub returns-then-are_zero : goal.returns-then-are_zero
returns-then-are_zero c =
    let none = sum_none c.args.left.now c.args.right.now c.args.by.now.first c.args.by.now.second (sym c.are_zero.ensures ∙ c.if-are_zero.true) in
    (sym none, ap is_within none)
