use Rattle.std.proofs.Common.{◌<◌, length, arith}
use Rattle.linear_solver.proofs.Stores.{there}
use Rattle.linear_solver.proofs.Regions.{count_rows, row_signs}
use Rattle.linear_solver.proofs.workspace.Workspace.signs.Goals as goal

pub index-requires : goal.index-requires
index-requires c = omega (arith, c.requires, c.self.inside.rows.ok, count_rows _ _ _ _ _ _ c.self.invariant.lies c.self.view_is)

pub returns : goal.returns
returns c =
    let live : c.args.at < length c.self.inside.rows.items = omega (arith, c.requires, count_rows _ _ _ _ _ _ c.self.invariant.lies c.self.view_is) in
    row_signs _ _ _ _ _ _ c.self.invariant.lies c.self.view_is c.args.at c.index.result.now live (there c.self.inside.rows.items c.args.at _ c.index.result.now live c.index.ensures)
