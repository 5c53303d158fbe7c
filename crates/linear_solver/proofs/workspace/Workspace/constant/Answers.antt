use Rattle.std.proofs.Common.{ap, sym, ◌<◌, length, arith}
use Rattle.linear_solver.proofs.Stores.{there}
use Rattle.linear_solver.proofs.Regions.{count_rows, row_beside}
use Rattle.linear_solver.proofs.workspace.Workspace.constant.Goals as goal

pub index-requires : goal.index-requires
index-requires c = omega (arith, c.requires, c.self.inside.rows.ok, count_rows _ _ _ _ _ _ c.self.invariant.lies c.self.view_is)

pub returns : goal.returns
returns c =
    let live : c.args.at < length c.self.inside.rows.items = omega (arith, c.requires, count_rows _ _ _ _ _ _ c.self.invariant.lies c.self.view_is) in
    sym (ap (λ r. r.constant) (row_beside _ _ _ _ _ _ c.self.invariant.lies c.self.view_is c.args.at c.index.result.now live (there c.self.inside.rows.items c.args.at _ c.index.result.now live c.index.ensures)))
