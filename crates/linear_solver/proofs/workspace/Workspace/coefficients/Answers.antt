use Rattle.std.proofs.Common.{ap, ◌<◌, length, arith}
use Rattle.linear_solver.proofs.Stores.{there}
use Rattle.linear_solver.proofs.Regions.{count_rows, row_live, reads_row}
use Rattle.linear_solver.proofs.workspace.Workspace.coefficients.Goals as goal

pub index-requires : goal.index-requires
index-requires c = omega (arith, c.requires, c.self.inside.rows.ok, count_rows _ _ _ _ _ _ c.self.invariant.lies c.self.view_is)

pub coefficients_of-requires-clause-live : goal.coefficients_of-requires-clause-live
coefficients_of-requires-clause-live c =
    let live : c.args.at < length c.self.inside.rows.items = omega (arith, c.requires, count_rows _ _ _ _ _ _ c.self.invariant.lies c.self.view_is) in
    let place = row_live _ _ _ _ _ _ c.self.invariant.lies c.self.view_is c.args.at c.index.result.now live in
    omega (arith, place, ap (λ s. s.place) (there c.self.inside.rows.items c.args.at _ c.index.result.now live c.index.ensures))

pub returns-clause-linear : goal.returns-clause-linear
returns-clause-linear c =
    let live : c.args.at < length c.self.inside.rows.items = omega (arith, c.requires, count_rows _ _ _ _ _ _ c.self.invariant.lies c.self.view_is) in
    (reads_row _ _ _ _ _ _ c.self.invariant.lies c.self.view_is c.args.at _ c.coefficients_of.result.now c.index.result.now live (there c.self.inside.rows.items c.args.at _ c.index.result.now live c.index.ensures)
    c.len.ensures.value c.coefficients_of.ensures.cells).linear

pub returns-clause-small : goal.returns-clause-small
returns-clause-small c =
    let live : c.args.at < length c.self.inside.rows.items = omega (arith, c.requires, count_rows _ _ _ _ _ _ c.self.invariant.lies c.self.view_is) in
    (reads_row _ _ _ _ _ _ c.self.invariant.lies c.self.view_is c.args.at _ c.coefficients_of.result.now c.index.result.now live (there c.self.inside.rows.items c.args.at _ c.index.result.now live c.index.ensures)
    c.len.ensures.value c.coefficients_of.ensures.cells).small
