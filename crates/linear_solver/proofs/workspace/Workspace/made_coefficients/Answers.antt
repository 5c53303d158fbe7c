use Rattle.std.proofs.Common.{ap, ◌<◌, length, arith}
use Rattle.linear_solver.proofs.Stores.{there}
use Rattle.linear_solver.proofs.Regions.{count_made, made_live, reads_made}
use Rattle.linear_solver.proofs.workspace.Workspace.made_coefficients.Goals as goal

pub index-requires : goal.index-requires
index-requires c = omega (arith, c.requires, c.self.inside.made.ok, count_made _ _ _ _ _ _ c.self.invariant.lies c.self.view_is)

pub coefficients_of-requires-clause-live : goal.coefficients_of-requires-clause-live
coefficients_of-requires-clause-live c =
    let live : c.args.place < length c.self.inside.made.items = omega (arith, c.requires, count_made _ _ _ _ _ _ c.self.invariant.lies c.self.view_is) in
    let place = made_live _ _ _ _ _ _ c.self.invariant.lies c.self.view_is c.args.place c.index.result.now live in
    omega (arith, place, ap (λ s. s.place) (there c.self.inside.made.items c.args.place _ c.index.result.now live c.index.ensures))

pub returns-clause-linear : goal.returns-clause-linear
returns-clause-linear c =
    let live : c.args.place < length c.self.inside.made.items = omega (arith, c.requires, count_made _ _ _ _ _ _ c.self.invariant.lies c.self.view_is) in
    (reads_made _ _ _ _ _ _ c.self.invariant.lies c.self.view_is c.args.place _ c.coefficients_of.result.now c.index.result.now live (there c.self.inside.made.items c.args.place _ c.index.result.now live c.index.ensures)
    c.len.ensures.value c.coefficients_of.ensures.cells).linear
