use Rattle.std.proofs.Common.{◌<◌, length, arith}
use Rattle.linear_solver.proofs.Stores.{there}
use Rattle.linear_solver.proofs.Regions.{count_made, made_signs}
use Rattle.solver_rows.proofs.SignLemmas.{signs_differ}
use Rattle.linear_solver.proofs.workspace.Workspace.has_signs.Goals as goal

pub index-requires : goal.index-requires
index-requires c = omega (arith, c.requires, c.self.inside.made.ok, count_made _ _ _ _ _ _ c.self.invariant.lies c.self.view_is)

pub returns : goal.returns
returns c ts signed none =
    let live : c.args.place < length c.self.inside.made.items = omega (arith, c.requires, count_made _ _ _ _ _ _ c.self.invariant.lies c.self.view_is) in
    signs_differ _ _ c.args.self.now.vars _ ts c.are_same.result
    (made_signs _ _ _ _ _ _ c.self.invariant.lies c.self.view_is c.args.place c.index.result.now live (there c.self.inside.made.items c.args.place _ c.index.result.now live c.index.ensures))
    signed c.are_same.ensures none
