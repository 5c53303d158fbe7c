use Rattle.std.proofs.Common.{refl, sym, subst, ◌∙◌, ◌<◌, ap, set, length, arith}
use Rattle.solver_rows.specs.declared.side.Side.{Side}
use Rattle.solver_rows.specs.RowsInCells.{row_in, IsSigned}
use Rattle.linear_solver.specs.Region.{Work}
use Rattle.linear_solver.proofs.Stores.{there_too}
use Rattle.linear_solver.proofs.Regions.{count_made, Replaced}
use Rattle.linear_solver.proofs.PlacedRows.{set_work}
use Rattle.linear_solver.proofs.workspace.Workspace.replace.Goals as goal

pub index-requires : goal.index-requires
index-requires c = omega (arith, c.requires.same.0, c.self.inside.made.ok, count_made _ _ _ _ _ _ c.self.invariant.lies c.self.view_is)

pub index_mut-requires : goal.index_mut-requires
index_mut-requires c = omega (arith, c.requires.same.0, c.self.inside.made.ok, count_made _ _ _ _ _ _ c.self.invariant.lies c.self.view_is)

pub invariant_of-self : goal.invariant_of-self
invariant_of-self c =
    let live : c.args.place < length c.self.inside.made.items = omega (arith, c.requires.same.0, count_made _ _ _ _ _ _ c.self.invariant.lies c.self.view_is) in
    let p : Replaced c.self.inside.pool c.self.inside.base c.self.inside.vars.items c.self.inside.rows.items c.self.inside.made.items (set c.self.inside.made.items c.args.place c.stored.result) c.args.place
    c.args.row.now.cells.items c.stored.result = record {
      lies = c.self.invariant.lies;
      live = live;
      first = c.stored.ensures.constant;
      at = there_too c.self.inside.made.items c.args.place _ c.index.result.now c.stored.result live c.index.ensures c.stored.ensures.place;
      after_is = refl;
    } in
    let q = set_work _ _ _ _ _ _ _ _ _ c.args.self.now p c.self.view_is c.requires.same c.requires.settled
    (subst (λ (s : Side). IsSigned c.args.self.now.vars c.args.row.now.cells.items s) (sym c.stored.ensures.side) c.requires.signed) in
    record {
      lies = q.0;
      room_rows = c.self.invariant.room_rows;
      room_made = c.self.invariant.room_made;
    }

pub returns : goal.returns
returns c =
    let live : c.args.place < length c.self.inside.made.items = omega (arith, c.requires.same.0, count_made _ _ _ _ _ _ c.self.invariant.lies c.self.view_is) in
    let p : Replaced c.self.inside.pool c.self.inside.base c.self.inside.vars.items c.self.inside.rows.items c.self.inside.made.items (set c.self.inside.made.items c.args.place c.stored.result) c.args.place
    c.args.row.now.cells.items c.stored.result = record {
      lies = c.self.invariant.lies;
      live = live;
      first = c.stored.ensures.constant;
      at = there_too c.self.inside.made.items c.args.place _ c.index.result.now c.stored.result live c.index.ensures c.stored.ensures.place;
      after_is = refl;
    } in
    let q = set_work _ _ _ _ _ _ _ _ _ c.args.self.now p c.self.view_is c.requires.same c.requires.settled
    (subst (λ (s : Side). IsSigned c.args.self.now.vars c.args.row.now.cells.items s) (sym c.stored.ensures.side) c.requires.signed) in
    q.1 ∙ ap (λ s. let w : Work = record c.args.self.now { made = set c.args.self.now.made c.args.place (row_in c.args.self.now.vars c.args.row.now.cells.items s) } in w) c.stored.ensures.side
