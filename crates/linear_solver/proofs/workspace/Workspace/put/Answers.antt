use Rattle.std.proofs.Common.{refl, sym, subst, ◌∙◌, ◌++◌, [], ◌∷◌, ap, arith}
use Rattle.solver_rows.specs.declared.side.Side.{Side}
use Rattle.solver_rows.specs.RowsInCells.{row_in, IsSigned}
use Rattle.linear_solver.specs.Region.{Work}
use Rattle.linear_solver.proofs.PlacedRows.{room_left, put_as, put_work}
use Rattle.linear_solver.proofs.workspace.Workspace.put.Goals as goal

pub unreachable-requires : goal.unreachable-requires
unreachable-requires c =
    let room = room_left _ _ _ _ _ _ c.self.invariant.lies c.self.view_is c.requires.room c.requires.few_made in
    omega (arith, room.0, (c.in_default.ensures {u = tt}).full.0 refl)

pub put_stored-requires : goal.put_stored-requires
put_stored-requires c =
    let room = room_left _ _ _ _ _ _ c.self.invariant.lies c.self.view_is c.requires.room c.requires.few_made in
    omega (arith, room.1, c.self.invariant.room_made)

pub invariant_of-self : goal.invariant_of-self
invariant_of-self c =
    let p = put_as _ c.push.new.self _ _ _ _ c.put_stored.new.made.items c.args.row.now.cells.items c.as_slice.result.now c.stored.result _ c.padded.result c.self.invariant.lies c.self.view_is
    c.requires.room c.requires.few_made c.requires.wide c.as_slice.ensures.value c.padded.ensures.front c.stored.ensures.constant (c.stored.ensures.place ∙ c.mark-place.ensures.live) (c.in-Ok.ensures {u = tt}).pushed
    c.put_stored.ensures.items in
    let q = put_work _ _ _ _ _ _ _ c.args.row.now.cells.items c.stored.result _ p c.self.view_is c.requires.other c.requires.settled
    (subst (λ (s : Side). IsSigned c.args.self.now.vars c.args.row.now.cells.items s) (sym c.stored.ensures.side) c.requires.signed) in
    record {
      lies = q.0;
      room_rows = c.self.invariant.room_rows;
      room_made = omega (arith, c.self.invariant.room_made, c.put_stored.ensures.capacity);
    }

pub returns : goal.returns
returns c =
    let p = put_as _ c.push.new.self _ _ _ _ c.put_stored.new.made.items c.args.row.now.cells.items c.as_slice.result.now c.stored.result _ c.padded.result c.self.invariant.lies c.self.view_is
    c.requires.room c.requires.few_made c.requires.wide c.as_slice.ensures.value c.padded.ensures.front c.stored.ensures.constant (c.stored.ensures.place ∙ c.mark-place.ensures.live) (c.in-Ok.ensures {u = tt}).pushed
    c.put_stored.ensures.items in
    let q = put_work _ _ _ _ _ _ _ c.args.row.now.cells.items c.stored.result _ p c.self.view_is c.requires.other c.requires.settled
    (subst (λ (s : Side). IsSigned c.args.self.now.vars c.args.row.now.cells.items s) (sym c.stored.ensures.side) c.requires.signed) in
    q.1 ∙ ap (λ s. let w : Work = record c.args.self.now { made = c.args.self.now.made ++ row_in c.args.self.now.vars c.args.row.now.cells.items s ∷ [] } in w) c.stored.ensures.side
