use Rattle.std.proofs.Common.{◌∙◌}
use Rattle.linear_solver.proofs.PlacedRows.{begun_lies, begun_is}
use Rattle.linear_solver.proofs.Regions.{idle_is}
use Rattle.linear_solver.proofs.workspace.Workspace.begin.Goals as goal

pub put_risen-requires-clause-none : goal.put_risen-requires-clause-none
put_risen-requires-clause-none c = (idle_is _ _ _ _ _ (c.self.view_is ∙ c.requires.idle) c.self.invariant.lies).1

pub invariant_of-self : goal.invariant_of-self
invariant_of-self c =
    let e = idle_is _ _ _ _ _ (c.self.view_is ∙ c.requires.idle) c.self.invariant.lies in
    record {
      lies = begun_lies _ _ _ _ c.args.vars.now _ _ c.swap.ensures.x_after c.mark.ensures.live c.mark.ensures.within c.requires.width c.put_risen.ensures c.requires.different c.requires.few e.2 e.3;
      room_rows = c.self.invariant.room_rows;
      room_made = c.self.invariant.room_made;
    }

pub returns-clause-lent : goal.returns-clause-lent
returns-clause-lent c =
    let e = idle_is _ _ _ _ _ (c.self.view_is ∙ c.requires.idle) c.self.invariant.lies in
    begun_is _ _ _ _ c.args.vars.now _ _ c.swap.ensures.x_after c.mark.ensures.live c.put_risen.ensures e.2 e.3

pub returns-clause-left : goal.returns-clause-left
returns-clause-left c = c.swap.ensures.y_after ∙ (idle_is _ _ _ _ _ (c.self.view_is ∙ c.requires.idle) c.self.invariant.lies).0
