use Rattle.std.proofs.Common.{subst, List, ℕ}
use Rattle.solver_rows.specs.RowsInCells.{AreRising}
use Rattle.linear_solver.proofs.WorkspaceReads.{holds_settled, set_settled}
use Rattle.linear_solver.proofs.PlacedRows.{settled_as}
use Rattle.linear_solver.proofs.workspace.Workspace.settle.Goals as goal

pub returns-then-holds : goal.returns-then-holds
returns-then-holds c = holds_settled _ _ _ (c.holds.ensures c.args.self.now.vars (subst (λ (vs : List ℕ). AreRising 0 vs) c.vars-vars.ensures.vars c.vars-vars.ensures.rising) c.requires.wide c.requires.signed) c.if-holds.true

pub lower-requires-clause-settled : goal.lower-requires-clause-settled
lower-requires-clause-settled c = settled_as _ _ c.requires.small c.requires.tight (c.holds.ensures c.args.self.now.vars (subst (λ (vs : List ℕ). AreRising 0 vs) c.vars-vars.ensures.vars c.vars-vars.ensures.rising) c.requires.wide c.requires.signed) c.if-holds.false

pub settle_searched-requires-clause-settled : goal.settle_searched-requires-clause-settled
settle_searched-requires-clause-settled c = settled_as _ _ c.requires.small c.requires.tight (c.holds.ensures c.args.self.now.vars (subst (λ (vs : List ℕ). AreRising 0 vs) c.vars-vars.ensures.vars c.vars-vars.ensures.rising) c.requires.wide c.requires.signed) c.if-holds.false

pub returns-in-Some : goal.returns-in-Some
returns-in-Some c =
    set_settled _ _ _ _ _ (c.holds.ensures c.args.self.now.vars (subst (λ (vs : List ℕ). AreRising 0 vs) c.vars-vars.ensures.vars c.vars-vars.ensures.rising) c.requires.wide c.requires.signed) c.if-holds.false (c.in-Some.ensures {u = tt}) c.tell_distinct.ensures c.lower.ensures
