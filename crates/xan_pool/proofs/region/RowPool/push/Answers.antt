use Rattle.std.proofs.Common.{refl, sym, ◌∙◌}
use Rattle.xan_pool.proofs.Pools.{live_is, width_is, capacity_is, pushed_is}
use Rattle.xan_pool.proofs.region.RowPool.push.Goals as goal

pub returns-then-self-clause-full : goal.returns-then-self-clause-full
returns-then-self-clause-full c = (λ _. live_is c.self.inside c.args.self.now c.self.view_is ∙ c.if-self.true ∙ sym (capacity_is c.self.inside c.args.self.now c.self.view_is), λ _. refl)

pub returns-clause-id : goal.returns-clause-id
returns-clause-id c = sym (live_is c.self.inside c.args.self.now c.self.view_is)

pub returns-clause-pushed : goal.returns-clause-pushed
returns-clause-pushed c =
    pushed_is c.self.inside c.args.self.now _ c.args.row.now c.self.view_is c.self.invariant.filled (c.requires ∙ width_is c.self.inside c.args.self.now c.self.view_is) c.in-Ok.ensures.items

pub returns-clause-full : goal.returns-clause-full
returns-clause-full c = (λ e. cc, λ e. absurd (c.if-self.false (sym (live_is c.self.inside c.args.self.now c.self.view_is) ∙ e ∙ capacity_is c.self.inside c.args.self.now c.self.view_is)))
