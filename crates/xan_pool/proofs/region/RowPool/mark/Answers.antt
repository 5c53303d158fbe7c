use Rattle.std.proofs.Common.{sym, arith}
use Rattle.xan_pool.proofs.Pools.{live_is, capacity_is}
use Rattle.xan_pool.proofs.region.RowPool.mark.Goals as goal

pub returns-clause-live : goal.returns-clause-live
returns-clause-live c = sym (live_is c.self.inside c.args.self.now c.self.view_is)

pub returns-clause-within : goal.returns-clause-within
returns-clause-within c = omega (arith, live_is c.self.inside c.args.self.now c.self.view_is, capacity_is c.self.inside c.args.self.now c.self.view_is, c.self.invariant.within)
