use Rattle.std.proofs.Common.{arith, ap, length}
use Rattle.state_types.proofs.TableFacts.{closed-at}
use Rattle.state_types.proofs.table.TypeTable.at.Goals as goal

pub returns-clause-closed : goal.returns-clause-closed
returns-clause-closed c = closed-at c.self.inside.types.items c.args.id c.index.result.now c.self.invariant (omega (arith, ap length c.self.view_is)) c.index.ensures
