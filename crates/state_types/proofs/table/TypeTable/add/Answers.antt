use Rattle.std.proofs.Common.{arith, ap, length}
use Rattle.state_types.proofs.TableFacts.{IsTable-pushed}
use Rattle.state_types.proofs.table.TypeTable.add.Goals as goal

pub invariant_of-self-2 : goal.invariant_of-self-2
invariant_of-self-2 c =
    IsTable-pushed c.self.inside.types.items _ c.args.packed c.in-Ok.ensures.items (omega (arith, ap length c.self.view_is)) c.requires.closed c.self.invariant
