use Rattle.std.proofs.Common.{sym, subst}
use Rattle.state_types.specs.Tables.{IsClosed}
use Rattle.dtal_verifier.proofs.types.table_of.Goals as goal

pub add_type-requires-clause-closed : goal.add_type-requires-clause-closed
add_type-requires-clause-closed c = subst IsClosed (sym c.packed-item.is) (c.requires.closed c.loop-packed.packed-index c.packed-item.result c.loop-packed-test.true)
