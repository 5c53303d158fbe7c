use Rattle.std.proofs.Common.{subst, sym}
use Rattle.state_types.specs.Tables.{IsTable}
use Rattle.state_types.proofs.TableFacts.{closed-found}
use Rattle.state_types.proofs.table.TypeTable.get.Goals as goal

pub returns-clause-closed : goal.returns-clause-closed
returns-clause-closed c =
    let table = subst IsTable (sym c.deref.ensures.value) c.self.invariant in
    closed-found c.deref.result.now c.args.id c.get.result table c.get.ensures.lookup.0 c.get.ensures.lookup.1
