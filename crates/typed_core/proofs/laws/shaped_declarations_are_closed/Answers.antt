use Rattle.typed_core.proofs.NamedPrograms.{declarations_are_closed}
use Rattle.typed_core.proofs.laws.shaped_declarations_are_closed.Goals as goal

pub returns : goal.returns
returns c = declarations_are_closed
