use Rattle.dtal_code.proofs.TypesBelow.{there_below}
use Rattle.instruction_checks.proofs.reading.present_types.Goals as goal

pub returns-clause-below : goal.returns-clause-below
returns-clause-below c = there_below _ _ _ _ c.in_ok-types_there.ensures c.requires.below
