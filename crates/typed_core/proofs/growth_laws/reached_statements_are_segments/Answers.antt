use Rattle.typed_core.proofs.SegmentsFound.{stands_found}
use Rattle.typed_core.proofs.growth_laws.reached_statements_are_segments.Goals as goal

pub returns : goal.returns
returns c = stands_found
