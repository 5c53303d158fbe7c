use Rattle.typed_core.proofs.FunctionsFound.{function_segment}
use Rattle.typed_core.proofs.growth_laws.elaborated_functions_are_segments.Goals as goal

pub returns : goal.returns
returns c = function_segment
