use Rattle.lowering.proofs.LoweredFunctions.{places_counted}
use Rattle.lowering.proofs.laws.places_are_those_counted.Goals as goal

pub returns : goal.returns
returns c = places_counted
