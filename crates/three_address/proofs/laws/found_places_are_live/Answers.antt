use Rattle.three_address.proofs.LiveRounds.{rounds-live}
use Rattle.three_address.proofs.laws.found_places_are_live.Goals as goal

pub returns : goal.returns
returns c = λ fun count at place e. rounds-live fun count at place e
