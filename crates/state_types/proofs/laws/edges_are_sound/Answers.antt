use Rattle.state_types.proofs.Edges.{edge_sound}
use Rattle.state_types.proofs.laws.edges_are_sound.Goals as goal

pub returns : goal.returns
returns c = λ state target values rows assignment e own entailed holds. edge_sound state target values rows assignment e own entailed holds
