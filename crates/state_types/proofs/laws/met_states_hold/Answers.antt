use Rattle.state_types.proofs.Edges.{met_fits}
use Rattle.state_types.proofs.laws.met_states_hold.Goals as goal

pub returns : goal.returns
returns c = λ headers word assignment given state target met fits. met_fits headers word assignment given state target met fits
