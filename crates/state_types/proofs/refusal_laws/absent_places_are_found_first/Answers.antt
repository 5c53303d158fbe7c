use Rattle.state_types.proofs.KindRefusals.{edge_kinds}
use Rattle.state_types.proofs.refusal_laws.absent_places_are_found_first.Goals as goal

pub returns : goal.returns
returns c = λ state target values place. edge_kinds state target values place
