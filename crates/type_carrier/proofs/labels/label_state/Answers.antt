use Rattle.type_carrier.proofs.CarriedLoops.{live_places_rise}
use Rattle.type_carrier.proofs.labels.label_state.Goals as goal

pub from_vec-requires : goal.from_vec-requires
from_vec-requires c = live_places_rise _ _ _ _ c.in_ok-live.ensures c.entries.ensures.rising
