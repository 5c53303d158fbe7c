use Rattle.dtal_text.proofs.ListedPlaces.{places_rise}
use Rattle.dtal_text.proofs.labels.read_typed_places.Goals as goal

pub from_vec-requires : goal.from_vec-requires
from_vec-requires c = places_rise _ _ _ c.in_ok-entries.ensures
