use Rattle.std.proofs.Common.{◌≡◌, sym, subst, rules}
use Rattle.state_types.specs.PlaceTypes.{PlacesRise}
use Rattle.typed_core.specs.Joins.{still_visible}
use Rattle.constraint_elaborator.proofs.KeptPlaces.{still-rises}
use Rattle.constraint_elaborator.proofs.entering.go_on.Goals as goal

pub from_vec-places-requires : goal.from_vec-places-requires
from_vec-places-requires c =
    let same : c.in_ok-types.types.items ≡ still_visible c.args.before.now c.args.end.now.places = search rules in
    subst (λ ts. PlacesRise 0 ts) (sym same) (still-rises 0 c.args.before.now c.args.end.now.places (search rules))
