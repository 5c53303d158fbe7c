use Rattle.std.proofs.Common.{sym, subst, arith}
use Rattle.state_types.specs.PlaceTypes.{PlacesRise}
use Rattle.constraint_elaborator.proofs.KeptPlaces.{enumerate-rises}
use Rattle.constraint_elaborator.proofs.bodies.body_start.Goals as goal

pub from_vec-requires : goal.from_vec-requires
from_vec-requires c = subst (λ es. PlacesRise 0 es) (sym c.in_ok-types.ensures) (enumerate-rises 0 0 c.as_slice-4.result.now (omega arith))
