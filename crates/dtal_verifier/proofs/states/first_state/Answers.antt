use Rattle.std.proofs.Common.{sym, subst, arith}
use Rattle.state_types.specs.PlaceTypes.{PlacesRise}
use Rattle.dtal_verifier.proofs.DeclaredNames.{numbered_rises}
use Rattle.dtal_verifier.proofs.states.first_state.Goals as goal

pub from_vec-places-requires : goal.from_vec-places-requires
from_vec-places-requires c = subst (λ ps. PlacesRise 0 ps) (sym c.in_ok-numbered.ensures) (numbered_rises 0 0 c.as_slice.result.now (omega arith))
