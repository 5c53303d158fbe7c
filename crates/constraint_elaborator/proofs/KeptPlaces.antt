-- The places of types that stay, and those of parameters, rise.
use Rattle.std.proofs.Common.{ℕ, suc, ◌+◌, ◌≤◌, List, [], ◌∷◌, arith}
use Rattle.std.specs.List.{enumerate_from}
use Rattle.state_types.specs.PlaceTypes.{PlacesRise}
use Rattle.state_types.specs.declared.types.Ty.{Ty}
use Rattle.typed_core.specs.Joins.{still_visible}

pub still-rises : (low : ℕ) (before after : List (ℕ × Ty)) → PlacesRise low before → PlacesRise low (still_visible before after)
unfolding still_visible
still-rises low [] after r = tt
still-rises low (e ∷ es) after r = (r.0, still-rises (suc e.0) es after r.1)

pub enumerate-rises : (low k : ℕ) (ts : List Ty) → low ≤ k → PlacesRise low (enumerate_from k ts)
enumerate-rises low k [] h = tt
enumerate-rises low k (t ∷ ts) h = (h, enumerate-rises (suc k) (k + 1) ts (omega arith))
