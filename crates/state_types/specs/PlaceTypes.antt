-- The types of places, by rising place.
use Rattle.std.specs.Prelude.{ℕ, List, Option}
use Rattle.xan_seq.specs.Rising.{KeysRise, value_under, with_value}
pub use Rattle.state_types.specs.declared.types.Ty.{Ty}

-- the places rise from `low` on
abbrev pub PlacesRise : ℕ → List (ℕ × Ty) → Type 0
PlacesRise low entries = KeysRise low entries

-- the type that is listed for a place
abbrev pub type_at : ℕ → List (ℕ × Ty) → Option Ty
type_at place entries = value_under place entries

-- the places, where this one has the type
abbrev pub with_type : ℕ → Ty → List (ℕ × Ty) → List (ℕ × Ty)
with_type place ty entries = with_value place ty entries
