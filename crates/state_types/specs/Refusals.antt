-- Refusals by kind, said of the lists alone.
use Rattle.std.specs.Prelude.{◌≡◌, ℕ, ◌<◌, Bool as Truth, false, true, List, length, Option, Some, None}
use Rattle.std.specs.List.{slice_index_or}
use Rattle.state_types.specs.PlaceTypes.{type_at}
use Rattle.state_types.specs.Types.{same_kind}
use Rattle.state_types.specs.declared.types.Ty.{Ty}

-- the first number at which the kinds of two lists differ
pub record FirstUnlike (wanted actual : List Ty) (number : ℕ) : Type 0 where
  pub within : number < length wanted
  pub unlike : (d e : Ty) → same_kind (slice_index_or wanted number d) (slice_index_or actual number e) ≡ false
  pub before : (k : ℕ) (d e : Ty) → k < number → same_kind (slice_index_or wanted k d) (slice_index_or actual k e) ≡ true

abbrev pub is_kind_of : Ty → Option Ty → Truth
is_kind_of wanted (Some present) = same_kind wanted present
is_kind_of wanted None = false

-- the place has a present type of the wanted kind
abbrev pub is_there : List (ℕ × Ty) → ℕ × Ty → Truth
is_there present wanted = is_kind_of wanted.1 (type_at wanted.0 present)

-- the first of the wanted places that has no present type of its kind
pub record FirstAbsent (present wanted : List (ℕ × Ty)) (place : ℕ) : Type 0 where
  pub number : ℕ
  pub within : number < length wanted
  pub is : (d : ℕ × Ty) → (slice_index_or wanted number d).0 ≡ place
  pub absent : (d : ℕ × Ty) → is_there present (slice_index_or wanted number d) ≡ false
  pub before : (k : ℕ) (d : ℕ × Ty) → k < number → is_there present (slice_index_or wanted k d) ≡ true
