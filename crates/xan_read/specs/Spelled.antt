-- Languages in which a value has one spelling: of which values, and how they are spelled.
use Rattle.std.specs.Prelude.{◌≡◌, ℕ, ◌≤◌, List, ◌++◌, codes}

-- any value
abbrev pub Any : {B : Type 0} → B → Type 0
Any y = Unit {0}

-- Known says what is known of the value already, as the fields that were read before, and Fits which values have a
-- spelling.
pub record Spelled {B : Type 0} (Known Fits : B → Type 0) (spelling : B → List ℕ) (y : B) (text : List ℕ) : Type 0 where
  pub known : Known y
  pub fits : Fits y
  pub is : text ≡ spelling y

-- from low to high
abbrev pub IsBetween : ℕ → ℕ → ℕ → Type 0
IsBetween low high n = (low ≤ n) × (n ≤ high)

-- ---- two values with a space between

abbrev pub Both : {A B : Type 0} → (A → Type 0) → (B → Type 0) → A × B → Type 0
Both P Q m = P m.0 × Q m.1

abbrev pub spaced : {A B : Type 0} → (A → List ℕ) → (B → List ℕ) → A × B → List ℕ
spaced first second m = first m.0 ++ (codes " " ++ second m.1)
