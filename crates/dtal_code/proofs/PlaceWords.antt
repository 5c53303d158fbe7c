-- Words in places: what was written stands there, and all else as before.
use Rattle.std.proofs.Common.{◌≡◌, ◌≢◌, ℕ, zero, suc, ◌<◌, ◌≤◌, ℤ, List, [], ◌∷◌, length, Some, slice_get, slice_set, refl, ap, arith, length-append}
use Rattle.std.proofs.lemmas.List.{length-replicate}
use Rattle.dtal_code.specs.Places.{places_of}

pub length-put : (places : List ℤ) (place : ℕ) (word : ℤ) → length (slice_set places place word) ≡ length places
length-put [] place word = refl
length-put (x ∷ xs) zero word = refl
length-put (x ∷ xs) (suc place) word = ap suc (length-put xs place word)

-- a place that was written has the word
pub get-put_same : (places : List ℤ) (place : ℕ) (word : ℤ) → place < length places → slice_get (slice_set places place word) place ≡ Some word
get-put_same [] place word h = absurd (omega arith)
get-put_same (x ∷ xs) zero word h = refl
get-put_same (x ∷ xs) (suc place) word h = let lt : place < length xs = omega arith in get-put_same xs place word lt

-- every other place keeps its word
pub get-put_other : (places : List ℤ) (place other : ℕ) (word : ℤ) → other ≢ place
    → slice_get (slice_set places place word) other ≡ slice_get places other
get-put_other [] place other word ne = refl
get-put_other (x ∷ xs) zero zero word ne = absurd (ne refl)
get-put_other (x ∷ xs) zero (suc other) word ne = refl
get-put_other (x ∷ xs) (suc place) zero word ne = refl
get-put_other (x ∷ xs) (suc place) (suc other) word ne = get-put_other xs place other word (λ e. ne (ap suc e))

-- a place that exists has a word
pub get_within : (places : List ℤ) (place : ℕ) → place < length places → (word : ℤ) × (slice_get places place ≡ Some word)
get_within [] place h = absurd (omega arith)
get_within (x ∷ xs) zero h = (x, refl)
get_within (x ∷ xs) (suc place) h = let lt : place < length xs = omega arith in get_within xs place lt

-- the first places of a run are 256, and begin with the words of the arguments
pub length-places_of : (words : List ℤ) → length words ≤ 256 → length (places_of words) ≡ 256
unfolding places_of
length-places_of words h = simp (length-append, length-replicate) (omega arith)
