-- Each place of a function in a slot of its own.
use Rattle.std.specs.Prelude.{ℕ, zero, suc, ◌+◌, ◌≤◌, List, [], ◌∷◌, ◌++◌, map}
use Rattle.three_address.specs.declared.function.LowFun.{LowFun}
use Rattle.three_address.specs.declared.function.TheConstants.{PLACES}

-- the first slots, which are numbered from 16 as homes
unfoldable pub slots : (count : ℕ) → List ℕ
slots zero = []
slots (suc place) = slots place ++ (16 + place) ∷ []

abbrev pub all_slots : List LowFun → List (List ℕ)
all_slots funs = map (λ fun. slots fun.places) funs

-- an activation has so many places
abbrev pub HasFewPlaces : LowFun → Type 0
HasFewPlaces fun = fun.places ≤ PLACES
