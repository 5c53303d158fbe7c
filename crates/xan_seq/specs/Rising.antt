-- A map seen as its pairs of a key and a value, by rising key.
use Rattle.std.specs.Prelude.{ℕ, suc, ◌≤◌, nat_lt, ◌==◌, List, [], ◌∷◌, Option, Some, None, if◌then◌else◌}

-- the keys rise from `low` on
abbrev pub KeysRise : {A : Type 0} → ℕ → List (ℕ × A) → Type 0
KeysRise low [] = Unit {0}
KeysRise low (x ∷ xs) = (low ≤ x.0) × KeysRise (suc x.0) xs

-- the value that stands under a key
abbrev pub value_under : {A : Type 0} → ℕ → List (ℕ × A) → Option A
value_under key [] = None
value_under key (x ∷ xs) = if x.0 == key then Some x.1 else value_under key xs

-- the pairs, where this value stands under this key
abbrev pub with_value : {A : Type 0} → ℕ → A → List (ℕ × A) → List (ℕ × A)
with_value key value [] = (key, value) ∷ []
with_value key value (x ∷ xs) =
    if nat_lt x.0 key then x ∷ with_value key value xs
    else if x.0 == key then (key, value) ∷ xs
    else (key, value) ∷ x ∷ xs
