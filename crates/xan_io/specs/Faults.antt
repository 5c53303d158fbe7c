-- Counts of faults. The outside counts the faults of its calls, and a caller learns of a fault by the count that rose.
use Rattle.std.specs.Prelude.{◌≡◌, ℕ, ◌+◌, ◌-◌, ◌^◌, ◌≤◌, min, List}

-- A count after one more. It is kept in a word of 64 bits, whose greatest number stands for itself and all greater ones: a count that
-- stands there stays.
abbrev pub raised : ℕ → ℕ
raised count = min (count + 1) (2 ^ 64 - 1)

-- A count rose, by one at least. One that stands at the greatest number is taken as risen.
abbrev pub Rose : ℕ → ℕ → Type 0
Rose before now = raised before ≤ now

-- counts by name: each is as it was
abbrev pub SameCounts : (List ℕ → ℕ) → (List ℕ → ℕ) → Type 0
SameCounts before now = (other : List ℕ) → now other ≡ before other

-- counts by name: none is less than it was
abbrev pub NoneFalls : (List ℕ → ℕ) → (List ℕ → ℕ) → Type 0
NoneFalls before now = (other : List ℕ) → before other ≤ now other
