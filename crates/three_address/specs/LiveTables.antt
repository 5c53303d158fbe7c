-- Live places as a table: for each position a row with a truth value for each place. Rounds from the empty table find live places, and a table that
-- a round leaves as it is has all of them.
use Rattle.std.specs.Prelude.{ℕ, zero, suc, ◌==◌, Bool, false, not, ◌&&◌, ◌||◌, List, [], ◌∷◌, length}
use Rattle.std.specs.List.{list_any, slice_index_or}
use Rattle.three_address.specs.Flow.{reads_at, writes_at, ways_from}
use Rattle.three_address.specs.declared.function.LowFun.{LowFun}

-- the number is one of these
abbrev pub has : List ℕ → ℕ → Bool
has xs x = list_any (λ y. x == y) xs

-- the values of so many numbers from one on
unfoldable pub tabulated : {A : Type 0} → (ℕ → A) → (from count : ℕ) → List A
tabulated f from zero = []
tabulated f from (suc count) = f from ∷ tabulated f (suc from) count

-- a position or a place that is not there is not live
abbrev pub bit : List (List Bool) → (at place : ℕ) → Bool
bit table at place = slice_index_or (slice_index_or table at []) place false

-- the place is live before the instruction at a position, by the table behind it
abbrev pub lives : LowFun → List (List Bool) → (at place : ℕ) → Bool
lives fun table at place =
    has (reads_at fun at) place || (not (has (writes_at fun at) place) && list_any (λ next. bit table next place) (ways_from fun at))

abbrev pub live_row : LowFun → List (List Bool) → (at : ℕ) → List Bool
live_row fun table at = tabulated (lives fun table at) 0 fun.places

-- the table by what this one says of the positions that come next
unfoldable pub round : LowFun → List (List Bool) → List (List Bool)
round fun table = tabulated (live_row fun table) 0 (length fun.code)

unfoldable pub rounds : LowFun → ℕ → List (List Bool)
rounds fun zero = []
rounds fun (suc count) = round fun (rounds fun count)
