-- Live places and intervals of the sum of an array, worked out by hand.
use Rattle.std.proofs.Common.{◌≡◌, List, [], ◌∷◌, Bool, true, false, refl, arith}
use Rattle.std.specs.List.{slice_index_or}
use Rattle.three_address.specs.Flow.{instruction_at, reads_at, writes_at, ways_from}
use Rattle.three_address.specs.Instructions.{instruction_of}
use Rattle.three_address.specs.Intervals.{IsInterval}
use Rattle.three_address.specs.Liveness.{Live}
use Rattle.three_address.specs.TableIntervals.{first_from, last_from}
use Rattle.three_address.proofs.HeldRanges.{is-interval}
use Rattle.three_address.specs.LiveTables.{tabulated, round, rounds}
use Rattle.three_address.proofs.LiveRounds.{rounds-live, live-found}
use Rattle.three_address.proofs.LowSources.{sum_fun}

abbrev sum_table : List (List Bool)
sum_table = rounds sum_fun 12

-- a further round finds no more
sum_done : round sum_fun sum_table ≡ sum_table
unfolding rounds round tabulated reads_at writes_at ways_from instruction_at instruction_of
sum_done = refl

-- at the head of the loop the array, the index and the sum are live; behind it the sum alone is
sum_head : slice_index_or sum_table 3 [] ≡ true ∷ true ∷ true ∷ false ∷ []
unfolding rounds round tabulated reads_at writes_at ways_from instruction_at instruction_of
sum_head = refl

sum_behind : slice_index_or sum_table 10 [] ≡ false ∷ false ∷ true ∷ false ∷ []
unfolding rounds round tabulated reads_at writes_at ways_from instruction_at instruction_of
sum_behind = refl

index_live : Live sum_fun 3 1
unfolding rounds round tabulated reads_at writes_at ways_from instruction_at instruction_of
index_live = rounds-live sum_fun 12 3 1 refl

false-true : false ≡ true → ⊥
false-true e = cc

index_not_live : Live sum_fun 10 1 → ⊥
unfolding rounds round tabulated reads_at writes_at ways_from instruction_at instruction_of
index_not_live live = false-true (live-found sum_fun sum_table sum_done 10 1 (omega arith) live)

-- ---- intervals: of the array, the index, the sum and the temporary

array_interval : IsInterval sum_fun 0 0 9
unfolding rounds round tabulated first_from last_from reads_at writes_at ways_from instruction_at instruction_of
array_interval = is-interval sum_fun 12 sum_done (omega arith) 0 (omega arith) 0 9 refl refl

index_interval : IsInterval sum_fun 1 0 9
unfolding rounds round tabulated first_from last_from reads_at writes_at ways_from instruction_at instruction_of
index_interval = is-interval sum_fun 12 sum_done (omega arith) 1 (omega arith) 0 9 refl refl

sum_interval : IsInterval sum_fun 2 1 10
unfolding rounds round tabulated first_from last_from reads_at writes_at ways_from instruction_at instruction_of
sum_interval = is-interval sum_fun 12 sum_done (omega arith) 2 (omega arith) 1 10 refl refl

temporary_interval : IsInterval sum_fun 3 3 8
unfolding rounds round tabulated first_from last_from reads_at writes_at ways_from instruction_at instruction_of
temporary_interval = is-interval sum_fun 12 sum_done (omega arith) 3 (omega arith) 3 8 refl refl
