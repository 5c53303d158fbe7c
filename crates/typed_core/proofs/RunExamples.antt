-- Runs of small sources, worked out by hand.
use Rattle.std.proofs.Common.{◌≡◌, ℕ, ℤ, pos, negsuc, true, false, List, [], ◌∷◌, ◌++◌, None, Ok, Err, refl}
use Rattle.xan_io.specs.Entry.{ArgCount, ArgKind}
use Rattle.xan_io.specs.Outcome.{How, Returned, NoStore, Overflow, Stuck, Running, Outcome}
use Rattle.xan_io.specs.declared.arg.Arg.{Arg}
use Rattle.xan_io.specs.declared.arg.Arg.TheVariants as arg
use Rattle.xan_lin.specs.Value.{value_of_terms}
use Rattle.operation_rules.specs.Effects.{cells_from}
use Rattle.operation_rules.specs.Entry.{placed, entry_fault, kind_fault, variable_values, variable_value, index_fault, row_fault}
use Rattle.typed_core.specs.SourceValues.{words_of, have_tags, with_tags, tagged, used, cells_with, blocks_with, tags_of}
use Rattle.typed_core.specs.SourceRuns.{Answer, Place, Recorder, spent}
use Rattle.typed_core.specs.SourceOperands.{value_by, value, values, chained}
use Rattle.typed_core.specs.SourceTests.{decided, holds, all_hold, any_holds}
use Rattle.typed_core.specs.SourceStatements.{set_all, parts_read, cell_put, number_printed, turns, statement, block}
use Rattle.typed_core.specs.SourceCalls.{body, called}
use Rattle.typed_core.specs.Meaning.{source_fault, source_run, source_outcome, source_entry}
use Rattle.typed_core.proofs.Sources as source
use Rattle.typed_core.proofs.RunSources as small

abbrev numbers : List ℤ → List Arg
numbers [] = []
numbers (n ∷ ns) = arg.Int n ∷ numbers ns

abbrev silent : How → Outcome
silent how = record { printed = []; how = how }

abbrev three_cells : List Arg
three_cells = arg.Array (pos 4 ∷ pos 5 ∷ negsuc 0 ∷ []) ∷ []

-- ---- the sum of the cells of an array: a unit for each turn

sum_ends : source_outcome source.sum_of_cells three_cells 5 1 3 ≡ silent (Returned (pos 8))
unfolding value values chained holds all_hold any_holds statement block turns body called value_by decided parts_read cell_put number_printed set_all spent words_of have_tags with_tags tagged used cells_with blocks_with tags_of cells_from placed
sum_ends = refl

sum_runs : source_outcome source.sum_of_cells three_cells 5 1 2 ≡ silent Running
unfolding value values chained holds all_hold any_holds statement block turns body called value_by decided parts_read cell_put number_printed set_all spent words_of have_tags with_tags tagged used cells_with blocks_with tags_of cells_from placed
sum_runs = refl

-- the test is asked at 0 units too
sum_of_none : source_outcome source.sum_of_cells (arg.Array [] ∷ []) 2 1 0 ≡ silent (Returned (pos 0))
unfolding value values chained holds all_hold any_holds statement block turns body called value_by decided parts_read cell_put number_printed set_all spent words_of have_tags with_tags tagged used cells_with blocks_with tags_of cells_from placed
sum_of_none = refl

-- the array takes 5 words
sum_has_no_room : source_outcome source.sum_of_cells three_cells 4 1 3 ≡ silent NoStore
unfolding value values chained holds all_hold any_holds statement block turns body called value_by decided parts_read cell_put number_printed set_all spent words_of have_tags with_tags tagged used cells_with blocks_with tags_of cells_from placed
sum_has_no_room = refl

no_activation : source_outcome source.sum_of_cells three_cells 5 0 3 ≡ silent NoStore
unfolding value values chained holds all_hold any_holds statement block turns body called value_by decided parts_read cell_put number_printed set_all spent words_of have_tags with_tags tagged used cells_with blocks_with tags_of cells_from placed
no_activation = refl

-- the index is the length
one_cell_too_far : source_outcome source.one_too_far (arg.Array (pos 4 ∷ []) ∷ []) 3 1 2 ≡ silent Stuck
unfolding value values chained holds all_hold any_holds statement block turns body called value_by decided parts_read cell_put number_printed set_all spent words_of have_tags with_tags tagged used cells_with blocks_with tags_of cells_from placed
one_cell_too_far = refl

-- ---- calls: f of 2, 1 and 0, with a unit and an activation for each

calls_end : source_outcome small.added_up (numbers (pos 2 ∷ [])) 0 4 3 ≡ silent (Returned (pos 3))
unfolding value values chained holds all_hold any_holds statement block turns body called value_by decided parts_read cell_put number_printed set_all spent words_of have_tags with_tags tagged used cells_with blocks_with tags_of cells_from placed
calls_end = refl

calls_run : source_outcome small.added_up (numbers (pos 2 ∷ [])) 0 4 2 ≡ silent Running
unfolding value values chained holds all_hold any_holds statement block turns body called value_by decided parts_read cell_put number_printed set_all spent words_of have_tags with_tags tagged used cells_with blocks_with tags_of cells_from placed
calls_run = refl

-- the depth is looked at before the unit is taken
calls_too_deep : source_outcome small.added_up (numbers (pos 2 ∷ [])) 0 3 2 ≡ silent NoStore
unfolding value values chained holds all_hold any_holds statement block turns body called value_by decided parts_read cell_put number_printed set_all spent words_of have_tags with_tags tagged used cells_with blocks_with tags_of cells_from placed
calls_too_deep = refl

-- ---- stores

array_made : source_outcome small.sevens (numbers (pos 2 ∷ [])) 4 1 0 ≡ silent (Returned (pos 7))
unfolding value values chained holds all_hold any_holds statement block turns body called value_by decided parts_read cell_put number_printed set_all spent words_of have_tags with_tags tagged used cells_with blocks_with tags_of cells_from placed
array_made = refl

array_has_no_room : source_outcome small.sevens (numbers (pos 2 ∷ [])) 3 1 0 ≡ silent NoStore
unfolding value values chained holds all_hold any_holds statement block turns body called value_by decided parts_read cell_put number_printed set_all spent words_of have_tags with_tags tagged used cells_with blocks_with tags_of cells_from placed
array_has_no_room = refl

length_below_0 : source_outcome small.sevens (numbers (negsuc 0 ∷ [])) 9 1 0 ≡ silent Stuck
unfolding value values chained holds all_hold any_holds statement block turns body called value_by decided parts_read cell_put number_printed set_all spent words_of have_tags with_tags tagged used cells_with blocks_with tags_of cells_from placed
length_below_0 = refl

-- a cell of cells is the array itself
array_is_shared : source_outcome small.shared (numbers (pos 3 ∷ [])) 6 1 0 ≡ silent (Returned (pos 5))
unfolding value values chained holds all_hold any_holds statement block turns body called value_by decided parts_read cell_put number_printed set_all spent words_of have_tags with_tags tagged used cells_with blocks_with tags_of cells_from placed
array_is_shared = refl

-- x + 1 less x, out of a tuple of 4 words
tuple_split : source_outcome source.pairs (numbers (pos 9 ∷ [])) 4 1 0 ≡ silent (Returned (pos 1))
unfolding value values chained holds all_hold any_holds statement block turns body called value_by decided parts_read cell_put number_printed set_all spent words_of have_tags with_tags tagged used cells_with blocks_with tags_of cells_from placed
tuple_split = refl

tuple_has_no_room : source_outcome source.pairs (numbers (pos 9 ∷ [])) 3 1 0 ≡ silent NoStore
unfolding value values chained holds all_hold any_holds statement block turns body called value_by decided parts_read cell_put number_printed set_all spent words_of have_tags with_tags tagged used cells_with blocks_with tags_of cells_from placed
tuple_has_no_room = refl

cell_put_beyond : source_outcome source.stores (arg.Array (pos 1 ∷ []) ∷ arg.Int (pos 1) ∷ []) 3 1 0 ≡ silent Stuck
unfolding value values chained holds all_hold any_holds statement block turns body called value_by decided parts_read cell_put number_printed set_all spent words_of have_tags with_tags tagged used cells_with blocks_with tags_of cells_from placed
cell_put_beyond = refl

-- ---- numbers and tests

negation_overflows : source_outcome small.negated (numbers (negsuc 9223372036854775807 ∷ [])) 0 1 0 ≡ silent Overflow
unfolding value values chained holds all_hold any_holds statement block turns body called value_by decided parts_read cell_put number_printed set_all spent words_of have_tags with_tags tagged used cells_with blocks_with tags_of cells_from placed
negation_overflows = refl

quotient_is_floor : source_outcome source.divided (numbers (pos 2 ∷ [])) 0 1 0 ≡ silent (Returned (pos 3))
unfolding value values chained holds all_hold any_holds statement block turns body called value_by decided parts_read cell_put number_printed set_all spent words_of have_tags with_tags tagged used cells_with blocks_with tags_of cells_from placed
quotient_is_floor = refl

divisor_below_1 : source_outcome source.divided (numbers (pos 0 ∷ [])) 0 1 0 ≡ silent Stuck
unfolding value values chained holds all_hold any_holds statement block turns body called value_by decided parts_read cell_put number_printed set_all spent words_of have_tags with_tags tagged used cells_with blocks_with tags_of cells_from placed
divisor_below_1 = refl

both_hold : source_outcome source.both (numbers (pos 6 ∷ pos 3 ∷ [])) 0 1 0 ≡ silent (Returned (pos 2))
unfolding value values chained holds all_hold any_holds statement block turns body called value_by decided parts_read cell_put number_printed set_all spent words_of have_tags with_tags tagged used cells_with blocks_with tags_of cells_from placed
both_hold = refl

-- the second part would divide by 0
second_not_asked : source_outcome source.both (numbers (pos 6 ∷ pos 0 ∷ [])) 0 1 0 ≡ silent (Returned (pos 0))
unfolding value values chained holds all_hold any_holds statement block turns body called value_by decided parts_read cell_put number_printed set_all spent words_of have_tags with_tags tagged used cells_with blocks_with tags_of cells_from placed
second_not_asked = refl

first_holds : source_outcome source.either (arg.Bool true ∷ arg.Int (pos 0) ∷ []) 0 1 0 ≡ silent (Returned (pos 1))
unfolding value values chained holds all_hold any_holds statement block turns body called value_by decided parts_read cell_put number_printed set_all spent words_of have_tags with_tags tagged used cells_with blocks_with tags_of cells_from placed
first_holds = refl

neither_holds : source_outcome source.either (arg.Bool false ∷ arg.Int (pos 2) ∷ []) 0 1 0 ≡ silent (Returned (pos 2))
unfolding value values chained holds all_hold any_holds statement block turns body called value_by decided parts_read cell_put number_printed set_all spent words_of have_tags with_tags tagged used cells_with blocks_with tags_of cells_from placed
neither_holds = refl

-- of 1, 5, 9 the second
cell_found : source_outcome source.search_of_cells (arg.Int (pos 5) ∷ arg.Array (pos 1 ∷ pos 5 ∷ pos 9 ∷ []) ∷ []) 5 1 3 ≡ silent (Returned (pos 1))
unfolding value values chained holds all_hold any_holds statement block turns body called value_by decided parts_read cell_put number_printed set_all spent words_of have_tags with_tags tagged used cells_with blocks_with tags_of cells_from placed
cell_found = refl

-- ---- printing

counts_on : source_outcome small.counting (numbers (pos 7 ∷ [])) 0 1 3 ≡ record { printed = pos 7 ∷ pos 8 ∷ pos 9 ∷ []; how = Running }
unfolding value values chained holds all_hold any_holds statement block turns body called value_by decided parts_read cell_put number_printed set_all spent words_of have_tags with_tags tagged used cells_with blocks_with tags_of cells_from placed
counts_on = refl

-- ---- entry

no_arguments : source_entry source.sum_of_cells [] 5 1 ≡ Err ArgCount
unfolding entry_fault kind_fault variable_values variable_value index_fault row_fault value_of_terms
no_arguments = refl

a_number_for_an_array : source_entry source.sum_of_cells (numbers (pos 4 ∷ [])) 5 1 ≡ Err (ArgKind 1)
unfolding entry_fault kind_fault variable_values variable_value index_fault row_fault value_of_terms
a_number_for_an_array = refl

no_fault : source_fault source.sum_of_cells three_cells ≡ None
unfolding entry_fault kind_fault variable_values variable_value index_fault row_fault value_of_terms
no_fault = refl

-- ---- the log

-- the number of its function and the place of each statement that was reached
abbrev all_reached : Recorder (List (ℕ × Place))
all_reached fun place env store log = log ++ (fun, place) ∷ []

abbrev log_of : {A : Type 0} → Answer (List (ℕ × Place)) A → List (ℕ × Place)
log_of (Ok done) = done.1.log
log_of (Err end) = end.run.log

-- the second statement has a branch
branch_reached : log_of (source_run all_reached [] 1 source.branch_assigns (numbers (pos 0 ∷ [])) 0 1 0)
    ≡ (0, 0 ∷ []) ∷ (0, 1 ∷ []) ∷ (0, 0 ∷ 0 ∷ 1 ∷ []) ∷ (0, 2 ∷ []) ∷ []
unfolding value values chained holds all_hold any_holds statement block turns body called value_by decided parts_read cell_put number_printed set_all spent words_of have_tags with_tags tagged used cells_with blocks_with tags_of cells_from placed
branch_reached = refl
