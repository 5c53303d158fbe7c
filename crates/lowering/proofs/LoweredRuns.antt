-- Runs of lowered code beside runs of the source.
use Rattle.std.proofs.Common.{◌≡◌, ℕ, pos, negsuc, true, List, [], ◌∷◌, refl}
use Rattle.state_types.specs.Tables.{int_cell, bool_cell}
use Rattle.state_types.specs.Words.{header_from}
use Rattle.state_types.specs.declared.closed.Signature.{Signature}
use Rattle.xan_io.specs.Outcome.{How, Returned, NoStore, Stuck, Running, Outcome}
use Rattle.xan_io.specs.declared.arg.Arg.{Arg}
use Rattle.xan_io.specs.declared.arg.Arg.TheVariants as arg
use Rattle.operation_rules.specs.Effects.{cells_from}
use Rattle.operation_rules.specs.Entry.{placed}
use Rattle.xanadu_tree.specs.Plain.{Program, Fun}
use Rattle.typed_core.specs.Meaning.{source_outcome}
use Rattle.typed_core.specs.SourceCalls.{body, called}
use Rattle.typed_core.specs.SourceOperands.{value_by, value, values, chained}
use Rattle.typed_core.specs.SourceRuns.{spent}
use Rattle.typed_core.specs.SourceStatements.{set_all, parts_read, cell_put, number_printed, turns, statement, block}
use Rattle.typed_core.specs.SourceTests.{decided, holds, all_hold, any_holds}
use Rattle.typed_core.specs.SourceValues.{words_of, have_tags, with_tags, tagged, used, cells_with, blocks_with, tags_of}
use Rattle.three_address.specs.Entry.{low_outcome, outcome_from}
use Rattle.three_address.specs.Instructions.{instruction_of}
use Rattle.three_address.specs.Machine.{places_of, words_in, with_words, step, run}
use Rattle.three_address.specs.declared.function.Lowered.{Lowered}
use Rattle.three_address.proofs.LowSources.{sum_sig, number_sig, sum_program, calls_program}
use Rattle.value_lowering.specs.Frames.{kind_found}
use Rattle.lowering.specs.Lowered.{functions_of, number_of, places_reach, code_reach}
use Rattle.lowering.specs.StatementCode.{statement_size, statement_code, statement_labels}
use Rattle.lowering.specs.TestCode.{test_size, test_code, test_labels}
use Rattle.value_lowering.specs.ValueCode.{value_size, operand_places, value_code}
use Rattle.lowering.proofs.LoweredSources as source

-- of a run with these signatures, of which the run takes no notice
abbrev low : Program → List Signature → Lowered
low program sigs = record { funs = functions_of program program.funs sigs; table = int_cell ∷ bool_cell ∷ []; main = program.main }

abbrev alone : Fun → Program
alone f = source.program_of f

-- after so many steps, and with so much fuel, both have come to this
abbrev BothAre : Program → List Signature → List Arg → (heap depth steps fuel : ℕ) → Outcome → Type 0
BothAre program sigs args heap depth steps fuel end =
    (low_outcome (low program sigs) args heap depth steps ≡ end) × (source_outcome program args heap depth fuel ≡ end)

abbrev silent : How → Outcome
silent how = record { printed = []; how = how }

-- ---- the sum of an array: it is the code worked out by hand, and three turns of its loop take three units

sum_is_that : low (alone source.sum) (sum_sig ∷ []) ≡ sum_program
unfolding functions_of value_size value_code operand_places test_size test_code test_labels statement_size statement_code statement_labels number_of places_reach code_reach kind_found
sum_is_that = refl

calls_are_those : low source.calls (number_sig ∷ number_sig ∷ []) ≡ calls_program
unfolding functions_of value_size value_code operand_places test_size test_code test_labels statement_size statement_code statement_labels number_of places_reach code_reach kind_found
calls_are_those = refl

abbrev cells : List Arg
cells = arg.Array (pos 4 ∷ pos 5 ∷ negsuc 1 ∷ []) ∷ []

sum_ends : BothAre (alone source.sum) (sum_sig ∷ []) cells 5 1 27 3 (silent (Returned (pos 7)))
unfolding functions_of value_size value_code operand_places test_size test_code test_labels statement_size statement_code statement_labels number_of places_reach code_reach kind_found outcome_from run step instruction_of words_in with_words places_of placed header_from value values chained holds all_hold any_holds statement block turns body called value_by decided parts_read cell_put number_printed set_all spent words_of have_tags with_tags tagged used cells_with blocks_with tags_of cells_from
sum_ends = (refl, refl)

sum_runs : BothAre (alone source.sum) (sum_sig ∷ []) cells 5 1 26 2 (silent Running)
unfolding functions_of value_size value_code operand_places test_size test_code test_labels statement_size statement_code statement_labels number_of places_reach code_reach kind_found outcome_from run step instruction_of words_in with_words places_of placed header_from value values chained holds all_hold any_holds statement block turns body called value_by decided parts_read cell_put number_printed set_all spent words_of have_tags with_tags tagged used cells_with blocks_with tags_of cells_from
sum_runs = (refl, refl)

sum_has_no_room : BothAre (alone source.sum) (sum_sig ∷ []) cells 4 1 0 0 (silent NoStore)
unfolding functions_of value_size value_code operand_places test_size test_code test_labels statement_size statement_code statement_labels number_of places_reach code_reach kind_found outcome_from run step instruction_of words_in with_words places_of placed header_from value values chained holds all_hold any_holds statement block turns body called value_by decided parts_read cell_put number_printed set_all spent words_of have_tags with_tags tagged used cells_with blocks_with tags_of cells_from
sum_has_no_room = (refl, refl)

-- ---- a function that calls itself

calls_end : BothAre source.calls (number_sig ∷ number_sig ∷ []) (arg.Int (pos 2) ∷ []) 0 4 20 3 (silent (Returned (pos 3)))
unfolding functions_of value_size value_code operand_places test_size test_code test_labels statement_size statement_code statement_labels number_of places_reach code_reach kind_found outcome_from run step instruction_of words_in with_words places_of placed header_from value values chained holds all_hold any_holds statement block turns body called value_by decided parts_read cell_put number_printed set_all spent words_of have_tags with_tags tagged used cells_with blocks_with tags_of cells_from
calls_end = (refl, refl)

calls_run : BothAre source.calls (number_sig ∷ number_sig ∷ []) (arg.Int (pos 2) ∷ []) 0 4 19 2 (silent Running)
unfolding functions_of value_size value_code operand_places test_size test_code test_labels statement_size statement_code statement_labels number_of places_reach code_reach kind_found outcome_from run step instruction_of words_in with_words places_of placed header_from value values chained holds all_hold any_holds statement block turns body called value_by decided parts_read cell_put number_printed set_all spent words_of have_tags with_tags tagged used cells_with blocks_with tags_of cells_from
calls_run = (refl, refl)

calls_too_deep : BothAre source.calls (number_sig ∷ number_sig ∷ []) (arg.Int (pos 2) ∷ []) 0 3 12 2 (silent NoStore)
unfolding functions_of value_size value_code operand_places test_size test_code test_labels statement_size statement_code statement_labels number_of places_reach code_reach kind_found outcome_from run step instruction_of words_in with_words places_of placed header_from value values chained holds all_hold any_holds statement block turns body called value_by decided parts_read cell_put number_printed set_all spent words_of have_tags with_tags tagged used cells_with blocks_with tags_of cells_from
calls_too_deep = (refl, refl)

-- ---- tests: of (2, 3) both parts of `&&` are true, of (3, 1) neither part of `||`, of (4, 1) the second one

tests_hold : BothAre (alone source.tested) (number_sig ∷ []) (arg.Int (pos 2) ∷ arg.Int (pos 3) ∷ []) 0 1 5 0 (silent (Returned (pos 1)))
unfolding functions_of value_size value_code operand_places test_size test_code test_labels statement_size statement_code statement_labels number_of places_reach code_reach kind_found outcome_from run step instruction_of words_in with_words places_of placed header_from value values chained holds all_hold any_holds statement block turns body called value_by decided parts_read cell_put number_printed set_all spent words_of have_tags with_tags tagged used cells_with blocks_with tags_of cells_from
tests_hold = (refl, refl)

tests_fail : BothAre (alone source.tested) (number_sig ∷ []) (arg.Int (pos 3) ∷ arg.Int (pos 1) ∷ []) 0 1 5 0 (silent (Returned (pos 0)))
unfolding functions_of value_size value_code operand_places test_size test_code test_labels statement_size statement_code statement_labels number_of places_reach code_reach kind_found outcome_from run step instruction_of words_in with_words places_of placed header_from value values chained holds all_hold any_holds statement block turns body called value_by decided parts_read cell_put number_printed set_all spent words_of have_tags with_tags tagged used cells_with blocks_with tags_of cells_from
tests_fail = (refl, refl)

second_holds : BothAre (alone source.tested) (number_sig ∷ []) (arg.Int (pos 4) ∷ arg.Int (pos 1) ∷ []) 0 1 6 0 (silent (Returned (pos 1)))
unfolding functions_of value_size value_code operand_places test_size test_code test_labels statement_size statement_code statement_labels number_of places_reach code_reach kind_found outcome_from run step instruction_of words_in with_words places_of placed header_from value values chained holds all_hold any_holds statement block turns body called value_by decided parts_read cell_put number_printed set_all spent words_of have_tags with_tags tagged used cells_with blocks_with tags_of cells_from
second_holds = (refl, refl)

-- ---- arithmetic, tuples and arrays

chain_ends : BothAre (alone source.chained) (number_sig ∷ []) (arg.Int (pos 9) ∷ arg.Int (pos 3) ∷ []) 0 1 8 0 (silent (Returned (pos 27)))
unfolding functions_of value_size value_code operand_places test_size test_code test_labels statement_size statement_code statement_labels number_of places_reach code_reach kind_found outcome_from run step instruction_of words_in with_words places_of placed header_from value values chained holds all_hold any_holds statement block turns body called value_by decided parts_read cell_put number_printed set_all spent words_of have_tags with_tags tagged used cells_with blocks_with tags_of cells_from
chain_ends = (refl, refl)

divisor_is_0 : BothAre (alone source.chained) (number_sig ∷ []) (arg.Int (pos 9) ∷ arg.Int (pos 7) ∷ []) 0 1 6 0 (silent Stuck)
unfolding functions_of value_size value_code operand_places test_size test_code test_labels statement_size statement_code statement_labels number_of places_reach code_reach kind_found outcome_from run step instruction_of words_in with_words places_of placed header_from value values chained holds all_hold any_holds statement block turns body called value_by decided parts_read cell_put number_printed set_all spent words_of have_tags with_tags tagged used cells_with blocks_with tags_of cells_from
divisor_is_0 = (refl, refl)

pair_ends : BothAre source.pairs (number_sig ∷ []) (arg.Int (pos 9) ∷ []) 4 1 6 0 (silent (Returned (pos 1)))
unfolding functions_of value_size value_code operand_places test_size test_code test_labels statement_size statement_code statement_labels number_of places_reach code_reach kind_found outcome_from run step instruction_of words_in with_words places_of placed header_from value values chained holds all_hold any_holds statement block turns body called value_by decided parts_read cell_put number_printed set_all spent words_of have_tags with_tags tagged used cells_with blocks_with tags_of cells_from
pair_ends = (refl, refl)

pair_has_no_room : BothAre source.pairs (number_sig ∷ []) (arg.Int (pos 9) ∷ []) 3 1 3 0 (silent NoStore)
unfolding functions_of value_size value_code operand_places test_size test_code test_labels statement_size statement_code statement_labels number_of places_reach code_reach kind_found outcome_from run step instruction_of words_in with_words places_of placed header_from value values chained holds all_hold any_holds statement block turns body called value_by decided parts_read cell_put number_printed set_all spent words_of have_tags with_tags tagged used cells_with blocks_with tags_of cells_from
pair_has_no_room = (refl, refl)

stores_end : BothAre (alone source.stores) (number_sig ∷ []) (arg.Array (pos 4 ∷ pos 5 ∷ []) ∷ arg.Int (pos 0) ∷ []) 8 1 12 0 (silent (Returned (pos 2)))
unfolding functions_of value_size value_code operand_places test_size test_code test_labels statement_size statement_code statement_labels number_of places_reach code_reach kind_found outcome_from run step instruction_of words_in with_words places_of placed header_from value values chained holds all_hold any_holds statement block turns body called value_by decided parts_read cell_put number_printed set_all spent words_of have_tags with_tags tagged used cells_with blocks_with tags_of cells_from
stores_end = (refl, refl)

store_beyond : BothAre (alone source.stores) (number_sig ∷ []) (arg.Array (pos 4 ∷ pos 5 ∷ []) ∷ arg.Int (pos 1) ∷ []) 8 1 10 0 (silent Stuck)
unfolding functions_of value_size value_code operand_places test_size test_code test_labels statement_size statement_code statement_labels number_of places_reach code_reach kind_found outcome_from run step instruction_of words_in with_words places_of placed header_from value values chained holds all_hold any_holds statement block turns body called value_by decided parts_read cell_put number_printed set_all spent words_of have_tags with_tags tagged used cells_with blocks_with tags_of cells_from
store_beyond = (refl, refl)

-- ---- output: 0 less 7, and then the call is one activation too many

printed_ends : BothAre (record { types = []; funs = source.printing ∷ []; main = 0 }) (number_sig ∷ []) (arg.Int (pos 7) ∷ arg.Bool true ∷ []) 0 1 8 1
    (record { printed = negsuc 6 ∷ []; how = NoStore })
unfolding functions_of value_size value_code operand_places test_size test_code test_labels statement_size statement_code statement_labels number_of places_reach code_reach kind_found outcome_from run step instruction_of words_in with_words places_of placed header_from value values chained holds all_hold any_holds statement block turns body called value_by decided parts_read cell_put number_printed set_all spent words_of have_tags with_tags tagged used cells_with blocks_with tags_of cells_from
printed_ends = (refl, refl)
