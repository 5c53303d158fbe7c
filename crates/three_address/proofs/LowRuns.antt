-- Runs of the code over places, worked out by hand.
use Rattle.std.proofs.Common.{◌≡◌, pos, negsuc, List, [], ◌∷◌, Some, None, refl, Err}
use Rattle.xan_io.specs.Entry.{ArgKind}
use Rattle.xan_io.specs.Outcome.{Returned, NoStore, Running}
use Rattle.xan_io.specs.declared.arg.Arg.{Arg}
use Rattle.xan_io.specs.declared.arg.Arg.TheVariants as arg
use Rattle.state_types.specs.Words.{header_from}
use Rattle.operation_rules.specs.Entry.{entry_fault, kind_fault, variable_values, variable_value, index_fault, row_fault, placed}
use Rattle.xan_lin.specs.Value.{value_of_terms}
use Rattle.three_address.specs.Entry.{low_outcome, low_entry, outcome_from, fault_of}
use Rattle.three_address.specs.Instructions.{instruction_of}
use Rattle.three_address.specs.Machine.{places_of, words_in, with_words, step, run}
use Rattle.three_address.proofs.LowSources.{sum_program, sum_fun, calls_program}

abbrev sum_args : List Arg
sum_args = arg.Array (pos 4 ∷ pos 5 ∷ negsuc 1 ∷ []) ∷ []

-- before the loop 3 steps, 7 for each cell, 3 for the end
sum_ends : low_outcome sum_program sum_args 5 1 27 ≡ record { printed = []; how = Returned (pos 7) }
unfolding outcome_from run step instruction_of words_in with_words places_of placed header_from
sum_ends = refl

sum_runs : low_outcome sum_program sum_args 5 1 26 ≡ record { printed = []; how = Running }
unfolding outcome_from run step instruction_of words_in with_words places_of placed header_from
sum_runs = refl

-- the array takes 5 words
sum_has_no_room : low_outcome sum_program sum_args 4 1 0 ≡ record { printed = []; how = NoStore }
unfolding outcome_from placed
sum_has_no_room = refl

sum_of_none : low_outcome sum_program (arg.Array [] ∷ []) 2 1 6 ≡ record { printed = []; how = Returned (pos 0) }
unfolding outcome_from run step instruction_of words_in with_words places_of placed header_from
sum_of_none = refl

sum_of_number : low_entry sum_program (arg.Int (pos 4) ∷ []) 5 1 ≡ Err (ArgKind 1)
unfolding entry_fault kind_fault
sum_of_number = refl

sum_has_no_fault : fault_of (Some sum_fun) sum_args ≡ None
unfolding entry_fault kind_fault variable_values variable_value index_fault row_fault value_of_terms
sum_has_no_fault = refl

-- `main`, and `f` of 2, 1 and 0
calls_end : low_outcome calls_program (arg.Int (pos 2) ∷ []) 0 4 20 ≡ record { printed = []; how = Returned (pos 3) }
unfolding outcome_from run step instruction_of words_in with_words places_of placed
calls_end = refl

calls_run : low_outcome calls_program (arg.Int (pos 2) ∷ []) 0 4 19 ≡ record { printed = []; how = Running }
unfolding outcome_from run step instruction_of words_in with_words places_of placed
calls_run = refl

-- the fourth activation is one too many
calls_too_deep : low_outcome calls_program (arg.Int (pos 2) ∷ []) 0 3 12 ≡ record { printed = []; how = NoStore }
unfolding outcome_from run step instruction_of words_in with_words places_of placed
calls_too_deep = refl

no_depth : low_outcome calls_program (arg.Int (pos 2) ∷ []) 0 0 0 ≡ record { printed = []; how = NoStore }
unfolding outcome_from
no_depth = refl
