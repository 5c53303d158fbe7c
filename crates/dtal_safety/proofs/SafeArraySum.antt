-- The sum of an array, as its text is worked out in `dtal_code`, is accepted, and so its runs are safe.
use Rattle.std.proofs.Common.{◌≡◌, ℕ, List, true, is_ok, Result, Ok, Err, refl}
use Rattle.xan_io.specs.declared.arg.Arg.{Arg}
use Rattle.dtal_code.specs.ObjectCode.{code_of}
use Rattle.dtal_code.specs.Runs.{program_entry}
use Rattle.dtal_code.specs.Safety.{RunsSafely}
use Rattle.dtal_code.proofs.ArraySums.{array_sum}
use Rattle.dtal_code.proofs.ArraySumText.{array_sum_in_grammar}
use Rattle.dtal_code.proofs.VerifiedPrograms.{verified_is_accepted}
use Rattle.index_sorts.specs.Known.{knows, with_row}
use Rattle.xan_lin.specs.Linear.{sized, excess_of}
use Rattle.xan_lin.specs.Subst.{replacement, replaced_terms, replaced_constant}
use Rattle.xan_lin.specs.Terms.{sum_terms, plus_term, scaled_terms}
use Rattle.proof_lines.specs.Check.{row_given, checked_from}
use Rattle.proof_lines.specs.Variables.{with_terms, with_rows}
use Rattle.state_types.specs.Matching.{matched, found_with, pairs_of, pair_of, pair_at, pairs_at, values_for, value_for, demanded, type_rows, index_rows, differences, own_rows}
use Rattle.operation_rules.specs.Applied.{applied, widened, all_assuming, all_given, named, all_there, ruled}
use Rattle.operation_rules.specs.Rules.{rule, two_numbers, cell_at, loaded, measured, matching, returned}
use Rattle.dtal_code.specs.Declarations.{are_alone, names_own, signature_verdict, main_of, program_verdict, stated, numbered, state_with, state_verdict}
use Rattle.dtal_code.specs.Passing.{unknown, are_proved, are_different, with_types, ruled_verdict, goes_on_verdict, gives_back_verdict, edge_verdict, goes_to_verdict, instr_verdict}
use Rattle.dtal_code.specs.Refusing.{types_walked, signatures_walked, labels_walked, code_walked, blocks_walked, function_walked, functions_walked, verified}
use Rattle.dtal_safety.proofs.AcceptedRuns.{runs_safely}

ok_value : {A E : Type 0} (r : Result A E) → is_ok r ≡ true → (x : A) × (r ≡ Ok x)
ok_value (Ok x) e = (x, refl)
ok_value (Err fault) e = absurd (let bad : ⊥ = cc in bad)

passes : is_ok (verified array_sum) ≡ true
unfolding verified types_walked signatures_walked labels_walked code_walked blocks_walked function_walked functions_walked are_alone names_own signature_verdict main_of program_verdict stated numbered state_with state_verdict unknown are_proved are_different with_types ruled_verdict goes_on_verdict gives_back_verdict edge_verdict goes_to_verdict instr_verdict applied widened all_assuming all_given named all_there ruled rule two_numbers cell_at loaded measured matching returned matched found_with pairs_of pair_of pair_at pairs_at values_for value_for demanded type_rows index_rows differences own_rows replacement replaced_terms replaced_constant sized excess_of sum_terms plus_term knows with_row row_given checked_from with_terms with_rows scaled_terms
passes = refl

pub array_sum_runs_safely : (args : List Arg) (heap depth steps : ℕ) → RunsSafely (code_of array_sum) (program_entry array_sum args heap depth) steps
array_sum_runs_safely args heap depth steps =
    let found = ok_value (verified array_sum) passes in
    runs_safely array_sum (verified_is_accepted array_sum found.0 array_sum_in_grammar found.1).accepted args heap depth steps
