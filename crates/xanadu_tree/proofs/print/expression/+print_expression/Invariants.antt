use Rattle.std.proofs.Common.{◌≡◌, ◌++◌, drop}
use Rattle.xanadu_tree.specs.Printing.{conjunctions_text, negations_text, addends_text, factors_text, indices_text, arguments_text, arguments_from}
use Rattle.xanadu_tree.proofs.print.expression.+print_expression.Given as goal

abbrev pub invariant-put_addends-loop-op : goal.invariant-put_addends-loop-op
invariant-put_addends-loop-op l = l.out.items ++ addends_text (drop l.op-index l.addends) ≡ l.fn.out.items ++ addends_text l.addends

abbrev pub invariant-put_arguments-loop-argument : goal.invariant-put_arguments-loop-argument
invariant-put_arguments-loop-argument l = l.out.items ++ arguments_from l.is_first (drop l.argument-index l.arguments) ≡ l.fn.out.items ++ arguments_text l.arguments

abbrev pub invariant-put_conjunctions-loop-conjunction : goal.invariant-put_conjunctions-loop-conjunction
invariant-put_conjunctions-loop-conjunction l = l.out.items ++ conjunctions_text (drop l.conjunction-index l.conjunctions) ≡ l.fn.out.items ++ conjunctions_text l.conjunctions

abbrev pub invariant-put_factors-loop-op : goal.invariant-put_factors-loop-op
invariant-put_factors-loop-op l = l.out.items ++ factors_text (drop l.op-index l.factors) ≡ l.fn.out.items ++ factors_text l.factors

abbrev pub invariant-put_indices-loop-index : goal.invariant-put_indices-loop-index
invariant-put_indices-loop-index l = l.out.items ++ indices_text (drop l.index-index l.indices) ≡ l.fn.out.items ++ indices_text l.indices

abbrev pub invariant-put_negations-loop-negation : goal.invariant-put_negations-loop-negation
invariant-put_negations-loop-negation l = l.out.items ++ negations_text (drop l.negation-index l.negations) ≡ l.fn.out.items ++ negations_text l.negations
