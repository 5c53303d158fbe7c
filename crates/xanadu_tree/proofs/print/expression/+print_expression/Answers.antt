use Rattle.std.proofs.Common.{false, arith}
use Rattle.std.proofs.lemmas.Grind.{common_steps}
use Rattle.xanadu_tree.specs.Printing.{conjunctions_text, negations_text, addends_text, factors_text, indices_text, arguments_from}
use Rattle.xanadu_tree.proofs.PrintedLists.{turn_of_two, turn_of_three, over, arguments_from-nil, arguments_from-cons}
use Rattle.xanadu_tree.proofs.Texts.{expression_texts, conjunctions_text-cons, negations_text-cons, addends_text-cons, factors_text-cons, indices_text-cons}
use Rattle.xanadu_tree.proofs.print.expression.+print_expression.Goals as goal

pub put_addends-loop-op-preserved : goal.put_addends-loop-op-preserved
put_addends-loop-op-preserved t c =
    turn_of_two addends_text addends_text _ _ c.loop-op-item.result _ _ _ _ _ _ c.loop-op-test.true c.loop-op-item.is (addends_text-cons _ _)
    c.loop-op.invariant c.in_ok-put_op.ensures c.in_ok-put_product.ensures

pub put_addends-returns : goal.put_addends-returns
put_addends-returns t c = grind (arith, common_steps, expression_texts)

pub put_conjunctions-loop-conjunction-preserved : goal.put_conjunctions-loop-conjunction-preserved
put_conjunctions-loop-conjunction-preserved t c =
    turn_of_two conjunctions_text conjunctions_text _ _ c.loop-conjunction-item.result _ _ _ _ _ _ c.loop-conjunction-test.true c.loop-conjunction-item.is (conjunctions_text-cons _ _)
    c.loop-conjunction.invariant c.in_ok-put_mark.ensures c.in_ok-put_conjunction.ensures

pub put_conjunctions-returns : goal.put_conjunctions-returns
put_conjunctions-returns t c = grind (arith, common_steps, expression_texts)

pub put_factors-loop-op-preserved : goal.put_factors-loop-op-preserved
put_factors-loop-op-preserved t c =
    turn_of_two factors_text factors_text _ _ c.loop-op-item.result _ _ _ _ _ _ c.loop-op-test.true c.loop-op-item.is (factors_text-cons _ _)
    c.loop-op.invariant c.in_ok-put_op.ensures c.in_ok-put_unary.ensures

pub put_factors-returns : goal.put_factors-returns
put_factors-returns t c = grind (arith, common_steps, expression_texts)

pub put_negations-loop-negation-preserved : goal.put_negations-loop-negation-preserved
put_negations-loop-negation-preserved t c =
    turn_of_two negations_text negations_text _ _ c.loop-negation-item.result _ _ _ _ _ _ c.loop-negation-test.true c.loop-negation-item.is (negations_text-cons _ _)
    c.loop-negation.invariant c.in_ok-put_mark.ensures c.in_ok-put_negation.ensures

pub put_negations-returns : goal.put_negations-returns
put_negations-returns t c = grind (arith, common_steps, expression_texts)

pub put_indices-loop-index-preserved : goal.put_indices-loop-index-preserved
put_indices-loop-index-preserved t c =
    turn_of_three indices_text indices_text _ _ c.loop-index-item.result _ _ _ _ _ _ _ _ c.loop-index-test.true c.loop-index-item.is (indices_text-cons _ _)
    c.loop-index.invariant c.in_ok-put_mark.ensures c.in_ok-put_expression.ensures c.in_ok-put_mark-2.ensures

pub put_indices-returns : goal.put_indices-returns
put_indices-returns t c = grind (arith, common_steps, expression_texts)

pub put_arguments-loop-argument-preserved : goal.put_arguments-loop-argument-preserved
put_arguments-loop-argument-preserved t c =
    turn_of_two (arguments_from c.loop-argument.is_first) (arguments_from false) _ _ c.argument-item.result _ _ _ _ _ _ c.loop-argument-test.true c.argument-item.is (arguments_from-cons c.loop-argument.is_first _ _)
    c.loop-argument.invariant c.in_ok-put_comma_unless.ensures c.in_ok-put_expression.ensures

pub put_arguments-returns : goal.put_arguments-returns
put_arguments-returns t c = over (arguments_from c.loop-argument.is_first) _ _ _ _ c.loop-argument-test.false (arguments_from-nil _) c.loop-argument.invariant
