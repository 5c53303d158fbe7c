use Rattle.xanadu_tree.specs.Printing.{statements_text}
use Rattle.xanadu_tree.proofs.PrintedLists.{turn, over}
use Rattle.xanadu_tree.proofs.StatementTexts.{statements_text-nil, statements_text-cons}
use Rattle.xanadu_tree.proofs.print.statement.+print_statement.Goals as goal

pub put_statements-loop-statement-preserved : goal.put_statements-loop-statement-preserved
put_statements-loop-statement-preserved t c =
    turn statements_text statements_text _ _ c.statement-item.result _ _ _ _ c.loop-statement-test.true c.statement-item.is (statements_text-cons _ _)
    c.loop-statement.invariant c.in_ok-put_statement.ensures

pub put_statements-returns : goal.put_statements-returns
put_statements-returns t c = over statements_text _ _ _ _ c.loop-statement-test.false statements_text-nil c.loop-statement.invariant
