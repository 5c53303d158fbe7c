use Rattle.xanadu_tree.specs.Printing.{declarations_text}
use Rattle.xanadu_tree.proofs.PrintedLists.{turn, over}
use Rattle.xanadu_tree.proofs.StatementTexts.{declarations_text-nil, declarations_text-cons}
use Rattle.xanadu_tree.proofs.print.declaration.put_declarations.Goals as goal

pub loop-declaration-preserved : goal.loop-declaration-preserved
loop-declaration-preserved c =
    turn declarations_text declarations_text _ _ c.declaration-item.result _ _ _ _ c.loop-declaration-test.true c.declaration-item.is (declarations_text-cons _ _)
    c.loop-declaration.invariant c.in_ok-put_declaration.ensures

pub returns : goal.returns
returns c = over declarations_text _ _ _ _ c.loop-declaration-test.false declarations_text-nil c.loop-declaration.invariant
