use Rattle.xanadu_tree.specs.Printing.{signed_text}
use Rattle.xanadu_tree.proofs.PrintedLists.{turn_of_two, over}
use Rattle.xanadu_tree.proofs.TypeTexts.{signed_text-nil, signed_text-cons}
use Rattle.xanadu_tree.proofs.print.index.put_signed.Goals as goal

pub loop-sign-preserved : goal.loop-sign-preserved
loop-sign-preserved c =
    turn_of_two signed_text signed_text _ _ c.loop-sign-item.result _ _ _ _ _ _ c.loop-sign-test.true c.loop-sign-item.is (signed_text-cons _ _)
    c.loop-sign.invariant c.in_ok-put_sign.ensures c.in_ok-put_index_term.ensures

pub returns : goal.returns
returns c = over signed_text _ _ _ _ c.loop-sign-test.false signed_text-nil c.loop-sign.invariant
