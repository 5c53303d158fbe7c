use Rattle.std.proofs.Common.{◌++◌, false, refl, ap}
use Rattle.xanadu_tree.specs.Printing.{listed_from}
use Rattle.xanadu_tree.proofs.PrintedLists.{turn_of_two, over, listed-from}
use Rattle.xanadu_tree.proofs.print.list.put_list.Goals as goal

pub loop-part-init : goal.loop-part-init
loop-part-init g c = ap (λ rest. c.args.out.now.items ++ rest) (listed-from g.T.Part.text c.args.parts.now)

pub loop-part-preserved : goal.loop-part-preserved
loop-part-preserved g c =
    turn_of_two (listed_from c.loop-part.is_first g.T.Part.text) (listed_from false g.T.Part.text) _ _ c.part-item.result _ _ _ _ _ _ c.loop-part-test.true c.part-item.is refl
    c.loop-part.invariant c.in_ok-put_comma_unless.ensures c.in_ok-put.ensures

pub returns : goal.returns
returns g c = over (listed_from c.loop-part.is_first g.T.Part.text) _ _ _ _ c.loop-part-test.false refl c.loop-part.invariant
