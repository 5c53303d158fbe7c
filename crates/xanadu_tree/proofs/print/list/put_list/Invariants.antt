use Rattle.std.proofs.Common.{◌≡◌, ◌++◌, drop}
use Rattle.xanadu_tree.specs.Printing.{listed, listed_from}
use Rattle.xanadu_tree.proofs.print.list.put_list.Given as goal

abbrev pub invariant-loop-part : goal.invariant-loop-part
invariant-loop-part g l = l.out.items ++ listed_from l.is_first g.T.Part.text (drop l.part-index l.parts) ≡ l.fn.out.items ++ listed g.T.Part.text l.parts
