use Rattle.std.proofs.Common.{◌≡◌, ◌++◌, drop}
use Rattle.xanadu_tree.specs.Printing.{signed_text}
use Rattle.xanadu_tree.proofs.print.index.put_signed.Given as goal

abbrev pub invariant-loop-sign : goal.invariant-loop-sign
invariant-loop-sign l = l.out.items ++ signed_text (drop l.sign-index l.terms) ≡ l.fn.out.items ++ signed_text l.terms
