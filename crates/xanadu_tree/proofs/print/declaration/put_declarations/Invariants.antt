use Rattle.std.proofs.Common.{◌≡◌, ◌++◌, drop}
use Rattle.xanadu_tree.specs.Printing.{declarations_text}
use Rattle.xanadu_tree.proofs.print.declaration.put_declarations.Given as goal

abbrev pub invariant-loop-declaration : goal.invariant-loop-declaration
invariant-loop-declaration l = l.out.items ++ declarations_text (drop l.declaration-index l.declarations) ≡ l.fn.out.items ++ declarations_text l.declarations
