use Rattle.std.proofs.Common.{◌≡◌, ◌++◌, drop}
use Rattle.xanadu_tree.specs.Printing.{statements_text}
use Rattle.xanadu_tree.proofs.print.statement.+print_statement.Given as goal

abbrev pub invariant-put_statements-loop-statement : goal.invariant-put_statements-loop-statement
invariant-put_statements-loop-statement l = l.out.items ++ statements_text (drop l.statement-index l.statements) ≡ l.fn.out.items ++ statements_text l.statements
