use Rattle.std.proofs.Common.{subst, sym}
use Rattle.dtal_code.specs.Grammar.{InGrammar}
use Rattle.dtal_code.proofs.ArraySumText.{array_sum_in_grammar}
use Rattle.test_objects.proofs.array_sum.printed.Goals as goal

pub print-requires : goal.print-requires
print-requires c = subst InGrammar (sym c.requires) array_sum_in_grammar
