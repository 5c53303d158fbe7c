use Rattle.std.proofs.Common.{subst, sym}
use Rattle.dtal_code.specs.Grammar.{InGrammar}
use Rattle.dtal_code.proofs.ArraySumText.{array_sum_in_grammar}
use Rattle.test_objects.proofs.array_sum.verified.Goals as goal

pub verify-requires : goal.verify-requires
verify-requires c = subst InGrammar (sym c.requires) array_sum_in_grammar
