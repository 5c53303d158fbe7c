use Rattle.std.proofs.Common.{arith}
use Rattle.dtal_code.proofs.WordBytes.{power_positive, more_small}
use Rattle.dtal_code.proofs.coding.+word_of_places.Goals as goal

pub overflow_mul-result : goal.overflow_mul-result
overflow_mul-result t c = let small = c.word_of_places.ensures.small 7 (omega arith) in omega (arith, small)

pub overflow_add-result : goal.overflow_add-result
overflow_add-result t c = let small = c.word_of_places.ensures.small 7 (omega arith) in omega (arith, small)

pub returns-in-empty-clause-small : goal.returns-in-empty-clause-small
returns-in-empty-clause-small t c room few = power_positive room

pub returns-in-len1-up-clause-small : goal.returns-in-len1-up-clause-small
returns-in-len1-up-clause-small t c room few = more_small room c.from.result c.word_of_places.result _ (omega arith) c.word_of_places.ensures.small (omega arith)
