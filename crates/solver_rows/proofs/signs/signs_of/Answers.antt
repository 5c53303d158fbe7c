use Rattle.std.proofs.Common.{refl, arith}
use Rattle.solver_rows.proofs.SignLemmas.{signs_more, signs_begin}
use Rattle.solver_rows.proofs.signs.signs_of.Goals as goal

pub numbers-init : goal.numbers-init
numbers-init c = signs_begin _ c.args.numbers.now c.none-signs.ensures.positive c.none-signs.ensures.negative

pub numbers-preserved : goal.numbers-preserved
numbers-preserved c =
    signs_more c.numbers.signs c.with_number-signs.result c.args.numbers.now c.numbers.column _ c.numbers.invariant (omega (arith, c.numbers-test.true, c.requires)) c.numbers-test.true refl
    c.with_number-signs.ensures.positive c.with_number-signs.ensures.negative
