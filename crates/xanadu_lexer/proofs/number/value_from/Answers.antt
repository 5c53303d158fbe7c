use Rattle.std.proofs.Common.{arith}
use Rattle.xanadu_lexer.proofs.DigitValues.{value_from-passes}
use Rattle.xanadu_lexer.proofs.number.value_from.Goals as goal

-- a number that has grown too great does not shrink
pub returns-in-None : goal.returns-in-None
returns-in-None c = λ fits. c.in-None.ensures
    (omega (arith, fits, value_from-passes c.loop-digit.number c.loop-digit.digit-index c.args.digits.now c.loop-digit-test.true))
