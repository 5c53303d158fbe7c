use Rattle.source_safety.proofs.ExpressionsFare.{values_fare}
use Rattle.source_safety.proofs.laws.operands_fare.Goals as goal

pub returns : goal.returns
returns g c = λ site call env es types all st more assignment run before setting calls is goals it.
    values_fare site setting call calls env es types all st more is goals assignment run before it
