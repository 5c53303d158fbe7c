use Rattle.source_safety.proofs.ExpressionsFare.{value_fares}
use Rattle.source_safety.proofs.laws.expressions_fare.Goals as goal

pub returns : goal.returns
returns g c = λ site call env e st more t assignment run setting calls is goals stands. value_fares site setting call calls env e st t more is goals assignment run stands
