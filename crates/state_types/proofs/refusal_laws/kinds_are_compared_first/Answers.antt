use Rattle.state_types.proofs.KindRefusals.{match_kinds}
use Rattle.state_types.proofs.refusal_laws.kinds_are_compared_first.Goals as goal

pub returns : goal.returns
returns c = λ below vars rows wanted actual number same. match_kinds below vars rows wanted actual number same
