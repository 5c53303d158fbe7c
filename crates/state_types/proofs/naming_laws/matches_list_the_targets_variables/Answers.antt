use Rattle.state_types.proofs.RowNames.{match-keys}
use Rattle.state_types.proofs.naming_laws.matches_list_the_targets_variables.Goals as goal

pub returns : goal.returns
returns c = λ below vars rows wanted actual found e. match-keys below vars rows wanted actual found e
