use Rattle.state_types.proofs.Walks.{type_stays}
use Rattle.state_types.proofs.store_laws.words_keep_their_types.Goals as goal

pub returns : goal.returns
returns c = λ old new assignment word ty keeps has. type_stays old new assignment word ty keeps has
