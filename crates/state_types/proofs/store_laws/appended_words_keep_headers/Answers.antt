use Rattle.state_types.proofs.Walks.{appended_keep}
use Rattle.state_types.proofs.store_laws.appended_words_keep_headers.Goals as goal

pub returns : goal.returns
returns c = λ words more. appended_keep words more
