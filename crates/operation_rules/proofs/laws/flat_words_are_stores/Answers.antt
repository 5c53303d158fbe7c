use Rattle.operation_rules.proofs.FlatStores.{flat_stores}
use Rattle.operation_rules.proofs.laws.flat_words_are_stores.Goals as goal

pub returns : goal.returns
returns c = flat_stores
