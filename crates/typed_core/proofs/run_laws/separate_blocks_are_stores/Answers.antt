use Rattle.typed_core.proofs.SeparateStores.{separate_is}
use Rattle.typed_core.proofs.run_laws.separate_blocks_are_stores.Goals as goal

pub returns : goal.returns
returns c = separate_is
