use Rattle.typed_core.proofs.GrowthLaws.{block_later, block_types}
use Rattle.typed_core.proofs.growth_laws.blocks_grow.Goals as goal

pub returns-clause-later : goal.returns-clause-later
returns-clause-later c = block_later

pub returns-clause-types : goal.returns-clause-types
returns-clause-types c = block_types
