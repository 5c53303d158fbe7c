use Rattle.state_types.proofs.Walks.{written_same}
use Rattle.state_types.proofs.store_laws.written_cells_keep_headers.Goals as goal

pub returns : goal.returns
returns c = λ words block index address header word e h. written_same words block header index word address e h
