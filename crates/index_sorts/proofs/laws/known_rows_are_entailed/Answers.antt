use Rattle.index_sorts.proofs.KnownRows.{known-entailed}
use Rattle.index_sorts.proofs.laws.known_rows_are_entailed.Goals as goal

pub returns : goal.returns
returns c = λ context row h. known-entailed context row h
