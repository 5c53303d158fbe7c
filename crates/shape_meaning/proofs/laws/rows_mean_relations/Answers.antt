use Rattle.shape_meaning.proofs.RelationRows.{relations_say}
use Rattle.shape_meaning.proofs.laws.rows_mean_relations.Goals as goal

pub returns : goal.returns
returns c = relations_say
