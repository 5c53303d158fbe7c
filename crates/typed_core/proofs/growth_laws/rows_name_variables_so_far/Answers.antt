use Rattle.typed_core.proofs.RowsSoFar.{before_named}
use Rattle.typed_core.proofs.growth_laws.rows_name_variables_so_far.Goals as goal

pub returns : goal.returns
returns c = before_named
