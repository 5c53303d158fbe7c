use Rattle.operation_rules.proofs.RowsNamed.{rows_named}
use Rattle.operation_rules.proofs.laws.assumed_rows_are_named.Goals as goal

pub returns : goal.returns
returns c = λ st op types first r closed e below. rows_named st op types first r closed e below
