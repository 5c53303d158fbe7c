use Rattle.operation_rules.proofs.RuleNames.{rule_names}
use Rattle.operation_rules.proofs.laws.ruled_rows_and_types_are_named.Goals as goal

pub returns-clause-demands : goal.returns-clause-demands
returns-clause-demands c = λ st op types first r closed le e below. (rule_names st op types first r closed le e below).demands

pub returns-clause-given : goal.returns-clause-given
returns-clause-given c = λ st op types first r closed le e below. (rule_names st op types first r closed le e below).given
