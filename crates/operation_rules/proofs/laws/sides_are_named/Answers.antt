use Rattle.operation_rules.proofs.RuleNames.{sides_named}
use Rattle.operation_rules.proofs.laws.sides_are_named.Goals as goal

pub returns : goal.returns
returns c = λ taken op types vars below. sides_named vars taken op types below
