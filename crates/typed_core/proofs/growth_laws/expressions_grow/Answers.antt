use Rattle.typed_core.proofs.GrowthLaws.{expression_grows, expression_names}
use Rattle.typed_core.proofs.growth_laws.expressions_grow.Goals as goal

pub returns-clause-grown : goal.returns-clause-grown
returns-clause-grown c = expression_grows

pub returns-clause-named : goal.returns-clause-named
returns-clause-named c = expression_names
