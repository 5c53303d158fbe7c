use Rattle.typed_core.proofs.GrowthLaws.{test_grows, test_names}
use Rattle.typed_core.proofs.growth_laws.tests_grow.Goals as goal

pub returns-clause-grown : goal.returns-clause-grown
returns-clause-grown c = test_grows

pub returns-clause-named : goal.returns-clause-named
returns-clause-named c = test_names
