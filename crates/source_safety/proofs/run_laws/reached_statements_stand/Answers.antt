use Rattle.source_safety.proofs.ReachedStates.{all_reached, reached_is_before}
use Rattle.source_safety.proofs.run_laws.reached_statements_stand.Goals as goal

pub returns-clause-all : goal.returns-clause-all
returns-clause-all c = all_reached

pub returns-clause-before : goal.returns-clause-before
returns-clause-before c = reached_is_before
