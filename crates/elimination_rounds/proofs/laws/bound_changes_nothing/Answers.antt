use Rattle.elimination_rounds.proofs.EndedRounds.{refutation-comes, refutation-only}
use Rattle.elimination_rounds.proofs.laws.bound_changes_nothing.Goals as goal

pub returns-clause-is : goal.returns-clause-is
returns-clause-is c = λ hyps goal forms form. refutation-comes hyps goal forms form

pub returns-clause-only : goal.returns-clause-only
returns-clause-only c = λ hyps goal answer forms form is. refutation-only hyps goal answer forms form is
