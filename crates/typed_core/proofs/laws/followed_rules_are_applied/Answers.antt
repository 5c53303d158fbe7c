use Rattle.typed_core.proofs.FollowedApplied.{followed_is_applied, applied_is_followed}
use Rattle.typed_core.proofs.laws.followed_rules_are_applied.Goals as goal

pub returns-clause-applied : goal.returns-clause-applied
returns-clause-applied c = followed_is_applied

pub returns-clause-followed : goal.returns-clause-followed
returns-clause-followed c = applied_is_followed
