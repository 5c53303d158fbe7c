use Rattle.operation_rules.proofs.CallsMade.{if_ok, rising_made}
use Rattle.operation_rules.proofs.calls.all_values.Goals as goal

pub returns-clause-rising : goal.returns-clause-rising
returns-clause-rising c =
    if_ok c.with_variables.result _ _
    (λ all is. rising_made c.args.sig.now.vars c.args.first c.args.sig.now.result_vars c.args.values.items all.items is c.requires.rising c.requires.listed) c.with_variables.ensures
