use Rattle.operation_rules.specs.Settings.{setting_of}
use Rattle.instruction_checks.specs.Views.{action_of}
use Rattle.instruction_checks.proofs.StepsSame.{gives_back_same}
use Rattle.instruction_checks.proofs.VerdictParts.{gives_same}
use Rattle.instruction_checks.proofs.going.go_back.Goals as goal

pub returns-clause-gone : goal.returns-clause-gone
returns-clause-gone c =
    gives_same _ c.go_back_by.result _ _ (gives_back_same (setting_of c.args.site.now.setting) c.args.state.now (action_of c.args.action.now) c.args.by.now) c.go_back_by.ensures.gone
