use Rattle.operation_rules.specs.Settings.{setting_of}
use Rattle.instruction_checks.specs.Steps.{goes_on_by}
use Rattle.instruction_checks.specs.Views.{IsStanding, action_of}
use Rattle.instruction_checks.proofs.StandingStates.{gives_so, goes_on_stands}
use Rattle.instruction_checks.proofs.StepsSame.{goes_on_same}
use Rattle.instruction_checks.proofs.VerdictParts.{gives_same}
use Rattle.instruction_checks.proofs.going.go_on.Goals as goal

pub returns-clause-gone : goal.returns-clause-gone
returns-clause-gone c =
    gives_same _ c.go_on_by.result _ _ (goes_on_same (setting_of c.args.site.now.setting) c.args.state.now (action_of c.args.action.now) c.args.by.now) c.go_on_by.ensures.gone

pub returns-clause-standing : goal.returns-clause-standing
returns-clause-standing c =
    gives_so (λ _. c.go_on_by.new.state) c.go_on_by.result (goes_on_by (setting_of c.args.site.now.setting) c.args.state.now (action_of c.args.action.now) c.args.by.now)
    (λ s. IsStanding c.args.site.now.setting.own.now.vars s) c.go_on_by.ensures.gone
    (λ s e. goes_on_stands (setting_of c.args.site.now.setting) c.args.state.now s (action_of c.args.action.now) c.args.by.now c.requires.site.set.table c.requires.standing e)
