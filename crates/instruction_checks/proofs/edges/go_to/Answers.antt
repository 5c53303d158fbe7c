use Rattle.operation_rules.specs.Settings.{setting_of}
use Rattle.instruction_checks.specs.Steps.{goes_to_by}
use Rattle.instruction_checks.specs.Views.{IsStanding, action_of}
use Rattle.instruction_checks.proofs.StandingStates.{gives_so, goes_to_stands}
use Rattle.instruction_checks.proofs.StepsSame.{goes_to_same}
use Rattle.instruction_checks.proofs.VerdictParts.{gives_same}
use Rattle.instruction_checks.proofs.edges.go_to.Goals as goal

pub returns-clause-gone : goal.returns-clause-gone
returns-clause-gone c =
    gives_same _ c.go_to_by.result _ _
    (goes_to_same (setting_of c.args.site.now.setting) c.args.site.now.labels.now c.args.state.now (action_of c.args.action.now) c.args.values.now c.args.by.now) c.go_to_by.ensures.gone

pub returns-clause-standing : goal.returns-clause-standing
returns-clause-standing c =
    gives_so (λ _. c.go_to_by.new.state) c.go_to_by.result
    (goes_to_by (setting_of c.args.site.now.setting) c.args.site.now.labels.now c.args.state.now (action_of c.args.action.now) c.args.values.now c.args.by.now)
    (λ s. IsStanding c.args.site.now.setting.own.now.vars s) c.go_to_by.ensures.gone
    (λ s e. goes_to_stands (setting_of c.args.site.now.setting) c.args.site.now.labels.now c.args.state.now s (action_of c.args.action.now) c.args.values.now c.args.by.now
    c.requires.standing e)
