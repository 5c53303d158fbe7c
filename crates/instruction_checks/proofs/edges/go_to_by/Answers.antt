use Rattle.operation_rules.specs.Settings.{setting_of}
use Rattle.instruction_checks.specs.Views.{action_of}
use Rattle.instruction_checks.proofs.StepsSame.{goes_to_gives}
use Rattle.instruction_checks.proofs.edges.go_to_by.Goals as goal

pub returns-clause-gone : goal.returns-clause-gone
returns-clause-gone c =
    goes_to_gives c.keep_edge.result (setting_of c.args.site.now.setting) c.args.site.now.labels.now c.args.state.now c.in_ok-target.target.now c.keep_edge.new.state
    (action_of c.args.action.now) c.as_slice-2.result.now c.args.values.now c.args.by.now c.in_ok-target.ensures c.in_ok-types.ensures.types c.as_slice-2.ensures.value c.as_slice.ensures.value
    c.in_ok-check_kinds.ensures c.keep_edge.ensures.left c.keep_edge.ensures.places
