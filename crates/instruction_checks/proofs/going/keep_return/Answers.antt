use Rattle.operation_rules.specs.Settings.{setting_of}
use Rattle.instruction_checks.proofs.StandingStates.{back_same}
use Rattle.instruction_checks.proofs.going.keep_return.Goals as goal

pub returns-clause-same : goal.returns-clause-same
returns-clause-same c =
    back_same (setting_of c.args.site.now.setting) c.args.op.now c.args.types.now c.args.ctx.now c.args.by.now (c.in_ok-keep_rule.field-0, c.keep_rule.new.ctx)
    c.requires.returns c.in_ok-keep_rule.ensures.kept
