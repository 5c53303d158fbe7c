use Rattle.std.proofs.Common.{◌≡◌, ◌+◌, ◌≤◌, length, All}
use Rattle.dtal_code.specs.Grammar.{IsInstr}
use Rattle.operation_rules.specs.Settings.{setting_of}
use Rattle.instruction_checks.specs.Proving.{IsReady}
use Rattle.instruction_checks.specs.Views.{IsStanding}
use Rattle.dtal_verifier.specs.Walks.{code_passed}
use Rattle.dtal_verifier.proofs.functions.check_code.Given as goal

abbrev pub invariant-loop-code : goal.invariant-loop-code
invariant-loop-code l = record {
  passed : code_passed (setting_of l.site.setting) l.site.labels.now l.site.fun l.number l.state l.code
      ≡ code_passed (setting_of l.site.setting) l.site.labels.now l.site.fun l.at l.fn.state l.fn.code;
  ready : IsReady l.checker;
  instrs : All IsInstr l.code;
  few : l.number + length l.code ≤ 4294967295;
  standing : IsStanding l.site.setting.own.now.vars l.state;
}

abbrev pub decreases-loop-code : goal.decreases-loop-code
decreases-loop-code l = length l.code
