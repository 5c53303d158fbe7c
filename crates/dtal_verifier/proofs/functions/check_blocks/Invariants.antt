use Rattle.std.proofs.Common.{◌≡◌, ◌+◌, ◌≤◌, length, All}
use Rattle.dtal_code.specs.Grammar.{IsCode, size_of}
use Rattle.operation_rules.specs.Settings.{setting_of}
use Rattle.instruction_checks.specs.Proving.{IsReady}
use Rattle.instruction_checks.specs.Views.{IsStanding}
use Rattle.dtal_verifier.specs.Walks.{blocks_passed}
use Rattle.dtal_verifier.proofs.functions.check_blocks.Given as goal

abbrev pub invariant-loop-begins : goal.invariant-loop-begins
invariant-loop-begins l = record {
  passed : blocks_passed (setting_of l.site.setting) l.site.labels.now l.site.fun l.number l.begins l.blocks
      ≡ blocks_passed (setting_of l.site.setting) l.site.labels.now l.site.fun l.at l.fn.begins l.fn.blocks;
  ready : IsReady l.checker;
  code : All (λ block. IsCode block.code) l.blocks;
  few : l.number + size_of l.blocks ≤ 4294967295;
  standing : All (IsStanding l.site.setting.own.now.vars) l.begins;
}

abbrev pub decreases-loop-begins : goal.decreases-loop-begins
decreases-loop-begins l = length l.begins
