use Rattle.std.proofs.Common.{◌≡◌, ◌+◌, ◌≤◌, length, All}
use Rattle.dtal_code.specs.Grammar.{IsFunction}
use Rattle.instruction_checks.specs.Proving.{IsReady}
use Rattle.dtal_verifier.specs.Views.{IsDeclared}
use Rattle.dtal_verifier.specs.Walks.{functions_passed}
use Rattle.dtal_verifier.proofs.functions.check_each.Given as goal

abbrev pub invariant-loop-funs : goal.invariant-loop-funs
invariant-loop-funs l = record {
  passed : functions_passed l.program l.number l.funs ≡ functions_passed l.program 0 l.program.funs;
  ready : IsReady l.checker;
  few : l.number + length l.funs ≤ 4294967295;
  functions : All IsFunction l.funs;
  declared : All IsDeclared l.funs;
}

abbrev pub decreases-loop-funs : goal.decreases-loop-funs
decreases-loop-funs l = length l.funs
