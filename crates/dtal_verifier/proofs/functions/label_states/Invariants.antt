use Rattle.std.proofs.Common.{◌≡◌, ◌+◌, ◌≤◌, length, All}
use Rattle.dtal_code.specs.Refusing.{labels_walked}
use Rattle.dtal_verifier.specs.Views.{table_with}
use Rattle.instruction_checks.specs.Views.{IsStanding}
use Rattle.dtal_verifier.specs.Walks.{states_behind}
use Rattle.dtal_verifier.proofs.functions.label_states.Given as goal

abbrev pub invariant-loop-blocks : goal.invariant-loop-blocks
invariant-loop-blocks l = record {
  walked : states_behind l.made.items (labels_walked (table_with l.types) l.sig l.fun l.label l.blocks) ≡ labels_walked (table_with l.types) l.sig l.fun 1 l.fn.blocks;
  few : l.label + length l.blocks ≤ 4294967296;
  standing : All (IsStanding l.sig.vars) l.made.items;
}

abbrev pub decreases-loop-blocks : goal.decreases-loop-blocks
decreases-loop-blocks l = length l.blocks
