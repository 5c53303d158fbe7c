use Rattle.std.proofs.Common.{◌≡◌, length}
use Rattle.operation_rules.specs.Applied.{all_given}
use Rattle.operation_rules.proofs.TypesGiven.{given_behind}
use Rattle.operation_rules.proofs.applying.types_given.Given as goal

abbrev pub invariant-loop-given : goal.invariant-loop-given
invariant-loop-given l = given_behind l.made.items (all_given l.given) ≡ all_given l.fn.given

abbrev pub decreases-loop-given : goal.decreases-loop-given
decreases-loop-given l = length l.given
