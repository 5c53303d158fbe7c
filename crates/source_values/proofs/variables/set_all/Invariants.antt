use Rattle.std.proofs.Common.{◌≡◌, length}
use Rattle.source_values.specs.Variables.{set_all}
use Rattle.source_values.proofs.variables.set_all.Given as goal

abbrev pub invariant-loop-xs : goal.invariant-loop-xs
invariant-loop-xs l = set_all l.variables l.xs l.values ≡ set_all l.fn.variables l.fn.xs l.fn.values

abbrev pub decreases-loop-xs : goal.decreases-loop-xs
decreases-loop-xs l = length l.xs
