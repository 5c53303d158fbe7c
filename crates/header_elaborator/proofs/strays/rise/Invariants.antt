use Rattle.std.proofs.Common.{length, ◌↔◌}
use Rattle.xan_lin.specs.Subst.{VariablesRise}
use Rattle.header_elaborator.proofs.strays.rise.Given as goal

abbrev pub invariant-loop-values : goal.invariant-loop-values
invariant-loop-values l = VariablesRise l.low l.values ↔ VariablesRise 0 l.fn.values

abbrev pub decreases-loop-values : goal.decreases-loop-values
decreases-loop-values l = length l.values
