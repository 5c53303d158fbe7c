use Rattle.std.proofs.Common.{◌≡◌, length}
use Rattle.state_types.specs.Matching.{value_for}
use Rattle.state_types.proofs.values.value_for.Given as goal

abbrev pub invariant-loop-pairs : goal.invariant-loop-pairs
invariant-loop-pairs l = value_for l.var l.pairs ≡ value_for l.var l.fn.pairs

abbrev pub decreases-loop-pairs : goal.decreases-loop-pairs
decreases-loop-pairs l = length l.pairs
