use Rattle.std.proofs.Common.{◌≡◌, length, []}
use Rattle.state_types.specs.Matching.{type_rows}
use Rattle.state_types.proofs.rows.type_rows.Given as goal

abbrev pub invariant-loop-pairs : goal.invariant-loop-pairs
invariant-loop-pairs l = type_rows l.values l.below l.pairs l.made.items ≡ type_rows l.values l.below l.fn.pairs []

abbrev pub decreases-loop-pairs : goal.decreases-loop-pairs
decreases-loop-pairs l = length l.pairs
