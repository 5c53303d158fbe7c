use Rattle.std.proofs.Common.{◌≡◌, replicate}
use Rattle.source_values.proofs.cells.repeated.Given as goal

abbrev pub invariant-loop-turn : goal.invariant-loop-turn
invariant-loop-turn l = l.made.items ≡ replicate l._turn l.value
