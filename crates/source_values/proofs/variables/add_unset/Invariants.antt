use Rattle.std.proofs.Common.{◌≡◌, ◌++◌, replicate, None}
use Rattle.source_values.proofs.variables.add_unset.Given as goal

abbrev pub invariant-loop-turn : goal.invariant-loop-turn
invariant-loop-turn l = l.slots.items ≡ l.fn.slots.items ++ replicate l._turn None
