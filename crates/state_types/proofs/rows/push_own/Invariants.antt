use Rattle.std.proofs.Common.{◌≡◌, length}
use Rattle.state_types.specs.Matching.{own_rows}
use Rattle.state_types.proofs.rows.push_own.Given as goal

abbrev pub invariant-loop-rows : goal.invariant-loop-rows
invariant-loop-rows l = own_rows l.values l.below l.rows l.made.items ≡ own_rows l.values l.below l.fn.rows l.fn.made.items

abbrev pub decreases-loop-rows : goal.decreases-loop-rows
decreases-loop-rows l = length l.rows
