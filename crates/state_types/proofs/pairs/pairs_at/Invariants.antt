use Rattle.std.proofs.Common.{◌≡◌, length, []}
use Rattle.state_types.specs.Matching.{pairs_at}
use Rattle.state_types.proofs.pairs.pairs_at.Given as goal

abbrev pub invariant-loop-wanted : goal.invariant-loop-wanted
invariant-loop-wanted l = pairs_at l.here l.wanted l.made.items ≡ pairs_at l.here l.fn.wanted []

abbrev pub decreases-loop-wanted : goal.decreases-loop-wanted
decreases-loop-wanted l = length l.wanted
