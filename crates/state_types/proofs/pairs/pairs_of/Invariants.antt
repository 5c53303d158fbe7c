use Rattle.std.proofs.Common.{◌≡◌, length, []}
use Rattle.state_types.specs.Matching.{pairs_of}
use Rattle.state_types.proofs.pairs.pairs_of.Given as goal

abbrev pub invariant-loop-wanted : goal.invariant-loop-wanted
invariant-loop-wanted l = pairs_of l.number l.wanted l.actual l.made.items ≡ pairs_of 0 l.fn.wanted l.fn.actual []

abbrev pub decreases-loop-wanted : goal.decreases-loop-wanted
decreases-loop-wanted l = length l.wanted
