use Rattle.std.proofs.Common.{◌+◌, length}
use Rattle.xan_lin.specs.Terms.{sum_terms}
use Rattle.xan_lin.proofs.MergedTerms.{Merging}
use Rattle.xan_lin.proofs.merge.merged.Given as goal

abbrev pub invariant-terms : goal.invariant-terms
invariant-terms l = Merging l.made.items l.later_left l.later_right (sum_terms l.fn.left l.fn.right)

abbrev pub decreases-terms : goal.decreases-terms
decreases-terms l = length l.later_left + length l.later_right
