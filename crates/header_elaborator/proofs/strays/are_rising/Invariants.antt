use Rattle.std.proofs.Common.{length, ◌↔◌}
use Rattle.xanadu_tree.specs.IndexRules.{AreRising}
use Rattle.header_elaborator.proofs.strays.are_rising.Given as goal

abbrev pub invariant-loop-terms : goal.invariant-loop-terms
invariant-loop-terms l = AreRising l.low l.terms ↔ AreRising 0 l.fn.terms

abbrev pub decreases-loop-terms : goal.decreases-loop-terms
decreases-loop-terms l = length l.terms
