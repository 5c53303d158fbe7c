use Rattle.std.proofs.Common.{◌≡◌, map, take}
use Rattle.xan_lin.specs.Terms.{negated_term}
use Rattle.xan_lin.proofs.merge.negated.Given as goal

abbrev pub invariant-loop-term : goal.invariant-loop-term
invariant-loop-term l = l.made.items ≡ map negated_term (take l.term-index l.terms)
