use Rattle.xan_lin.proofs.ScaledTerms.{Scaling}
use Rattle.xan_lin.proofs.scale.scaled.Given as goal

abbrev pub invariant-loop-term : goal.invariant-loop-term
invariant-loop-term l = Scaling l.made.items l.terms l.by l.term-index
