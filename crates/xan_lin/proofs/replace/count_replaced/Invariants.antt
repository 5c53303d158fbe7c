use Rattle.std.proofs.Common.{◌≡◌, ◌+◌, ◌*◌, ◌≤◌, drop, length}
use Rattle.xan_lin.specs.Subst.{replaced_terms}
use Rattle.xan_lin.proofs.replace.count_replaced.Given as goal

abbrev pub invariant-loop-term : goal.invariant-loop-term
invariant-loop-term l = record {
  counted : l.count + length (replaced_terms l.values l.below (drop l.term-index l.terms)) ≡ length (replaced_terms l.values l.below l.terms);
  few : l.count ≤ l.term-index * 16;
}
