use Rattle.std.proofs.Common.{◌≡◌, ◌+◌, ◌+ℤ◌, drop}
use Rattle.xan_lin.specs.Value.{value_of_terms}
use Rattle.xan_lin.specs.Wide.{whole, IsSumOf}
use Rattle.xan_lin.proofs.evaluate.value_of_all.Given as goal

abbrev pub invariant-loop-term : goal.invariant-loop-term
invariant-loop-term l = record {
  same : whole l.value +ℤ value_of_terms l.values (drop l.term-index l.terms) ≡ value_of_terms l.values l.terms +ℤ l.constant;
  small : IsSumOf (l.term-index + 1) l.value;
}
