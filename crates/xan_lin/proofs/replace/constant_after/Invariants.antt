use Rattle.std.proofs.Common.{◌≡◌, ◌+◌, ◌+ℤ◌, drop}
use Rattle.xan_lin.specs.Subst.{replaced_constant}
use Rattle.xan_lin.specs.Wide.{whole, IsSumOf}
use Rattle.xan_lin.proofs.replace.constant_after.Given as goal

abbrev pub invariant-loop-term : goal.invariant-loop-term
invariant-loop-term l = record {
  same : whole l.value +ℤ replaced_constant l.values l.below (drop l.term-index l.terms) ≡ replaced_constant l.values l.below l.terms +ℤ l.constant;
  small : IsSumOf (l.term-index + 1) l.value;
}
