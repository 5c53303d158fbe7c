use Rattle.std.proofs.Common.{◌≡◌, ◌++◌, drop}
use Rattle.xan_lin.specs.Products.{product_terms}
use Rattle.xan_lin.specs.Subst.{replaced_terms}
use Rattle.xan_lin.proofs.replace.push_all_replaced.Given as goal

abbrev pub invariant-loop-term : goal.invariant-loop-term
invariant-loop-term g l = product_terms l.made.items ++ replaced_terms l.values l.below (drop l.term-index l.terms) ≡ replaced_terms l.values l.below l.terms
