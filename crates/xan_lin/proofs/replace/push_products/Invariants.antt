use Rattle.std.proofs.Common.{◌≡◌, ◌+◌, ◌++◌, take}
use Rattle.arrayvec.specs.ArrayVec.{array_vec_len}
use Rattle.xan_lin.specs.Products.{product_terms}
use Rattle.xan_lin.specs.Subst.{multiples}
use Rattle.xan_lin.proofs.replace.push_products.Given as goal

abbrev pub invariant-loop-term : goal.invariant-loop-term
invariant-loop-term g l = record {
  made : product_terms l.made.items ≡ product_terms l.fn.made.items ++ multiples l.by (take l.term-index l.terms);
  len : array_vec_len l.made ≡ array_vec_len l.fn.made + l.term-index;
}
