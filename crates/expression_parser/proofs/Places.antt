-- Where a node in memory begins, its plain tree begins too.
use Rattle.std.proofs.Common.{◌≡◌, ap}
use Rattle.xanadu_tree.specs.declared.tree.expression.Comparison.{Comparison, out-Comparison}
use Rattle.xanadu_tree.specs.declared.tree.expression.Conjunction.{Conjunction, out-Conjunction}
use Rattle.xanadu_tree.specs.declared.tree.expression.Negation.{Negation, out-Negation}
use Rattle.xanadu_tree.specs.declared.tree.expression.Postfix.{Postfix, out-Postfix}
use Rattle.xanadu_tree.specs.declared.tree.expression.Product.{Product, out-Product}
use Rattle.xanadu_tree.specs.declared.tree.expression.Sum.{Sum, out-Sum}
use Rattle.xanadu_tree.specs.declared.tree.expression.Unary.{Unary as One, out-Unary}
use Rattle.xanadu_tree.specs.PlainTreeOf.{plain_conjunction, plain_negation, plain_comparison, plain_sum, plain_product, plain_unary, plain_postfix}
use Rattle.xanadu_tree.specs.Written.{conjunction_at, negation_at, comparison_at, sum_at, product_at, unary_at, postfix_at}
use Rattle.xanadu_tree.proofs.TreeEquations.{plain_conjunction-out, plain_negation-out, plain_comparison-out, plain_sum-out, plain_product-out, plain_unary-out, plain_postfix-out}

pub conjunction_at-is : (c : Conjunction) → conjunction_at (plain_conjunction c) ≡ (out-Conjunction c).at
conjunction_at-is c = ap conjunction_at (plain_conjunction-out c)

pub negation_at-is : (n : Negation) → negation_at (plain_negation n) ≡ (out-Negation n).at
negation_at-is n = ap negation_at (plain_negation-out n)

pub comparison_at-is : (c : Comparison) → comparison_at (plain_comparison c) ≡ (out-Comparison c).at
comparison_at-is c = ap comparison_at (plain_comparison-out c)

pub sum_at-is : (s : Sum) → sum_at (plain_sum s) ≡ (out-Sum s).at
sum_at-is s = ap sum_at (plain_sum-out s)

pub product_at-is : (p : Product) → product_at (plain_product p) ≡ (out-Product p).at
product_at-is p = ap product_at (plain_product-out p)

pub unary_at-is : (u : One) → unary_at (plain_unary u) ≡ (out-Unary u).at
unary_at-is u = ap unary_at (plain_unary-out u)

pub postfix_at-is : (p : Postfix) → postfix_at (plain_postfix p) ≡ (out-Postfix p).at
postfix_at-is p = ap postfix_at (plain_postfix-out p)

pub ruleset places = (conjunction_at-is, negation_at-is, comparison_at-is, sum_at-is, product_at-is, unary_at-is, postfix_at-is)
