-- The parts that follow an operator or a bracket, as lists of the plain tree.
use Rattle.std.specs.Prelude.{ℕ, List, map}
use Rattle.xanadu_tree.specs.declared.expr.Op.{Op}
use Rattle.xanadu_tree.specs.declared.tree.expression.Conjunction.{Conjunction}
use Rattle.xanadu_tree.specs.declared.tree.expression.Negation.{Negation}
use Rattle.xanadu_tree.specs.declared.tree.expression.Product.{Product}
use Rattle.xanadu_tree.specs.declared.tree.expression.Unary.{Unary as One}
use Rattle.xanadu_tree.specs.PlainTree as plain
use Rattle.xanadu_tree.specs.PlainTreeOf.{to_conjunctions, to_negations, to_addends, to_factors, plain_conjunction, plain_negation, plain_product, plain_unary}

abbrev pub conjunctions_of : List (Conjunction × ℕ) → plain.Conjunctions
conjunctions_of parts = to_conjunctions (map (λ c. (plain_conjunction c.0, c.1)) parts)

abbrev pub negations_of : List (Negation × ℕ) → plain.Negations
negations_of parts = to_negations (map (λ n. (plain_negation n.0, n.1)) parts)

abbrev pub addends_of : List (Op × Product × ℕ) → plain.Addends
addends_of parts = to_addends (map (λ a. (a.0, plain_product a.1, a.2)) parts)

abbrev pub factors_of : List (Op × One × ℕ) → plain.Factors
factors_of parts = to_factors (map (λ f. (f.0, plain_unary f.1, f.2)) parts)
