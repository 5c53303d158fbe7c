-- The parts behind operators, with the plain tree of each in its place.
use Rattle.std.specs.Prelude.{ℕ}
use Rattle.xanadu_tree.specs.declared.expr.Op.{Op}
use Rattle.xanadu_tree.specs.declared.tree.expression.Conjunction.{Conjunction}
use Rattle.xanadu_tree.specs.declared.tree.expression.Expression.{Expression}
use Rattle.xanadu_tree.specs.declared.tree.expression.Negation.{Negation}
use Rattle.xanadu_tree.specs.declared.tree.expression.Product.{Product}
use Rattle.xanadu_tree.specs.declared.tree.expression.Unary.{Unary as One}
use Rattle.xanadu_tree.specs.PlainTree as plain
use Rattle.xanadu_tree.specs.PlainTreeOf.{plain_conjunction, plain_expression, plain_negation, plain_product, plain_unary}

abbrev pub behind_or : Conjunction × ℕ → plain.Conjunction × ℕ
behind_or c = (plain_conjunction c.0, c.1)

abbrev pub behind_and : Negation × ℕ → plain.Negation × ℕ
behind_and n = (plain_negation n.0, n.1)

abbrev pub behind_sign : Op × Product × ℕ → Op × plain.Product × ℕ
behind_sign p = (p.0, plain_product p.1, p.2)

abbrev pub behind_factor : Op × One × ℕ → Op × plain.Unary × ℕ
behind_factor u = (u.0, plain_unary u.1, u.2)

abbrev pub in_brackets : Expression × ℕ → plain.Expression × ℕ
in_brackets i = (plain_expression i.0, i.1)
