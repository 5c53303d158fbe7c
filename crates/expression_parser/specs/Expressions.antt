-- Expressions, as they are read: a reader for each level of precedence, over the reader of the expressions that stand in brackets.
use Rattle.std.specs.Prelude.{ℕ, zero, suc, true, false, List, [], length, Option, Err}
use Rattle.xanadu_lexer.specs.declared.keyword.Keyword.TheVariants as word
use Rattle.xanadu_lexer.specs.declared.symbol.Symbol.TheVariants as symbol
use Rattle.xanadu_tree.specs.declared.expr.Op.{Op}
use Rattle.xanadu_tree.specs.declared.expr.Rel.{Rel}
use Rattle.xanadu_tree.specs.declared.tree.declaration.Identifier.{Identifier}
use Rattle.xanadu_tree.specs.PlainTree as plain
use Rattle.xanadu_tree.specs.PlainTreeOf.{to_conjunctions, to_negations, to_comparand, to_addends, to_factors, to_indices, to_expressions}
use Rattle.xanadu_tree.specs.Written.{primary_at, postfix_at, unary_at, product_at, sum_at, comparison_at, negation_at, conjunction_at}
use Rattle.xan_read.specs.Combinators.{give, made, in_turn}
use Rattle.xan_read.specs.Symbols.{take, where_comes, repeated, optional, separated, before, behind}
use Rattle.expression_parser.specs.Reader.{Reader}
use Rattle.expression_parser.specs.Tables.{keyword, mark, symbol_among, sum_operator, product_operator, lower, upper, number}
use Rattle.expression_parser.specs.Tables as table
use Rattle.expression_parser.specs.Types.{element}

module _ (inner : Reader plain.Expression) where
  -- ---- the least expressions

  unfoldable pub listed : Reader (List plain.Expression)
  listed = separated (mark symbol.Comma) inner

  unfoldable pub some_arguments : Reader (List plain.Expression)
  some_arguments = before (mark symbol.RightParen) listed

  unfoldable pub arguments : Reader (List plain.Expression)
  arguments = where_comes (mark symbol.RightParen) (λ _. give []) some_arguments

  unfoldable pub named : Identifier → Reader plain.Primary
  named name = where_comes (mark symbol.LeftParen) (λ _. made (λ es. plain.Call name (to_expressions es)) arguments) (give (plain.Variable name))

  unfoldable pub tuple : Identifier → Reader plain.Primary
  tuple name = behind (mark symbol.LeftParen) (made (λ es. plain.Make name (to_expressions es)) some_arguments)

  unfoldable pub closed : Reader plain.Expression
  closed = before (mark symbol.RightParen) inner

  unfoldable pub length_of : ℕ → Reader plain.Primary
  length_of at = behind (mark symbol.LeftParen) (made (λ e. plain.Length e at) closed)

  unfoldable pub new_array : ℕ → Reader plain.Primary
  new_array at = in_turn element (λ t. behind (mark symbol.LeftBracket) (in_turn inner (λ len. behind (mark symbol.RightBracket)
      (behind (mark symbol.LeftParen) (made (λ fill. plain.New t len fill at) closed)))))

  abbrev pub group : Reader plain.Primary
  group = in_turn (take (mark symbol.LeftParen)) (λ at. made (λ e. plain.Group e at) closed)

  unfoldable pub marked : Reader plain.Primary
  marked = where_comes (keyword word.True) (λ at. give (plain.Boolean true at))
      (where_comes (keyword word.False) (λ at. give (plain.Boolean false at))
      (where_comes (keyword word.Len) length_of
      (where_comes (keyword word.New) new_array
      group)))

  unfoldable pub primary : Reader plain.Primary
  primary = where_comes number (λ n. give (plain.Number n.0 n.1)) (where_comes lower named (where_comes upper tuple marked))

  -- ---- the levels

  abbrev pub one_index : ℕ → Reader (plain.Expression × ℕ)
  one_index at = made (λ e. (e, at)) (before (mark symbol.RightBracket) inner)

  unfoldable pub indices : Reader (List (plain.Expression × ℕ))
  indices = repeated (mark symbol.LeftBracket) one_index []

  unfoldable pub postfix : Reader plain.Postfix
  postfix = in_turn primary (λ p. made (λ is. plain.PostfixOf p (to_indices is) (primary_at p)) indices)

  unfoldable pub unary : Reader plain.Unary
  unary = where_comes (mark symbol.Minus) (λ at. made (λ p. plain.UnaryOf true p at) postfix) (made (λ p. plain.UnaryOf false p (postfix_at p)) postfix)

  abbrev pub one_operand : Op × ℕ → Reader (Op × plain.Unary × ℕ)
  one_operand o = made (λ u. (o.0, u, o.1)) unary

  unfoldable pub operands : Reader (List (Op × plain.Unary × ℕ))
  operands = repeated (symbol_among product_operator) one_operand []

  unfoldable pub product : Reader plain.Product
  product = in_turn unary (λ u. made (λ us. plain.ProductOf u (to_factors us) (unary_at u)) operands)

  abbrev pub one_product : Op × ℕ → Reader (Op × plain.Product × ℕ)
  one_product o = made (λ p. (o.0, p, o.1)) product

  unfoldable pub products : Reader (List (Op × plain.Product × ℕ))
  products = repeated (symbol_among sum_operator) one_product []

  unfoldable pub sum : Reader plain.Sum
  sum = in_turn product (λ p. made (λ ps. plain.SumOf p (to_addends ps) (product_at p)) products)

  unfoldable pub compared : Reader (Option (Rel × plain.Sum))
  compared = optional (symbol_among table.relation) (λ r. made (λ s. (r.0, s)) sum)

  unfoldable pub comparison : Reader plain.Comparison
  comparison = in_turn sum (λ s. made (λ c. plain.ComparisonOf s (to_comparand c) (sum_at s)) compared)

  unfoldable pub negation : Reader plain.Negation
  negation = where_comes (mark symbol.Not) (λ at. made (λ c. plain.NegationOf true c at) comparison) (made (λ c. plain.NegationOf false c (comparison_at c)) comparison)

  abbrev pub one_negation : ℕ → Reader (plain.Negation × ℕ)
  one_negation at = made (λ n. (n, at)) negation

  unfoldable pub negations : Reader (List (plain.Negation × ℕ))
  negations = repeated (mark symbol.And) one_negation []

  unfoldable pub conjunction : Reader plain.Conjunction
  conjunction = in_turn negation (λ n. made (λ ns. plain.ConjunctionOf n (to_negations ns) (negation_at n)) negations)

  abbrev pub one_conjunction : ℕ → Reader (plain.Conjunction × ℕ)
  one_conjunction at = made (λ c. (c, at)) conjunction

  unfoldable pub conjunctions : Reader (List (plain.Conjunction × ℕ))
  conjunctions = repeated (mark symbol.Or) one_conjunction []

  unfoldable pub disjunction : Reader plain.Expression
  disjunction = in_turn conjunction (λ c. made (λ cs. plain.ExpressionOf c (to_conjunctions cs) (conjunction_at c)) conjunctions)

-- expressions that nest fewer than `room` times
unfoldable pub expression : (room : ℕ) → Reader plain.Expression
expression zero tokens = Err (length tokens)
expression (suc room) tokens = disjunction (expression room) tokens
