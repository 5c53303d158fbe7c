-- Index expressions and quantifiers, as they are read.
use Rattle.std.specs.Prelude.{ℕ, ℤ, true, false, List, [], Option}
use Rattle.xanadu_lexer.specs.declared.keyword.Keyword.TheVariants as word
use Rattle.xanadu_lexer.specs.declared.symbol.Symbol.TheVariants as symbol
use Rattle.xanadu_tree.specs.declared.tree.declaration.Identifier.{Identifier}
use Rattle.xanadu_tree.specs.declared.tree.index.Binder.{Binder}
use Rattle.xanadu_tree.specs.declared.tree.index.IndexRelation.{IndexRelation}
use Rattle.xanadu_tree.specs.declared.tree.index.IndexTerm.{IndexTerm}
use Rattle.xanadu_tree.specs.declared.tree.index.IndexTerm.TheVariants as index_term
use Rattle.xanadu_tree.specs.declared.tree.index.Sign.{Sign}
use Rattle.xanadu_tree.specs.declared.tree.index.Sort.{Sort}
use Rattle.xanadu_tree.specs.declared.tree.index.Sort.TheVariants as sort_of
use Rattle.xanadu_tree.specs.PlainTree as plain
use Rattle.xanadu_tree.specs.Written.{index_term_at}
use Rattle.xan_read.specs.Combinators.{give, made, in_turn}
use Rattle.xan_read.specs.Symbols.{take, where_comes, repeated, optional, separated, behind}
use Rattle.expression_parser.specs.Reader.{Reader}
use Rattle.expression_parser.specs.Tables.{keyword, mark, symbol_among, sign, index_relation, lower, number}

unfoldable pub scaled : ℤ → ℕ → Reader IndexTerm
scaled n at = where_comes (mark symbol.Star) (λ _. made (λ x. index_term.Product n x at) (take lower)) (give (index_term.Number n at))

unfoldable pub term : Reader IndexTerm
term = where_comes number (λ n. scaled n.0 n.1) (made index_term.Variable (take lower))

abbrev pub signed : Sign × ℕ → Reader (Sign × IndexTerm)
signed s = made (λ t. (s.0, t)) term

unfoldable pub terms : Reader (List (Sign × IndexTerm))
terms = repeated (symbol_among sign) signed []

abbrev pub negated_sum : ℕ → IndexTerm → List (Sign × IndexTerm) → plain.IndexExpression
negated_sum at first rest = record { negative = true; first = first; rest = rest; at = at }

abbrev pub plain_sum : IndexTerm → List (Sign × IndexTerm) → plain.IndexExpression
plain_sum first rest = record { negative = false; first = first; rest = rest; at = index_term_at first }

unfoldable pub index : Reader plain.IndexExpression
index = where_comes (mark symbol.Minus) (λ at. in_turn term (λ first. made (negated_sum at first) terms)) (in_turn term (λ first. made (plain_sum first) terms))

unfoldable pub between : Reader IndexRelation
between = made (λ r. r.0) (take (symbol_among index_relation))

abbrev pub relation_of : plain.IndexExpression → IndexRelation → plain.IndexExpression → plain.Relation
relation_of left r right = record { left = left; relation = r; right = right }

unfoldable pub relation : Reader plain.Relation
relation = in_turn index (λ left. in_turn between (λ r. made (relation_of left r) index))

unfoldable pub relations : Reader (List plain.Relation)
relations = separated (mark symbol.Comma) relation

unfoldable pub assumed : Reader (List plain.Relation)
assumed = where_comes (mark symbol.Bar) (λ _. relations) (give [])

unfoldable pub sort : Reader Sort
sort = where_comes (keyword word.Int) (λ _. give sort_of.Int) (made (λ _. sort_of.Nat) (take (keyword word.Nat)))

abbrev pub binder_of : Identifier → Sort → Binder
binder_of name s = record { name = name; sort = s }

unfoldable pub binder : Reader Binder
binder = in_turn (take lower) (λ name. behind (mark symbol.Colon) (made (binder_of name) sort))

unfoldable pub binders : Reader (List Binder)
binders = separated (mark symbol.Comma) binder

abbrev pub quantifier_of : ℕ → List Binder → List plain.Relation → plain.Quantifier
quantifier_of at bs rs = record { binders = bs; relations = rs; at = at }

unfoldable pub quantified : ℕ → Reader plain.Quantifier
quantified at = in_turn binders (λ bs. in_turn assumed (λ rs. behind (mark symbol.RightBrace) (give (quantifier_of at bs rs))))

unfoldable pub quantifier : Reader (Option plain.Quantifier)
quantifier = optional (mark symbol.LeftBrace) quantified
