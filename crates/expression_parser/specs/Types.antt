-- Types, parameters and clauses, as they are read.
use Rattle.std.specs.Prelude.{ℕ, List, [], Option, Some, None}
use Rattle.xanadu_lexer.specs.declared.keyword.Keyword.{Keyword}
use Rattle.xanadu_lexer.specs.declared.keyword.Keyword.TheVariants as word
use Rattle.xanadu_lexer.specs.declared.symbol.Symbol.TheVariants as symbol
use Rattle.xanadu_tree.specs.declared.tree.declaration.Identifier.{Identifier}
use Rattle.xanadu_tree.specs.declared.tree.types.Element.{Element}
use Rattle.xanadu_tree.specs.declared.tree.types.Element.TheVariants as element_of
use Rattle.xanadu_tree.specs.PlainTree as plain
use Rattle.xan_read.specs.Combinators.{give, made, in_turn}
use Rattle.xan_read.specs.Symbols.{take, where_comes, optional, separated, before, behind}
use Rattle.expression_parser.specs.Reader.{Reader}
use Rattle.expression_parser.specs.Tables.{keyword, mark, lower, upper}
use Rattle.expression_parser.specs.Index.{index, quantified}

unfoldable pub element : Reader Element
element = where_comes (keyword word.Int) (λ at. give (element_of.Int at))
    (where_comes (keyword word.Bool) (λ at. give (element_of.Bool at)) (made element_of.Named (take upper)))

unfoldable pub length_of : Reader (Option plain.IndexExpression)
length_of = where_comes (mark symbol.RightBracket) (λ _. give None) (made Some (before (mark symbol.RightBracket) index))

unfoldable pub number_type : ℕ → Reader plain.WrittenType
number_type at = where_comes (mark symbol.LeftParen) (λ _. made (λ i. plain.IntOf i at) (before (mark symbol.RightParen) index)) (give (plain.Int at))

-- a type that is no array's
abbrev pub alone : Element → Reader plain.WrittenType
alone (element_of.Int at) = number_type at
alone (element_of.Bool at) = give (plain.Bool at)
alone (element_of.Named name) = give (plain.Named name)

unfoldable pub written_type : Reader plain.WrittenType
written_type = in_turn element (λ e. where_comes (mark symbol.LeftBracket) (λ _. made (plain.Array e) length_of) (alone e))

unfoldable pub types : Reader (List plain.WrittenType)
types = separated (mark symbol.Comma) written_type

abbrev pub parameter_of : Identifier → plain.WrittenType → plain.Parameter
parameter_of name t = record { name = name; ty = t }

unfoldable pub parameter : Reader plain.Parameter
parameter = in_turn (take lower) (λ name. behind (mark symbol.Colon) (made (parameter_of name) written_type))

unfoldable pub listed_parameters : Reader (List plain.Parameter)
listed_parameters = separated (mark symbol.Comma) parameter

unfoldable pub some_parameters : Reader (List plain.Parameter)
some_parameters = before (mark symbol.RightParen) listed_parameters

unfoldable pub parameters : Reader (List plain.Parameter)
parameters = behind (mark symbol.LeftParen) (where_comes (mark symbol.RightParen) (λ _. give []) some_parameters)

abbrev pub clause_of : Option plain.Quantifier → ℕ → List plain.Parameter → plain.WrittenClause
clause_of q at ps = record { quantifier = q; variables = ps; at = at }

-- what is behind the brace of a quantifier
unfoldable pub quantified_clause : ℕ → Reader plain.WrittenClause
quantified_clause at = in_turn (quantified at) (λ q. behind (mark symbol.LeftParen) (made (clause_of (Some q) at) some_parameters))

unfoldable pub clause : Reader plain.WrittenClause
clause = where_comes (mark symbol.LeftBrace) quantified_clause (in_turn (take (mark symbol.LeftParen)) (λ at. made (clause_of None at) some_parameters))

unfoldable pub clause_behind : Keyword → Reader (Option plain.WrittenClause)
clause_behind k = optional (keyword k) (λ _. clause)
