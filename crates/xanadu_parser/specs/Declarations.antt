-- Declarations of types and functions, as they are read.
use Rattle.std.specs.Prelude.{ℕ, zero, suc, List, [], ◌∷◌, ◌++◌, length, Option, Some, None, Ok}
use Rattle.xanadu_lexer.specs.declared.keyword.Keyword.TheVariants as word
use Rattle.xanadu_lexer.specs.declared.symbol.Symbol.TheVariants as symbol
use Rattle.xanadu_tree.specs.declared.tree.declaration.Identifier.{Identifier}
use Rattle.xanadu_tree.specs.PlainTree as plain
use Rattle.xanadu_tree.specs.Written.{type_at}
use Rattle.xan_read.specs.Reader.{◌>>=◌}
use Rattle.xan_read.specs.Combinators.{give, made, in_turn}
use Rattle.xan_read.specs.Symbols.{take, where_comes, before, behind}
use Rattle.expression_parser.specs.Reader.{Reader}
use Rattle.expression_parser.specs.Tables.{keyword, mark, lower, upper}
use Rattle.expression_parser.specs.Index.{quantifier, quantified}
use Rattle.expression_parser.specs.Types.{written_type, types, parameters}
use Rattle.xanadu_parser.specs.Statements.{block}

unfoldable pub type_body : Reader plain.TypeBody
type_body = where_comes (mark symbol.LeftParen) (λ _. made plain.Tuple (before (mark symbol.RightParen) types)) (made plain.Cell written_type)

abbrev pub type_of : ℕ → Identifier → Option plain.Quantifier → plain.TypeBody → plain.TypeDeclaration
type_of at name q b = record { name = name; quantifier = q; body = b; at = at }

unfoldable pub type_declaration : ℕ → Reader plain.TypeDeclaration
type_declaration at = in_turn (take upper) (λ name. behind (mark symbol.Equal) (in_turn quantifier (λ q. made (type_of at name q) (before (mark symbol.Semicolon) type_body))))

unfoldable pub value_type : Reader plain.ResultType
value_type = where_comes (mark symbol.LeftBrace) (λ at. in_turn (quantified at) (λ q. made (λ t. plain.AValue (Some q) t at) written_type))
    (made (λ t. plain.AValue None t (type_at t)) written_type)

unfoldable pub result_type : Reader plain.ResultType
result_type = where_comes (keyword word.Unit) (λ at. give (plain.NoValue at)) value_type

abbrev pub function_of : ℕ → Identifier → Option plain.Quantifier → List plain.Parameter → plain.ResultType → plain.Block → plain.FunctionDeclaration
function_of at name q ps r b = record { name = name; quantifier = q; parameters = ps; result = r; body = b; at = at }

unfoldable pub function_declaration : (room at : ℕ) → Reader plain.FunctionDeclaration
function_declaration room at = in_turn (take lower) (λ name. in_turn quantifier (λ q. in_turn parameters (λ ps. behind (mark symbol.Colon) (in_turn result_type (λ r. made (function_of at name q ps r) (block room))))))

unfoldable pub declaration : (room : ℕ) → Reader plain.Declaration
declaration room = where_comes (keyword word.«Type») (λ at. made plain.OfType (type_declaration at))
    (in_turn (take (keyword word.Fun)) (λ at. made plain.OfFunction (function_declaration room at)))

-- declarations up to the end of the tokens, behind those that were found; the number bounds how many, and each takes a token
unfoldable pub declarations_from : (room : ℕ) → ℕ → List plain.Declaration → Reader (List plain.Declaration)
declarations_from room count found [] = Ok (found, [])
declarations_from room zero found (token ∷ tokens) = Ok (found, token ∷ tokens)
declarations_from room (suc count) found (token ∷ tokens) =
    declaration room (token ∷ tokens) >>= λ d. declarations_from room count (found ++ d.0 ∷ []) d.1

unfoldable pub declarations : (room : ℕ) → Reader (List plain.Declaration)
declarations room tokens = declarations_from room (length tokens) [] tokens
