-- How a token is written, and the value of digits.
use Rattle.std.specs.Prelude.{ℕ, ℤ, pos, ◌+◌, ◌-◌, ◌*◌, List, [], ◌∷◌, codes, decimal}
use Rattle.xanadu_lexer.specs.declared.keyword.Keyword.{Keyword}
use Rattle.xanadu_lexer.specs.declared.keyword.Keyword.TheVariants as keyword
use Rattle.xanadu_lexer.specs.declared.symbol.Symbol.{Symbol}
use Rattle.xanadu_lexer.specs.declared.symbol.Symbol.TheVariants as symbol
use Rattle.xanadu_lexer.specs.declared.token.TokenKind.{TokenKind}
use Rattle.xanadu_lexer.specs.declared.token.TokenKind.TheVariants as kind

abbrev pub keyword_text : Keyword → List ℕ
keyword_text keyword.Fun = codes "fun"
keyword_text keyword.Type = codes "type"
keyword_text keyword.Var = codes "var"
keyword_text keyword.Let = codes "let"
keyword_text keyword.If = codes "if"
keyword_text keyword.Else = codes "else"
keyword_text keyword.Join = codes "join"
keyword_text keyword.While = codes "while"
keyword_text keyword.With = codes "with"
keyword_text keyword.Return = codes "return"
keyword_text keyword.Print = codes "print"
keyword_text keyword.New = codes "new"
keyword_text keyword.Len = codes "len"
keyword_text keyword.True = codes "true"
keyword_text keyword.False = codes "false"
keyword_text keyword.Int = codes "int"
keyword_text keyword.Nat = codes "nat"
keyword_text keyword.Bool = codes "bool"
keyword_text keyword.Unit = codes "unit"

abbrev pub symbol_text : Symbol → List ℕ
symbol_text symbol.LeftParen = codes "("
symbol_text symbol.RightParen = codes ")"
symbol_text symbol.LeftBrace = codes "{"
symbol_text symbol.RightBrace = codes "}"
symbol_text symbol.LeftBracket = codes "["
symbol_text symbol.RightBracket = codes "]"
symbol_text symbol.Comma = codes ","
symbol_text symbol.Semicolon = codes ";"
symbol_text symbol.Colon = codes ":"
symbol_text symbol.Bar = codes "|"
symbol_text symbol.Equal = codes "="
symbol_text symbol.Plus = codes "+"
symbol_text symbol.Minus = codes "-"
symbol_text symbol.Star = codes "*"
symbol_text symbol.Slash = codes "/"
symbol_text symbol.Percent = codes "%"
symbol_text symbol.Less = codes "<"
symbol_text symbol.LessEqual = codes "<="
symbol_text symbol.Greater = codes ">"
symbol_text symbol.GreaterEqual = codes ">="
symbol_text symbol.EqualEqual = codes "=="
symbol_text symbol.NotEqual = codes "!="
symbol_text symbol.Not = codes "!"
symbol_text symbol.And = codes "&&"
symbol_text symbol.Or = codes "||"

-- the digits of a number; the tokens have none below 0
abbrev pub number_text : ℤ → List ℕ
number_text (pos n) = decimal n
number_text _ = []

-- the text of a token
abbrev pub spelled : TokenKind → List ℕ
spelled (kind.Lower name) = name
spelled (kind.Upper name) = name
spelled (kind.Num number) = number_text number
spelled (kind.Keyword keyword) = keyword_text keyword
spelled (kind.Symbol symbol) = symbol_text symbol

-- the number that these digits are, after others that were `n`
abbrev pub value_from : ℕ → List ℕ → ℕ
value_from n [] = n
value_from n (digit ∷ digits) = value_from (10 * n + (digit - 48)) digits

abbrev pub value : List ℕ → ℕ
value digits = value_from 0 digits
