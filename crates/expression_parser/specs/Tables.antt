-- What the tokens of some kinds stand for.
use Rattle.std.specs.Prelude.{ℕ, ℤ, Bool, false, List, [], ◌∷◌, Option, Some, None, if◌then◌else◌}
use Rattle.std.specs.Option.{option_map}
use Rattle.xanadu_lexer.specs.declared.keyword.Keyword.{Keyword}
use Rattle.xanadu_lexer.specs.declared.symbol.Symbol.{Symbol}
use Rattle.xanadu_lexer.specs.declared.symbol.Symbol.TheVariants as symbol
use Rattle.xanadu_lexer.specs.declared.token.Token.{Token}
use Rattle.xanadu_lexer.specs.declared.token.TokenKind.{TokenKind}
use Rattle.xanadu_lexer.specs.declared.token.TokenKind.TheVariants as kind
use Rattle.xanadu_lexer.specs.contracts.keyword.Keyword as keyword_type
use Rattle.xanadu_lexer.specs.contracts.symbol.Symbol as symbol_type
use Rattle.xanadu_tree.specs.declared.tree.declaration.Identifier.{Identifier}
use Rattle.xanadu_tree.specs.declared.expr.Op.{Op}
use Rattle.xanadu_tree.specs.declared.expr.Op.TheVariants as op
use Rattle.xanadu_tree.specs.declared.expr.Rel.{Rel}
use Rattle.xanadu_tree.specs.declared.expr.Rel.TheVariants as rel
use Rattle.xanadu_tree.specs.declared.tree.index.IndexRelation.{IndexRelation}
use Rattle.xanadu_tree.specs.declared.tree.index.IndexRelation.TheVariants as between
use Rattle.xanadu_tree.specs.declared.tree.index.Sign.{Sign}
use Rattle.xanadu_tree.specs.declared.tree.index.Sign.TheVariants as sign_of
use denote.Enum.Bare.{sameb}
use Rattle.expression_parser.specs.Reader.{Table}

-- this keyword, this mark
abbrev pub is_keyword : Keyword → TokenKind → Bool
is_keyword wanted (kind.Keyword keyword) = sameb keyword_type.the_type keyword wanted
is_keyword wanted _ = false

abbrev pub is_symbol : Symbol → TokenKind → Bool
is_symbol wanted (kind.Symbol symbol) = sameb symbol_type.the_type symbol wanted
is_symbol wanted _ = false

-- their places
unfoldable pub keyword : Keyword → Table ℕ
keyword wanted token = if is_keyword wanted token.kind then Some token.at else None

unfoldable pub mark : Symbol → Table ℕ
mark wanted token = if is_symbol wanted token.kind then Some token.at else None

-- a mark that stands for something, and its place
abbrev pub placed : {A : Type 0} → Option A → ℕ → Option (A × ℕ)
placed None at = None
placed (Some x) at = Some (x, at)

abbrev pub by_symbol : {A : Type 0} → (Symbol → Option A) → TokenKind → Option A
by_symbol of (kind.Symbol symbol) = of symbol
by_symbol of _ = None

unfoldable pub symbol_among : {A : Type 0} → (Symbol → Option A) → Table (A × ℕ)
symbol_among of token = placed (by_symbol of token.kind) token.at

-- the next token, where it is a mark
abbrev pub as_symbol : ℕ → TokenKind → Option (Symbol × ℕ)
as_symbol at (kind.Symbol symbol) = Some (symbol, at)
as_symbol at _ = None

unfoldable pub next_symbol : List Token → Option (Symbol × ℕ)
next_symbol [] = None
next_symbol (token ∷ tokens) = as_symbol token.at token.kind

-- what that mark stands for, and the tokens behind it
abbrev pub mark_eaten : {A : Type 0} → (Symbol → Option A) → Option (Symbol × ℕ) → List Token → Option ((A × ℕ) × List Token)
mark_eaten of None rest = None
mark_eaten of (Some next) rest = option_map (λ x. ((x, next.1), rest)) (of next.0)

-- ---- marks that stand for operators and relations

abbrev pub sum_operator : Symbol → Option Op
sum_operator symbol.Plus = Some op.Add
sum_operator symbol.Minus = Some op.Sub
sum_operator _ = None

abbrev pub product_operator : Symbol → Option Op
product_operator symbol.Star = Some op.Mul
product_operator symbol.Slash = Some op.Div
product_operator symbol.Percent = Some op.Mod
product_operator _ = None

abbrev pub relation : Symbol → Option Rel
relation symbol.Less = Some rel.Lt
relation symbol.LessEqual = Some rel.Le
relation symbol.Greater = Some rel.Gt
relation symbol.GreaterEqual = Some rel.Ge
relation symbol.EqualEqual = Some rel.Eq
relation symbol.NotEqual = Some rel.Ne
relation _ = None

abbrev pub sign : Symbol → Option Sign
sign symbol.Plus = Some sign_of.Plus
sign symbol.Minus = Some sign_of.Minus
sign _ = None

abbrev pub index_relation : Symbol → Option IndexRelation
index_relation symbol.Less = Some between.Less
index_relation symbol.LessEqual = Some between.AtMost
index_relation symbol.Greater = Some between.Greater
index_relation symbol.GreaterEqual = Some between.AtLeast
index_relation symbol.Equal = Some between.Equal
index_relation _ = None

-- names
abbrev pub as_lower : ℕ → TokenKind → Option Identifier
as_lower at (kind.Lower name) = Some (record { name = name; at = at })
as_lower at _ = None

unfoldable pub lower : Table Identifier
lower token = as_lower token.at token.kind

abbrev pub as_upper : ℕ → TokenKind → Option Identifier
as_upper at (kind.Upper name) = Some (record { name = name; at = at })
as_upper at _ = None

unfoldable pub upper : Table Identifier
upper token = as_upper token.at token.kind

-- a number and its place
abbrev pub as_number : ℕ → TokenKind → Option (ℤ × ℕ)
as_number at (kind.Num number) = Some (number, at)
as_number at _ = None

unfoldable pub number : Table (ℤ × ℕ)
number token = as_number token.at token.kind
