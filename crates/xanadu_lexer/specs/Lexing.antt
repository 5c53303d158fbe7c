-- The tokens of a text, as a function: the one that the rules allow.
--
-- What stands at the front of a text is told by its first byte or two. The tokens are read off from the front on.
use Rattle.std.specs.Prelude.{◌≡◌, ℕ, zero, suc, ◌+◌, ◌^◌, pos, Bool, false, not, ◌&&◌, ◌==◌, nat_lt, if◌then◌else◌, List, [], ◌∷◌, length, Option, Some, None, Result, Ok, Err}
use Rattle.std.specs.List.{prefix_len, take_while}
use Rattle.std.specs.Str.{bytes_eq}
use Rattle.std.specs.Char.{is_ascii_digit, is_ascii_lowercase, is_ascii_alphabetic}
use Rattle.xanadu_lexer.specs.declared.error.LexError.{LexError}
use Rattle.xanadu_lexer.specs.declared.error.LexError.TheVariants.{Fault, Memory}
use Rattle.xanadu_lexer.specs.declared.error.LexKind.TheVariants.{Byte, Number}
use Rattle.xanadu_lexer.specs.declared.keyword.Keyword.{Keyword}
use Rattle.xanadu_lexer.specs.declared.keyword.Keyword.TheVariants as keyword
use Rattle.xanadu_lexer.specs.declared.piece.Piece.{Piece}
use Rattle.xanadu_lexer.specs.declared.piece.Piece.TheVariants.{Gap, Whole, Bad}
use Rattle.xanadu_lexer.specs.declared.symbol.Symbol.{Symbol}
use Rattle.xanadu_lexer.specs.declared.symbol.Symbol.TheVariants as symbol
use Rattle.xanadu_lexer.specs.declared.token.Token.{Token}
use Rattle.xanadu_lexer.specs.declared.token.TokenKind.{TokenKind}
use Rattle.xanadu_lexer.specs.declared.token.TokenKind.TheVariants as kind
use Rattle.xanadu_lexer.specs.Spelling.{keyword_text, symbol_text, value}
use Rattle.xanadu_lexer.specs.Rules.{is_blank, is_word, is_no_newline, with_token}

-- ---- words

abbrev pub keywords : List Keyword
keywords = keyword.Fun ∷ keyword.Type ∷ keyword.Var ∷ keyword.Let ∷ keyword.If ∷ keyword.Else ∷ keyword.Join ∷ keyword.While
    ∷ keyword.With ∷ keyword.Return ∷ keyword.Print ∷ keyword.New ∷ keyword.Len ∷ keyword.True ∷ keyword.False ∷ keyword.Int
    ∷ keyword.Nat ∷ keyword.Bool ∷ keyword.Unit ∷ []

-- the first of these keywords that is written so
abbrev pub keyword_among : List Keyword → List ℕ → Option Keyword
keyword_among [] text = None
keyword_among (k ∷ ks) text = if bytes_eq (keyword_text k) text then Some k else keyword_among ks text

unfoldable pub keyword_of : List ℕ → Option Keyword
keyword_of = keyword_among keywords

-- a name, of which only a capital letter at the front tells the kind
abbrev pub name_of : ℕ → List ℕ → TokenKind
name_of first text = if is_ascii_lowercase first then kind.Lower text else kind.Upper text

abbrev pub word_from : Option Keyword → ℕ → List ℕ → TokenKind
word_from (Some keyword) first text = kind.Keyword keyword
word_from None first text = name_of first text

-- the longest word at the front of a text
unfoldable pub word : ℕ → List ℕ → Piece
word first rest =
    let text = first ∷ take_while is_word rest in Whole (word_from (keyword_of text) first text) (prefix_len is_word rest)

-- ---- numbers

-- digits are a number where they fit, and no 0 stands in front of more of them
abbrev pub is_number : ℕ → List ℕ → Bool
is_number first digits = not (first == 48 && nat_lt 0 (length digits)) && nat_lt (value (first ∷ digits)) (2 ^ 63)

unfoldable pub number : ℕ → List ℕ → Piece
number first digits = if is_number first digits then Whole (kind.Num (pos (value (first ∷ digits)))) (length digits) else Bad Number

-- ---- marks

abbrev pub long_symbols : List Symbol
long_symbols = symbol.LessEqual ∷ symbol.GreaterEqual ∷ symbol.EqualEqual ∷ symbol.NotEqual ∷ symbol.And ∷ symbol.Or ∷ []

abbrev pub short_symbols : List Symbol
short_symbols = symbol.LeftParen ∷ symbol.RightParen ∷ symbol.LeftBrace ∷ symbol.RightBrace ∷ symbol.LeftBracket ∷ symbol.RightBracket
    ∷ symbol.Comma ∷ symbol.Semicolon ∷ symbol.Colon ∷ symbol.Bar ∷ symbol.Equal ∷ symbol.Plus ∷ symbol.Minus ∷ symbol.Star
    ∷ symbol.Slash ∷ symbol.Percent ∷ symbol.Less ∷ symbol.Greater ∷ symbol.Not ∷ []

-- the first of these marks that is written so
abbrev pub symbol_among : List Symbol → List ℕ → Option Symbol
symbol_among [] text = None
symbol_among (s ∷ ss) text = if bytes_eq (symbol_text s) text then Some s else symbol_among ss text

unfoldable pub long_symbol : ℕ → ℕ → Option Symbol
long_symbol first second = symbol_among long_symbols (first ∷ second ∷ [])

unfoldable pub short_symbol : ℕ → Option Symbol
short_symbol first = symbol_among short_symbols (first ∷ [])

abbrev pub short_mark : Option Symbol → Piece
short_mark (Some symbol) = Whole (kind.Symbol symbol) 0
short_mark None = Bad Byte

abbrev pub long_mark : Option Symbol → ℕ → Piece
long_mark (Some symbol) first = Whole (kind.Symbol symbol) 1
long_mark None first = short_mark (short_symbol first)

-- a mark of two bytes where there is one, else of one
abbrev pub mark : ℕ → List ℕ → Piece
mark first [] = short_mark (short_symbol first)
mark first (second ∷ _) = long_mark (long_symbol first second) first

-- ---- the front of a text

abbrev pub begins_comment : ℕ → List ℕ → Bool
begins_comment first [] = false
begins_comment first (second ∷ _) = first == 47 && second == 47

-- what stands at the front of a text
unfoldable pub front : ℕ → List ℕ → Piece
front first rest =
    if is_blank first then Gap 0
    else (if begins_comment first rest then Gap (prefix_len is_no_newline rest)
    else (if is_ascii_alphabetic first then word first rest
    else (if is_ascii_digit first then number first (take_while is_ascii_digit rest)
    else mark first rest)))

-- how many bytes follow the first one
abbrev pub more_of : Piece → ℕ
more_of (Gap more) = more
more_of (Whole _ more) = more
more_of (Bad _) = 0

-- ---- the whole text

-- what the piece at `at` gives, where `onward more` is what follows it
abbrev pub with_piece : Piece → ℕ → (ℕ → Result (List Token) LexError) → Result (List Token) LexError
with_piece (Gap more) at onward = onward more
with_piece (Whole kind more) at onward = with_token (record { at = at; kind = kind }) (onward more)
with_piece (Bad kind) at onward = Err (Fault at kind)

-- The tokens from `at` on, where the first `passed` bytes belong to the piece before.
unfoldable pub lexed_from : (passed at : ℕ) → List ℕ → Result (List Token) LexError
lexed_from passed at [] = Ok []
lexed_from (suc passed) at (byte ∷ rest) = lexed_from passed (at + 1) rest
lexed_from zero at (first ∷ rest) = with_piece (front first rest) at (λ more. lexed_from more (at + 1) rest)

-- the tokens of a text, or its first fault
unfoldable pub lexed : List ℕ → Result (List Token) LexError
lexed bytes = lexed_from 0 0 bytes

-- an answer that is the definition's, unless memory ran out
abbrev pub Gives : Result (List Token) LexError → Result (List Token) LexError → Type 0
Gives (Ok tokens) wanted = wanted ≡ Ok tokens
Gives (Err (Fault at kind)) wanted = wanted ≡ Err (Fault at kind)
Gives (Err Memory) wanted = Unit {0}
