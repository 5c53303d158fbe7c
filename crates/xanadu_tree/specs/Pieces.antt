-- A list of tokens that is spelled out ahead: which kinds they have, and where some of them stand.
use Rattle.std.specs.Prelude.{◌≡◌, ℕ, ◌+◌, List, [], ◌∷◌, ◌++◌, length, map, Option, Some, None, IfSome}
use Rattle.xanadu_lexer.specs.declared.keyword.Keyword.{Keyword}
use Rattle.xanadu_lexer.specs.declared.symbol.Symbol.{Symbol}
use Rattle.xanadu_lexer.specs.declared.symbol.Symbol.TheVariants as symbol
use Rattle.xanadu_lexer.specs.declared.token.Token.{Token}
use Rattle.xanadu_lexer.specs.declared.token.TokenKind.{TokenKind}
use Rattle.xanadu_lexer.specs.declared.token.TokenKind.TheVariants as kind
use Rattle.xanadu_lexer.specs.Rules.{IsToken}
use Rattle.xanadu_lexer.specs.Spelling.{spelled}

-- a kind of token, and where the token stands if that is known
pub record Piece : Type 0 where
  pub kind : TokenKind
  pub at : Option ℕ

abbrev pub anywhere : TokenKind → Piece
anywhere kind = record { kind = kind; at = None }

abbrev pub placed : TokenKind → ℕ → Piece
placed kind at = record { kind = kind; at = Some at }

abbrev pub word : Keyword → Piece
word keyword = anywhere (kind.Keyword keyword)

abbrev pub word_at : Keyword → ℕ → Piece
word_at keyword at = placed (kind.Keyword keyword) at

abbrev pub mark : Symbol → Piece
mark symbol = anywhere (kind.Symbol symbol)

abbrev pub mark_at : Symbol → ℕ → Piece
mark_at symbol at = placed (kind.Symbol symbol) at

abbrev pub kinds : List Piece → List TokenKind
kinds pieces = map (λ piece. piece.kind) pieces

-- ---- tokens that are spelled

pub record IsPiece (piece : Piece) (token : Token) : Type 0 where
  pub kind : token.kind ≡ piece.kind
  pub at : IfSome piece.at (λ at. token.at ≡ at)

-- the tokens are these, one for each piece
abbrev pub Spelled : List Piece → List Token → Type 0
Spelled [] [] = Unit {0}
Spelled [] (token ∷ tokens) = ⊥
Spelled (piece ∷ pieces) [] = ⊥
Spelled (piece ∷ pieces) (token ∷ tokens) = IsPiece piece token × Spelled pieces tokens

-- ---- kinds that a source can have

-- some text is a token of this kind: a name is one that a source can hold, and a number is in range
abbrev pub HasText : TokenKind → Type 0
HasText kind = IsToken kind (spelled kind)

abbrev pub HaveTexts : List TokenKind → Type 0
HaveTexts [] = Unit {0}
HaveTexts (kind ∷ more) = HasText kind × HaveTexts more

-- the text of a token, and a space behind it
unfoldable pub shown : TokenKind → List ℕ
shown kind = spelled kind ++ 32 ∷ []

-- the text of each, in order
abbrev pub text : List Piece → List ℕ
text [] = []
text (piece ∷ pieces) = shown piece.kind ++ text pieces

-- tokens of these kinds from a place on, each with its text and a space behind it
abbrev pub tokens_from : (at : ℕ) → List TokenKind → List Token
tokens_from at [] = []
tokens_from at (kind ∷ kinds) = record { at = at; kind = kind } ∷ tokens_from (at + length (spelled kind) + 1) kinds

-- ---- lists with commas

abbrev pub behind_commas : {A : Type 0} → (A → List Piece) → List A → List Piece
behind_commas pieces [] = []
behind_commas pieces (x ∷ xs) = mark symbol.Comma ∷ (pieces x ++ behind_commas pieces xs)

abbrev pub with_commas : {A : Type 0} → (A → List Piece) → List A → List Piece
with_commas pieces [] = []
with_commas pieces (x ∷ xs) = pieces x ++ behind_commas pieces xs

-- the pieces of a part that may be left out
abbrev pub optional : {A : Type 0} → (A → List Piece) → Option A → List Piece
optional pieces None = []
optional pieces (Some x) = pieces x
