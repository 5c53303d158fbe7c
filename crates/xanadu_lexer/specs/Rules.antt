-- The rules of the tokens, apart from how they are read.
--
-- A source is cut into pieces from its front on, each the longest that may stand there. A blank and a comment are left out. A word, a
-- number and a mark are tokens. A run of digits that is no number is a fault, and so is a place where no piece begins.
use Rattle.std.specs.Prelude.{◌≡◌, ◌≢◌, ℕ, pos, ◌+◌, ◌^◌, ◌<◌, ◌≤◌, Bool, true, not, ◌||◌, ◌==◌, List, [], ◌∷◌, ◌++◌, length, drop, slice_index, Result, Ok, Err}
use Rattle.std.specs.Char.{is_ascii_digit, is_ascii_lowercase, is_ascii_uppercase, is_ascii_alphabetic, is_ascii_alphanumeric}
use Rattle.xanadu_lexer.specs.declared.error.LexError.{LexError}
use Rattle.xanadu_lexer.specs.declared.error.LexError.TheVariants.{Fault}
use Rattle.xanadu_lexer.specs.declared.error.LexKind.TheVariants.{Byte, Number}
use Rattle.xanadu_lexer.specs.declared.keyword.Keyword.{Keyword}
use Rattle.xanadu_lexer.specs.declared.symbol.Symbol.{Symbol}
use Rattle.xanadu_lexer.specs.declared.token.Token.{Token}
use Rattle.xanadu_lexer.specs.declared.token.TokenKind.{TokenKind}
use Rattle.xanadu_lexer.specs.declared.token.TokenKind.TheVariants as kind
use Rattle.xanadu_lexer.specs.Spelling.{keyword_text, symbol_text, spelled, value}

-- ---- bytes

-- space, tab, newline, carriage return
abbrev pub is_blank : ℕ → Bool
is_blank byte = byte == 32 || byte == 9 || byte == 10 || byte == 13

-- a letter, a digit or `_`
abbrev pub is_word : ℕ → Bool
is_word byte = is_ascii_alphanumeric byte || byte == 95

abbrev pub is_no_newline : ℕ → Bool
is_no_newline byte = not (byte == 10)

-- each byte of the text passes
abbrev pub Each : (ℕ → Bool) → List ℕ → Type 0
Each passes [] = Unit {0}
Each passes (byte ∷ more) = (passes byte ≡ true) × Each passes more

-- ---- pieces

pub data IsGap : List ℕ → Type 0 where
  Blank : (byte : ℕ) → is_blank byte ≡ true → IsGap (byte ∷ [])
  -- `//`, and then no newline
  Comment : (line : List ℕ) → Each is_no_newline line → IsGap (47 ∷ 47 ∷ line)

pub data IsPiece : List ℕ → Type 0 where
  Gapped : (text : List ℕ) → IsGap text → IsPiece text
  Word : (letter : ℕ) (more : List ℕ) → is_ascii_alphabetic letter ≡ true → Each is_word more → IsPiece (letter ∷ more)
  Digits : (digit : ℕ) (more : List ℕ) → is_ascii_digit digit ≡ true → Each is_ascii_digit more → IsPiece (digit ∷ more)
  Mark : (symbol : Symbol) → IsPiece (symbol_text symbol)

-- a piece, and no longer one stands at the front of the same bytes
pub record IsLongest (text rest : List ℕ) : Type 0 where
  pub piece : IsPiece text
  pub longest : (longer more : List ℕ) → IsPiece longer → longer ++ more ≡ text ++ rest → length longer ≤ length text

-- ---- tokens

-- a byte that passes, and then letters, digits and `_`
abbrev pub IsWord : (ℕ → Bool) → List ℕ → Type 0
IsWord passes [] = ⊥
IsWord passes (first ∷ more) = (passes first ≡ true) × Each is_word more

-- a small letter in front, and no keyword
pub record IsLower (name : List ℕ) : Type 0 where
  pub word : IsWord is_ascii_lowercase name
  pub other : (keyword : Keyword) → name ≢ keyword_text keyword

-- digits of a number that fits, without zeros in front
pub record IsNumber (number : ℕ) (text : List ℕ) : Type 0 where
  pub some : 0 < length text
  pub digits : Each is_ascii_digit text
  pub trimmed : slice_index text 0 ≡ 48 → length text ≡ 1
  pub is : value text ≡ number
  pub fits : number < 2 ^ 63

-- the text is one of a token of this kind
abbrev pub IsToken : TokenKind → List ℕ → Type 0
IsToken (kind.Lower name) text = (text ≡ name) × IsLower name
IsToken (kind.Upper name) text = (text ≡ name) × IsWord is_ascii_uppercase name
IsToken (kind.Num number) text = (n : ℕ) × (number ≡ pos n) × IsNumber n text
IsToken (kind.Keyword keyword) text = text ≡ keyword_text keyword
IsToken (kind.Symbol symbol) text = text ≡ symbol_text symbol

-- ---- the whole source

abbrev pub with_token : Token → Result (List Token) LexError → Result (List Token) LexError
with_token token (Ok tokens) = Ok (token ∷ tokens)
with_token token (Err error) = Err error

-- What the bytes from the place `at` on are.
pub data Lexes : (at : ℕ) → List ℕ → Result (List Token) LexError → Type 0 where
  Ended : (at : ℕ) → Lexes at [] (Ok [])
  AfterGap : (at : ℕ) (text rest : List ℕ) (answer : Result (List Token) LexError)
      → IsGap text → IsLongest text rest → Lexes (at + length text) rest answer → Lexes at (text ++ rest) answer
  AfterToken : (at : ℕ) (text rest : List ℕ) (kind : TokenKind) (answer : Result (List Token) LexError)
      → IsToken kind text → IsLongest text rest → Lexes (at + length text) rest answer
      → Lexes at (text ++ rest) (with_token (record { at = at; kind = kind }) answer)
  BadNumber : (at : ℕ) (text rest : List ℕ)
      → Each is_ascii_digit text → IsLongest text rest → ((kind : TokenKind) → ¬ IsToken kind text) → Lexes at (text ++ rest) (Err (Fault at Number))
  BadByte : (at first : ℕ) (rest : List ℕ)
      → ((text more : List ℕ) → IsPiece text → text ++ more ≢ first ∷ rest) → Lexes at (first ∷ rest) (Err (Fault at Byte))

-- the token's text stands at its place
abbrev pub IsSpelledIn : List ℕ → Token → Type 0
IsSpelledIn bytes token = (rest : List ℕ) × (drop token.at bytes ≡ spelled token.kind ++ rest)

abbrev pub AreSpelledIn : List ℕ → List Token → Type 0
AreSpelledIn bytes [] = Unit {0}
AreSpelledIn bytes (token ∷ tokens) = IsSpelledIn bytes token × AreSpelledIn bytes tokens
