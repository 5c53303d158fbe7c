-- Keywords and marks are found exactly by their texts.
use Rattle.std.proofs.Common.{◌≡◌, ◌∙◌, sym, ap, ℕ, Bool, true, false, cond, List, [], ◌∷◌, Some, refl}
use Rattle.std.specs.Str.{bytes_eq}
use Rattle.std.specs.Char.{is_ascii_digit}
use Rattle.std.proofs.lemmas.Slice.Eq.{bytes_eq-Decides}
use Rattle.xanadu_lexer.specs.declared.keyword.Keyword.{Keyword}
use Rattle.xanadu_lexer.specs.declared.keyword.Keyword.TheVariants as keyword
use Rattle.xanadu_lexer.specs.declared.symbol.Symbol.{Symbol}
use Rattle.xanadu_lexer.specs.declared.symbol.Symbol.TheVariants as symbol
use Rattle.xanadu_lexer.specs.Spelling.{keyword_text, symbol_text}
use Rattle.xanadu_lexer.specs.Lexing.{keywords, keyword_among, keyword_of, symbol_among, long_symbols, short_symbols, long_symbol, short_symbol}

-- equal by the test
pub bytes_eq-true : (a b : List ℕ) → bytes_eq a b ≡ true → a ≡ b
bytes_eq-true a b same = (bytes_eq-Decides a b).0 same

keyword-next : (k : Keyword) (ks : List Keyword) (text : List ℕ) (same : Bool) → bytes_eq (keyword_text k) text ≡ same
    → ((found : Keyword) → keyword_among ks text ≡ Some found → text ≡ keyword_text found)
    → (found : Keyword) → cond same (Some k) (keyword_among ks text) ≡ Some found → text ≡ keyword_text found
keyword-next k ks text true same later found is =
    let first : k ≡ found = cc in sym (bytes_eq-true (keyword_text k) text same) ∙ ap keyword_text first
keyword-next k ks text false same later found is = later found is

pub keyword_among-text : (ks : List Keyword) (text : List ℕ) (found : Keyword) → keyword_among ks text ≡ Some found → text ≡ keyword_text found
keyword_among-text [] text found is = absurd (cc)
keyword_among-text (k ∷ ks) text found is = keyword-next k ks text (bytes_eq (keyword_text k) text) refl (keyword_among-text ks text) found is

pub keyword_of-text : (text : List ℕ) (found : Keyword) → keyword_of text ≡ Some found → text ≡ keyword_text found
unfolding keyword_of
keyword_of-text = keyword_among-text keywords

symbol-next : (s : Symbol) (ss : List Symbol) (text : List ℕ) (same : Bool) → bytes_eq (symbol_text s) text ≡ same
    → ((found : Symbol) → symbol_among ss text ≡ Some found → text ≡ symbol_text found)
    → (found : Symbol) → cond same (Some s) (symbol_among ss text) ≡ Some found → text ≡ symbol_text found
symbol-next s ss text true same later found is =
    let first : s ≡ found = cc in sym (bytes_eq-true (symbol_text s) text same) ∙ ap symbol_text first
symbol-next s ss text false same later found is = later found is

pub symbol_among-text : (ss : List Symbol) (text : List ℕ) (found : Symbol) → symbol_among ss text ≡ Some found → text ≡ symbol_text found
symbol_among-text [] text found is = absurd (cc)
symbol_among-text (s ∷ ss) text found is = symbol-next s ss text (bytes_eq (symbol_text s) text) refl (symbol_among-text ss text) found is

pub short_symbol-text : (first : ℕ) (found : Symbol) → short_symbol first ≡ Some found → first ∷ [] ≡ symbol_text found
unfolding short_symbol
short_symbol-text first = symbol_among-text short_symbols (first ∷ [])

pub long_symbol-text : (first second : ℕ) (found : Symbol) → long_symbol first second ≡ Some found → first ∷ second ∷ [] ≡ symbol_text found
unfolding long_symbol
long_symbol-text first second = symbol_among-text long_symbols (first ∷ second ∷ [])

-- each keyword is found
pub keyword_of-keyword : (k : Keyword) → keyword_of (keyword_text k) ≡ Some k
unfolding keyword_of
keyword_of-keyword keyword.Fun = refl
keyword_of-keyword keyword.Type = refl
keyword_of-keyword keyword.Var = refl
keyword_of-keyword keyword.Let = refl
keyword_of-keyword keyword.If = refl
keyword_of-keyword keyword.Else = refl
keyword_of-keyword keyword.Join = refl
keyword_of-keyword keyword.While = refl
keyword_of-keyword keyword.With = refl
keyword_of-keyword keyword.Return = refl
keyword_of-keyword keyword.Print = refl
keyword_of-keyword keyword.New = refl
keyword_of-keyword keyword.Len = refl
keyword_of-keyword keyword.True = refl
keyword_of-keyword keyword.False = refl
keyword_of-keyword keyword.Int = refl
keyword_of-keyword keyword.Nat = refl
keyword_of-keyword keyword.Bool = refl
keyword_of-keyword keyword.Unit = refl

-- whether the first byte passes
abbrev pub first_passes : (ℕ → Bool) → List ℕ → Bool
first_passes p [] = false
first_passes p (b ∷ _) = p b

pub keyword-no_digit : (k : Keyword) → first_passes is_ascii_digit (keyword_text k) ≡ false
keyword-no_digit keyword.Fun = refl
keyword-no_digit keyword.Type = refl
keyword-no_digit keyword.Var = refl
keyword-no_digit keyword.Let = refl
keyword-no_digit keyword.If = refl
keyword-no_digit keyword.Else = refl
keyword-no_digit keyword.Join = refl
keyword-no_digit keyword.While = refl
keyword-no_digit keyword.With = refl
keyword-no_digit keyword.Return = refl
keyword-no_digit keyword.Print = refl
keyword-no_digit keyword.New = refl
keyword-no_digit keyword.Len = refl
keyword-no_digit keyword.True = refl
keyword-no_digit keyword.False = refl
keyword-no_digit keyword.Int = refl
keyword-no_digit keyword.Nat = refl
keyword-no_digit keyword.Bool = refl
keyword-no_digit keyword.Unit = refl

pub symbol-no_digit : (s : Symbol) → first_passes is_ascii_digit (symbol_text s) ≡ false
symbol-no_digit symbol.LeftParen = refl
symbol-no_digit symbol.RightParen = refl
symbol-no_digit symbol.LeftBrace = refl
symbol-no_digit symbol.RightBrace = refl
symbol-no_digit symbol.LeftBracket = refl
symbol-no_digit symbol.RightBracket = refl
symbol-no_digit symbol.Comma = refl
symbol-no_digit symbol.Semicolon = refl
symbol-no_digit symbol.Colon = refl
symbol-no_digit symbol.Bar = refl
symbol-no_digit symbol.Equal = refl
symbol-no_digit symbol.Plus = refl
symbol-no_digit symbol.Minus = refl
symbol-no_digit symbol.Star = refl
symbol-no_digit symbol.Slash = refl
symbol-no_digit symbol.Percent = refl
symbol-no_digit symbol.Less = refl
symbol-no_digit symbol.LessEqual = refl
symbol-no_digit symbol.Greater = refl
symbol-no_digit symbol.GreaterEqual = refl
symbol-no_digit symbol.EqualEqual = refl
symbol-no_digit symbol.NotEqual = refl
symbol-no_digit symbol.Not = refl
symbol-no_digit symbol.And = refl
symbol-no_digit symbol.Or = refl
