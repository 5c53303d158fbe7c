-- The rules allow one answer only: that of the definition.
use Rattle.std.proofs.Common.{◌≡◌, ◌∙◌, sym, ap, subst, ℕ, pos, ◌+◌, ◌<◌, ◌≤◌, true, false, List, [], ◌∷◌, ◌++◌, length, take, Option, Some, None, inl, inr, Result, Err, refl, arith, length-append}
use Rattle.std.specs.Prelude.{if◌then◌else◌, ◌==◌}
use Rattle.std.specs.Option.{option_map}
use Rattle.std.specs.Char.{is_ascii_digit, is_ascii_lowercase, is_ascii_uppercase, is_ascii_alphabetic}
use Rattle.std.proofs.Math.Seq.{take-append_seam, drop-append_seam}
use Rattle.std.proofs.lemmas.Bool.{eqb-true, or_cases, both_ways}
use Rattle.xanadu_lexer.specs.declared.error.LexError.{LexError}
use Rattle.xanadu_lexer.specs.declared.error.LexError.TheVariants.{Fault}
use Rattle.xanadu_lexer.specs.declared.error.LexKind.TheVariants.{Byte, Number}
use Rattle.xanadu_lexer.specs.declared.keyword.Keyword.{Keyword}
use Rattle.xanadu_lexer.specs.declared.keyword.Keyword.TheVariants as keyword
use Rattle.xanadu_lexer.specs.declared.symbol.Symbol.{Symbol}
use Rattle.xanadu_lexer.specs.declared.symbol.Symbol.TheVariants as symbol
use Rattle.xanadu_lexer.specs.declared.piece.Piece.{Piece}
use Rattle.xanadu_lexer.specs.declared.piece.Piece.TheVariants.{Gap, Whole, Bad}
use Rattle.xanadu_lexer.specs.declared.token.Token.{Token}
use Rattle.xanadu_lexer.specs.declared.token.TokenKind.{TokenKind}
use Rattle.xanadu_lexer.specs.declared.token.TokenKind.TheVariants as kind
use Rattle.xanadu_lexer.specs.Spelling.{keyword_text, symbol_text, value}
use Rattle.xanadu_lexer.specs.Rules.{is_blank, Each, IsGap, Blank, Comment, IsPiece, Gapped, Word, Digits, Mark, IsLongest, IsWord, IsLower, IsNumber, IsToken, with_token, Lexes, Ended, AfterGap, AfterToken, BadNumber, BadByte}
use Rattle.xanadu_lexer.specs.Lexing.{keyword_of, word_from, long_symbols, short_symbols, symbol_among, front, with_piece, lexed_from, lexed}
use Rattle.xanadu_lexer.proofs.PieceSteps.{lexed_from-passes}
use Rattle.xanadu_lexer.proofs.Bytes.{digit-blank}
use Rattle.xanadu_lexer.proofs.Longest.{reach, length-le-reach_of}
use Rattle.xanadu_lexer.proofs.Words.{keyword_of-text, first_passes}
use Rattle.xanadu_lexer.proofs.Front.{IsFront, is_front}
use Rattle.xanadu_lexer.proofs.ByRules.{longest_text, after_longest, parts, length-longest_text}

-- ---- a text is one token at most

-- the token that a text is, if it is one
abbrev token_of : List ℕ → Option TokenKind
token_of [] = None
token_of (first ∷ more) =
    if is_ascii_digit first then Some (kind.Num (pos (value (first ∷ more))))
    else (if is_ascii_alphabetic first then Some (word_from (keyword_of (first ∷ more)) first (first ∷ more))
    else option_map kind.Symbol (symbol_among (long_symbols ++ short_symbols) (first ∷ more)))

token_of-keyword : (k : Keyword) → token_of (keyword_text k) ≡ Some (kind.Keyword k)
unfolding keyword_of
token_of-keyword keyword.Fun = refl
token_of-keyword keyword.Type = refl
token_of-keyword keyword.Var = refl
token_of-keyword keyword.Let = refl
token_of-keyword keyword.If = refl
token_of-keyword keyword.Else = refl
token_of-keyword keyword.Join = refl
token_of-keyword keyword.While = refl
token_of-keyword keyword.With = refl
token_of-keyword keyword.Return = refl
token_of-keyword keyword.Print = refl
token_of-keyword keyword.New = refl
token_of-keyword keyword.Len = refl
token_of-keyword keyword.True = refl
token_of-keyword keyword.False = refl
token_of-keyword keyword.Int = refl
token_of-keyword keyword.Nat = refl
token_of-keyword keyword.Bool = refl
token_of-keyword keyword.Unit = refl

token_of-symbol : (s : Symbol) → token_of (symbol_text s) ≡ Some (kind.Symbol s)
token_of-symbol symbol.LeftParen = refl
token_of-symbol symbol.RightParen = refl
token_of-symbol symbol.LeftBrace = refl
token_of-symbol symbol.RightBrace = refl
token_of-symbol symbol.LeftBracket = refl
token_of-symbol symbol.RightBracket = refl
token_of-symbol symbol.Comma = refl
token_of-symbol symbol.Semicolon = refl
token_of-symbol symbol.Colon = refl
token_of-symbol symbol.Bar = refl
token_of-symbol symbol.Equal = refl
token_of-symbol symbol.Plus = refl
token_of-symbol symbol.Minus = refl
token_of-symbol symbol.Star = refl
token_of-symbol symbol.Slash = refl
token_of-symbol symbol.Percent = refl
token_of-symbol symbol.Less = refl
token_of-symbol symbol.LessEqual = refl
token_of-symbol symbol.Greater = refl
token_of-symbol symbol.GreaterEqual = refl
token_of-symbol symbol.EqualEqual = refl
token_of-symbol symbol.NotEqual = refl
token_of-symbol symbol.Not = refl
token_of-symbol symbol.And = refl
token_of-symbol symbol.Or = refl

keyword-no_capital : (k : Keyword) → first_passes is_ascii_uppercase (keyword_text k) ≡ false
keyword-no_capital keyword.Fun = refl
keyword-no_capital keyword.Type = refl
keyword-no_capital keyword.Var = refl
keyword-no_capital keyword.Let = refl
keyword-no_capital keyword.If = refl
keyword-no_capital keyword.Else = refl
keyword-no_capital keyword.Join = refl
keyword-no_capital keyword.While = refl
keyword-no_capital keyword.With = refl
keyword-no_capital keyword.Return = refl
keyword-no_capital keyword.Print = refl
keyword-no_capital keyword.New = refl
keyword-no_capital keyword.Len = refl
keyword-no_capital keyword.True = refl
keyword-no_capital keyword.False = refl
keyword-no_capital keyword.Int = refl
keyword-no_capital keyword.Nat = refl
keyword-no_capital keyword.Bool = refl
keyword-no_capital keyword.Unit = refl

no_keyword : (text : List ℕ) (o : Option Keyword) → keyword_of text ≡ o → ((k : Keyword) → ¬ (text ≡ keyword_text k)) → keyword_of text ≡ None
no_keyword text (Some k) found none = absurd (none k (keyword_of-text text k found))
no_keyword text None found none = found

token_of-lower : (name : List ℕ) → IsLower name → token_of name ≡ Some (kind.Lower name)
token_of-lower [] is = absurd is.word
token_of-lower (first ∷ more) is =
    let small : is_ascii_lowercase first ≡ true = is.word.0 in
    let digit : is_ascii_digit first ≡ false = grind arith in
    let letter : is_ascii_alphabetic first ≡ true = grind arith in
    let other : keyword_of (first ∷ more) ≡ None = no_keyword (first ∷ more) (keyword_of (first ∷ more)) refl is.other in
    rw (digit, letter, other, small) refl

token_of-upper : (name : List ℕ) → IsWord is_ascii_uppercase name → token_of name ≡ Some (kind.Upper name)
token_of-upper [] is = absurd is
token_of-upper (first ∷ more) is =
    let large : is_ascii_uppercase first ≡ true = is.0 in
    let digit : is_ascii_digit first ≡ false = grind arith in
    let letter : is_ascii_alphabetic first ≡ true = grind arith in
    let small : is_ascii_lowercase first ≡ false = grind arith in
    let other : keyword_of (first ∷ more) ≡ None = no_keyword (first ∷ more) (keyword_of (first ∷ more)) refl
    (λ k same. both_ways (is_ascii_uppercase first) (ap (first_passes is_ascii_uppercase) same ∙ keyword-no_capital k) large) in
    rw (digit, letter, other, small) refl

token_of-number : (n : ℕ) (text : List ℕ) → IsNumber n text → token_of text ≡ Some (kind.Num (pos n))
token_of-number n [] is = let some : 0 < 0 = is.some in absurd (omega arith)
token_of-number n (first ∷ more) is =
    let digit : is_ascii_digit first ≡ true = is.digits.0 in
    rw digit (ap (λ m. Some (kind.Num (pos m))) is.is)

token_of-is : (one : TokenKind) (text : List ℕ) → IsToken one text → token_of text ≡ Some one
token_of-is (kind.Lower name) text is = ap token_of is.0 ∙ token_of-lower name is.1
token_of-is (kind.Upper name) text is = ap token_of is.0 ∙ token_of-upper name is.1
token_of-is (kind.Num signed) text is = token_of-number is.0 text is.2 ∙ ap (λ z. Some (kind.Num z)) (sym is.1)
token_of-is (kind.Keyword k) text is = ap token_of is ∙ token_of-keyword k
token_of-is (kind.Symbol s) text is = ap token_of is ∙ token_of-symbol s

same_token : (one other : TokenKind) (text : List ℕ) → IsToken one text → IsToken other text → one ≡ other
same_token one other text first second = cc (token_of-is one text first, token_of-is other text second)

-- ---- a gap is no token and no number

blank-is : (byte : ℕ) → is_blank byte ≡ true → token_of (byte ∷ []) ≡ None
blank-is byte blank = elim (or_cases _ _ blank) [
  | inl h ↦ elim (or_cases _ _ h) [
    | inl g ↦ elim (or_cases _ _ g) [ inl f ↦ is 32 f refl | inr f ↦ is 9 f refl ]
    | inr g ↦ is 10 g refl
  ]
  | inr h ↦ is 13 h refl
]
  where
    is : (code : ℕ) → (byte == code) ≡ true → token_of (code ∷ []) ≡ None → token_of (byte ∷ []) ≡ None
    is code same none = subst (λ b. token_of (b ∷ []) ≡ None) (sym (eqb-true byte code same)) none

gap-no_token : (text : List ℕ) (one : TokenKind) → IsGap text → ¬ IsToken one text
gap-no_token _ one (Blank byte blank) is = cc (token_of-is one (byte ∷ []) is, blank-is byte blank)
gap-no_token _ one (Comment line each) is = let none : token_of (47 ∷ 47 ∷ line) ≡ None = refl in cc (token_of-is one (47 ∷ 47 ∷ line) is)

gap-no_digits : (text : List ℕ) → IsGap text → ¬ Each is_ascii_digit text
gap-no_digits _ (Blank byte blank) each = both_ways (is_blank byte) (digit-blank byte each.0) blank
gap-no_digits _ (Comment line each) digits = let no_digit : is_ascii_digit 47 ≡ false = refl in cc (digits.0)

-- ---- the longest piece is the definition's

piece-some : (text : List ℕ) → IsPiece text → 1 ≤ length text
piece-some _ (Gapped _ (Blank byte blank)) = omega arith
piece-some _ (Gapped _ (Comment line each)) = omega arith
piece-some _ (Word letter run is each) = omega arith
piece-some _ (Digits digit run is each) = omega arith
piece-some _ (Mark s) = symbol-some s
  where
    symbol-some : (s : Symbol) → 1 ≤ length (symbol_text s)
    symbol-some symbol.LeftParen = omega arith
    symbol-some symbol.RightParen = omega arith
    symbol-some symbol.LeftBrace = omega arith
    symbol-some symbol.RightBrace = omega arith
    symbol-some symbol.LeftBracket = omega arith
    symbol-some symbol.RightBracket = omega arith
    symbol-some symbol.Comma = omega arith
    symbol-some symbol.Semicolon = omega arith
    symbol-some symbol.Colon = omega arith
    symbol-some symbol.Bar = omega arith
    symbol-some symbol.Equal = omega arith
    symbol-some symbol.Plus = omega arith
    symbol-some symbol.Minus = omega arith
    symbol-some symbol.Star = omega arith
    symbol-some symbol.Slash = omega arith
    symbol-some symbol.Percent = omega arith
    symbol-some symbol.Less = omega arith
    symbol-some symbol.LessEqual = omega arith
    symbol-some symbol.Greater = omega arith
    symbol-some symbol.GreaterEqual = omega arith
    symbol-some symbol.EqualEqual = omega arith
    symbol-some symbol.NotEqual = omega arith
    symbol-some symbol.Not = omega arith
    symbol-some symbol.And = omega arith
    symbol-some symbol.Or = omega arith

same_length : (first : ℕ) (more rest : List ℕ) → IsLongest (first ∷ more) rest → IsPiece (longest_text first (more ++ rest))
    → length more ≡ reach first (more ++ rest)
same_length first more rest is piece =
    let within : length (first ∷ more) ≤ 1 + reach first (more ++ rest) = length-le-reach_of (first ∷ more) rest is.piece in
    let whole : length (longest_text first (more ++ rest)) ≤ length (first ∷ more) =
    is.longest (longest_text first (more ++ rest)) (after_longest first (more ++ rest)) piece (parts first (more ++ rest)) in
    omega (arith, within, whole, length-longest_text first (more ++ rest))

same_text : (first : ℕ) (more rest : List ℕ) → IsLongest (first ∷ more) rest → IsPiece (longest_text first (more ++ rest))
    → longest_text first (more ++ rest) ≡ first ∷ more
same_text first more rest is piece =
    ap (λ n. first ∷ take n (more ++ rest)) (sym (same_length first more rest is piece)) ∙ ap (λ bytes. first ∷ bytes) (take-append_seam more rest)

onward : (at first : ℕ) (more rest : List ℕ) (m : ℕ) → IsLongest (first ∷ more) rest → IsPiece (longest_text first (more ++ rest))
    → m ≡ reach first (more ++ rest) → lexed_from 0 (at + length (first ∷ more)) rest ≡ lexed_from m (at + 1) (more ++ rest)
onward at first more rest m is piece same =
    let long : length more ≡ m = same_length first more rest is piece ∙ sym same in
    let place : at + length (first ∷ more) ≡ at + 1 + length more = omega arith in
    let within : length more ≤ length (more ++ rest) = omega (arith, length-append more rest) in
    ap (λ n. lexed_from 0 n rest) place
    ∙ sym (lexed_from-passes (length more) (at + 1) (more ++ rest) within ∙ ap (λ bytes. lexed_from 0 (at + 1 + length more) bytes) (drop-append_seam more rest))
    ∙ ap (λ n. lexed_from n (at + 1) (more ++ rest)) long

-- ---- one piece

abbrev Onward : ℕ → List ℕ → ℕ → Result (List Token) LexError
Onward at bytes m = lexed_from m (at + 1) bytes

gap_only : (at first : ℕ) (more rest : List ℕ) (answer : Result (List Token) LexError) (p : Piece)
    → IsFront first (more ++ rest) p (reach first (more ++ rest)) → IsGap (first ∷ more) → IsLongest (first ∷ more) rest
    → answer ≡ lexed_from 0 (at + length (first ∷ more)) rest → answer ≡ with_piece p at (Onward at (more ++ rest))
gap_only at first more rest answer (Gap m) is gap longest same = same ∙ onward at first more rest m longest (Gapped _ is.1) is.0
gap_only at first more rest answer (Whole one m) is gap longest same =
    absurd (gap-no_token (first ∷ more) one gap (subst (IsToken one) (same_text first more rest longest is.2) is.1))
gap_only at first more rest answer (Bad Number) is gap longest same =
    absurd (gap-no_digits (first ∷ more) gap (subst (Each is_ascii_digit) (same_text first more rest longest (Digits _ _ is.0.0 is.0.1)) is.0))
gap_only at first more rest answer (Bad Byte) is gap longest same = absurd (is (first ∷ more) rest longest.piece refl)

token_only : (at first : ℕ) (more rest : List ℕ) (one : TokenKind) (answer : Result (List Token) LexError) (p : Piece)
    → IsFront first (more ++ rest) p (reach first (more ++ rest)) → IsToken one (first ∷ more) → IsLongest (first ∷ more) rest
    → answer ≡ lexed_from 0 (at + length (first ∷ more)) rest
    → with_token (record { at = at; kind = one }) answer ≡ with_piece p at (Onward at (more ++ rest))
token_only at first more rest one answer (Gap m) is token longest same =
    absurd (gap-no_token (first ∷ more) one (subst IsGap (same_text first more rest longest (Gapped _ is.1)) is.1) token)
token_only at first more rest one answer (Whole other m) is token longest same =
    let alike : one ≡ other = same_token one other (first ∷ more) token (subst (IsToken other) (same_text first more rest longest is.2) is.1) in
    ap (λ k. with_token (record { at = at; kind = k }) answer) alike
    ∙ ap (with_token (record { at = at; kind = other })) (same ∙ onward at first more rest m longest is.2 is.0)
token_only at first more rest one answer (Bad Number) is token longest same =
    absurd (is.1 one (subst (IsToken one) (sym (same_text first more rest longest (Digits _ _ is.0.0 is.0.1))) token))
token_only at first more rest one answer (Bad Byte) is token longest same = absurd (is (first ∷ more) rest longest.piece refl)

number_only : (at first : ℕ) (more rest : List ℕ) (p : Piece) → IsFront first (more ++ rest) p (reach first (more ++ rest))
    → Each is_ascii_digit (first ∷ more) → IsLongest (first ∷ more) rest → ((one : TokenKind) → ¬ IsToken one (first ∷ more))
    → Err (Fault at Number) ≡ with_piece p at (Onward at (more ++ rest))
number_only at first more rest (Gap m) is each longest none =
    absurd (gap-no_digits (first ∷ more) (subst IsGap (same_text first more rest longest (Gapped _ is.1)) is.1) each)
number_only at first more rest (Whole one m) is each longest none =
    absurd (none one (subst (IsToken one) (same_text first more rest longest is.2) is.1))
number_only at first more rest (Bad Number) is each longest none = refl
number_only at first more rest (Bad Byte) is each longest none = absurd (is (first ∷ more) rest longest.piece refl)

byte_only : (at first : ℕ) (rest : List ℕ) (p : Piece) → IsFront first rest p (reach first rest)
    → ((text more : List ℕ) → IsPiece text → ¬ (text ++ more ≡ first ∷ rest)) → Err (Fault at Byte) ≡ with_piece p at (Onward at rest)
byte_only at first rest (Gap m) is none = absurd (none (longest_text first rest) (after_longest first rest) (Gapped _ is.1) (parts first rest))
byte_only at first rest (Whole one m) is none = absurd (none (longest_text first rest) (after_longest first rest) is.2 (parts first rest))
byte_only at first rest (Bad Number) is none =
    absurd (none (longest_text first rest) (after_longest first rest) (Digits _ _ is.0.0 is.0.1) (parts first rest))
byte_only at first rest (Bad Byte) is none = refl

-- ---- the whole text

only_from : (at : ℕ) (bytes : List ℕ) (answer : Result (List Token) LexError) → Lexes at bytes answer → answer ≡ lexed_from 0 at bytes
unfolding lexed_from
only_from _ _ _ (Ended at) = refl
only_from _ _ _ (AfterGap at [] rest answer gap longest later) = let some : 1 ≤ 0 = piece-some [] longest.piece in absurd (omega arith)
only_from _ _ _ (AfterGap at (first ∷ more) rest answer gap longest later) =
    gap_only at first more rest answer (front first (more ++ rest)) (is_front first (more ++ rest)) gap longest (only_from _ _ _ later)
only_from _ _ _ (AfterToken at [] rest one answer is longest later) = let some : 1 ≤ 0 = piece-some [] longest.piece in absurd (omega arith)
only_from _ _ _ (AfterToken at (first ∷ more) rest one answer is longest later) =
    token_only at first more rest one answer (front first (more ++ rest)) (is_front first (more ++ rest)) is longest (only_from _ _ _ later)
only_from _ _ _ (BadNumber at [] rest each longest none) = let some : 1 ≤ 0 = piece-some [] longest.piece in absurd (omega arith)
only_from _ _ _ (BadNumber at (first ∷ more) rest each longest none) =
    number_only at first more rest (front first (more ++ rest)) (is_front first (more ++ rest)) each longest none
only_from _ _ _ (BadByte at first rest none) = byte_only at first rest (front first rest) (is_front first rest) none

pub lexed_only : (bytes : List ℕ) (answer : Result (List Token) LexError) → Lexes 0 bytes answer → answer ≡ lexed bytes
unfolding lexed
lexed_only bytes answer is = only_from 0 bytes answer is
