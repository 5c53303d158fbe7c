-- What stands at the front of a text is what the rules say.
use Rattle.std.proofs.Common.{◌≡◌, ◌≢◌, ◌∙◌, sym, ap, subst, ℕ, suc, pos, ◌^◌, ◌<◌, Bool, true, false, not, ◌&&◌, List, [], ◌∷◌, ◌++◌, length, take, Option, Some, None, refl, arith}
use Rattle.std.specs.Prelude.{if◌then◌else◌, ◌==◌, nat_lt}
use Rattle.std.specs.List.{prefix_len, take_while}
use Rattle.std.specs.Option.{is_some}
use Rattle.std.specs.Char.{is_ascii_digit, is_ascii_lowercase, is_ascii_uppercase, is_ascii_alphabetic}
use Rattle.std.proofs.lemmas.Bool.{eqb-true, ltb-true, lt-ltb, and_parts, and_from, both_ways}
use Rattle.std.proofs.lemmas.List.Folds.{length-prefix_len}
use Rattle.xanadu_lexer.specs.declared.error.LexKind.TheVariants.{Byte, Number}
use Rattle.xanadu_lexer.specs.declared.keyword.Keyword.{Keyword}
use Rattle.xanadu_lexer.specs.declared.symbol.Symbol.{Symbol}
use Rattle.xanadu_lexer.specs.declared.symbol.Symbol.TheVariants as symbol
use Rattle.xanadu_lexer.specs.declared.piece.Piece.{Piece}
use Rattle.xanadu_lexer.specs.declared.piece.Piece.TheVariants.{Gap, Whole, Bad}
use Rattle.xanadu_lexer.specs.declared.token.TokenKind.{TokenKind}
use Rattle.xanadu_lexer.specs.declared.token.TokenKind.TheVariants as kind
use Rattle.xanadu_lexer.specs.Spelling.{symbol_text, value}
use Rattle.xanadu_lexer.specs.Rules.{is_blank, is_word, is_no_newline, Each, IsGap, Blank, Comment, IsPiece, Gapped, Word, Digits, Mark, IsWord, IsNumber, IsToken}
use Rattle.xanadu_lexer.specs.Lexing.{begins_comment, keyword_of, word_from, word, is_number, number, long_symbol, short_symbol, short_mark, long_mark, mark, front}
use Rattle.xanadu_lexer.proofs.Bytes.{take-one, each-longest, letter-blank, digit-blank, digit-letter}
use Rattle.xanadu_lexer.proofs.Longest.{mark_reach, reach}
use Rattle.xanadu_lexer.proofs.Words.{keyword_of-text, keyword_of-keyword, first_passes, keyword-no_digit, symbol-no_digit, short_symbol-text, long_symbol-text}

-- what a piece of `long + 1` bytes at the front has to be
abbrev pub IsFront : ℕ → List ℕ → Piece → ℕ → Type 0
IsFront first rest (Gap more) long = (more ≡ long) × IsGap (first ∷ take long rest)
IsFront first rest (Whole kind more) long = (more ≡ long) × IsToken kind (first ∷ take long rest) × IsPiece (first ∷ take long rest)
IsFront first rest (Bad Number) long = Each is_ascii_digit (first ∷ take long rest) × ((kind : TokenKind) → ¬ IsToken kind (first ∷ take long rest))
IsFront first rest (Bad Byte) long = (text more : List ℕ) → IsPiece text → text ++ more ≢ first ∷ rest

choose : (P : Piece → ℕ → Type 0) (test : Bool) (a b : Piece) (m n : ℕ) → (test ≡ true → P a m) → (test ≡ false → P b n)
    → P (if test then a else b) (if test then m else n)
choose P true a b m n then_holds else_holds = then_holds refl
choose P false a b m n then_holds else_holds = else_holds refl

-- ---- comments

is_comment : (first : ℕ) (rest : List ℕ) → begins_comment first rest ≡ true → IsGap (first ∷ take (prefix_len is_no_newline rest) rest)
is_comment first [] begins = absurd (cc)
is_comment first (second ∷ rest) begins =
    let both = and_parts (first == 47) (second == 47) begins in
    let one : 47 ≡ first = sym (eqb-true first 47 both.0) in
    let two : 47 ≡ second = sym (eqb-true second 47 both.1) in
    let P : ℕ → ℕ → Type 0 = λ a b. IsGap (a ∷ take (prefix_len is_no_newline (b ∷ rest)) (b ∷ rest)) in
    subst (λ a. P a second) one (subst (λ b. P 47 b) two
    (rw (take-one (prefix_len is_no_newline rest) 47 rest) (Comment (take (prefix_len is_no_newline rest) rest) (each-longest is_no_newline rest))))

-- ---- words

word_token : (first : ℕ) (more : List ℕ) (o : Option Keyword) → is_ascii_alphabetic first ≡ true → Each is_word more → keyword_of (first ∷ more) ≡ o
    → IsToken (word_from o first (first ∷ more)) (first ∷ more)
word_token first more (Some keyword) letter each found = keyword_of-text (first ∷ more) keyword found
word_token first more None letter each found = name_token first more (is_ascii_lowercase first) refl letter each found
  where
    name_token : (first : ℕ) (more : List ℕ) (small : Bool) → is_ascii_lowercase first ≡ small → is_ascii_alphabetic first ≡ true → Each is_word more
        → keyword_of (first ∷ more) ≡ None → IsToken (if small then kind.Lower (first ∷ more) else kind.Upper (first ∷ more)) (first ∷ more)
    name_token first more true small letter each found = (
      refl,
      record {
        word = (small, each);
        other = λ k is. let e = keyword_of-keyword k in let f : keyword_of (first ∷ more) ≡ Some k = rw is e in cc;
      },
    )
    name_token first more false small letter each found = (refl, (grind arith, each))

is_front_word : (first : ℕ) (rest : List ℕ) → is_ascii_alphabetic first ≡ true → IsFront first rest (word first rest) (prefix_len is_word rest)
unfolding word
is_front_word first rest letter =
    let each = each-longest is_word rest in (
      refl,
      word_token first (take (prefix_len is_word rest) rest) (keyword_of (first ∷ take (prefix_len is_word rest) rest)) letter each refl,
      Word first (take (prefix_len is_word rest) rest) letter each,
    )

-- ---- numbers

number_token : (first : ℕ) (digits : List ℕ) → is_ascii_digit first ≡ true → Each is_ascii_digit digits → is_number first digits ≡ true
    → IsNumber (value (first ∷ digits)) (first ∷ digits)
number_token first digits digit each fits =
    let parts = and_parts (not (first == 48 && nat_lt 0 (length digits))) (nat_lt (value (first ∷ digits)) (2 ^ 63)) fits in
    let trimmed = parts.0 in
    let small = parts.1 in
    record {
      some = omega arith;
      digits = (digit, each);
      trimmed = λ zero_in_front. grind arith;
      is = refl;
      fits = ltb-true _ _ small;
    }

no_zero : (first long : ℕ) → (first ≡ 48 → suc long ≡ 1) → not (first == 48 && nat_lt 0 long) ≡ true
no_zero first long trimmed = grind arith

is_number-from : (first : ℕ) (digits : List ℕ) (n : ℕ) → IsNumber n (first ∷ digits) → is_number first digits ≡ true
is_number-from first digits n is =
    let small : value (first ∷ digits) < 2 ^ 63 = omega (arith, is.is, is.fits) in
    let trimmed : first ≡ 48 → suc (length digits) ≡ 1 = is.trimmed in
    and_from _ _ (no_zero first (length digits) trimmed) (lt-ltb _ _ small)

no_token : (first : ℕ) (digits : List ℕ) → is_ascii_digit first ≡ true → is_number first digits ≡ false → (kind : TokenKind) → ¬ IsToken kind (first ∷ digits)
no_token first digits digit fits (kind.Lower name) is =
    let word : IsWord is_ascii_lowercase (first ∷ digits) = subst (IsWord is_ascii_lowercase) (sym is.0) is.1.word in
    let small : is_ascii_lowercase first ≡ true = word.0 in grind arith
no_token first digits digit fits (kind.Upper name) is =
    let word : IsWord is_ascii_uppercase (first ∷ digits) = subst (IsWord is_ascii_uppercase) (sym is.0) is.1 in
    let large : is_ascii_uppercase first ≡ true = word.0 in grind arith
no_token first digits digit fits (kind.Num signed) is = both_ways (is_number first digits) fits (is_number-from first digits is.0 is.2)
no_token first digits digit fits (kind.Keyword keyword) is =
    both_ways (is_ascii_digit first) (ap (first_passes is_ascii_digit) is ∙ keyword-no_digit keyword) digit
no_token first digits digit fits (kind.Symbol symbol) is =
    both_ways (is_ascii_digit first) (ap (first_passes is_ascii_digit) is ∙ symbol-no_digit symbol) digit

is_front_number : (first : ℕ) (rest : List ℕ) → is_ascii_digit first ≡ true
    → IsFront first rest (number first (take_while is_ascii_digit rest)) (prefix_len is_ascii_digit rest)
unfolding number
is_front_number first rest digit = go (is_number first (take (prefix_len is_ascii_digit rest) rest)) refl
  where
    digits : List ℕ
    digits = take (prefix_len is_ascii_digit rest) rest

    each : Each is_ascii_digit digits
    each = each-longest is_ascii_digit rest

    go : (fits : Bool) → is_number first digits ≡ fits
        → IsFront first rest (if fits then Whole (kind.Num (pos (value (first ∷ digits)))) (length digits) else Bad Number) (prefix_len is_ascii_digit rest)
    go true fits = (length-prefix_len is_ascii_digit rest, (value (first ∷ digits), refl, number_token first digits digit each fits), Digits first digits digit each)
    go false fits = ((digit, each), no_token first digits digit fits)

-- ---- marks

symbol_piece : (symbol : Symbol) (text : List ℕ) → text ≡ symbol_text symbol → IsPiece text
symbol_piece symbol text is = rw is (Mark symbol)

-- whether a piece begins, told by the first byte or two
abbrev pub begins_piece : List ℕ → Bool
begins_piece [] = false
begins_piece (first ∷ rest) =
    if is_blank first then true else (if is_ascii_alphabetic first then true else (if is_ascii_digit first then true
    else (if is_some (short_symbol first) then true else (if mark_reach first rest == 1 then true else false))))

mark_begins : (s : Symbol) (more : List ℕ) → begins_piece (symbol_text s ++ more) ≡ true
unfolding short_symbol long_symbol
mark_begins symbol.LeftParen more = refl
mark_begins symbol.RightParen more = refl
mark_begins symbol.LeftBrace more = refl
mark_begins symbol.RightBrace more = refl
mark_begins symbol.LeftBracket more = refl
mark_begins symbol.RightBracket more = refl
mark_begins symbol.Comma more = refl
mark_begins symbol.Semicolon more = refl
mark_begins symbol.Colon more = refl
mark_begins symbol.Bar more = refl
mark_begins symbol.Equal more = refl
mark_begins symbol.Plus more = refl
mark_begins symbol.Minus more = refl
mark_begins symbol.Star more = refl
mark_begins symbol.Slash more = refl
mark_begins symbol.Percent more = refl
mark_begins symbol.Less more = refl
mark_begins symbol.LessEqual more = refl
mark_begins symbol.Greater more = refl
mark_begins symbol.GreaterEqual more = refl
mark_begins symbol.EqualEqual more = refl
mark_begins symbol.NotEqual more = refl
mark_begins symbol.Not more = refl
mark_begins symbol.And more = refl
mark_begins symbol.Or more = refl

-- each piece does
piece_begins : (text more : List ℕ) → IsPiece text → begins_piece (text ++ more) ≡ true
unfolding short_symbol long_symbol
piece_begins _ more (Gapped _ (Blank byte blank)) = rw blank refl
piece_begins _ more (Gapped _ (Comment line each)) = refl
piece_begins _ more (Word letter run is each) = rw (letter-blank letter is, is) refl
piece_begins _ more (Digits digit run is each) = rw (digit-blank digit is, digit-letter digit is, is) refl
piece_begins _ more (Mark symbol) = mark_begins symbol more

-- where none does, the byte is a fault
no_piece : (first : ℕ) (rest : List ℕ) → begins_piece (first ∷ rest) ≡ false → IsFront first rest (Bad Byte) (mark_reach first rest)
no_piece first rest none text more piece same = both_ways (begins_piece (first ∷ rest)) none (ap begins_piece (sym same) ∙ piece_begins text more piece)

-- the front begins nothing but a mark
record IsOther (first : ℕ) : Type 0 where
  blank : is_blank first ≡ false
  letter : is_ascii_alphabetic first ≡ false
  digit : is_ascii_digit first ≡ false

short_front : (first : ℕ) (rest : List ℕ) → IsOther first → mark_reach first rest ≡ 0 → (o : Option Symbol) → short_symbol first ≡ o
    → IsFront first rest (short_mark o) (mark_reach first rest)
short_front first rest other none (Some symbol) found =
    let is : first ∷ [] ≡ symbol_text symbol = short_symbol-text first symbol found in
    rw none (refl, is, symbol_piece symbol (first ∷ []) is)
short_front first rest other none None found = no_piece first rest (rw (other.blank, other.letter, other.digit, found, none) refl)

long_front : (first second : ℕ) (rest : List ℕ) → IsOther first → (o : Option Symbol) → long_symbol first second ≡ o
    → IsFront first (second ∷ rest) (long_mark o first) (mark_reach first (second ∷ rest))
long_front first second rest other (Some symbol) found =
    let is : first ∷ second ∷ [] ≡ symbol_text symbol = long_symbol-text first second symbol found in
    rw found (refl, is, symbol_piece symbol (first ∷ second ∷ []) is)
long_front first second rest other None found =
    short_front first (second ∷ rest) other (rw found refl) (short_symbol first) refl

is_front_mark : (first : ℕ) (rest : List ℕ) → IsOther first → IsFront first rest (mark first rest) (mark_reach first rest)
is_front_mark first [] other = short_front first [] other refl (short_symbol first) refl
is_front_mark first (second ∷ rest) other = long_front first second rest other (long_symbol first second) refl

-- ---- all

pub is_front : (first : ℕ) (rest : List ℕ) → IsFront first rest (front first rest) (reach first rest)
unfolding front
is_front first rest =
    let P : Piece → ℕ → Type 0 = IsFront first rest in
    choose P (is_blank first) _ _ _ _ (λ blank. (refl, Blank first blank)) (λ blank.
    choose P (begins_comment first rest) _ _ _ _ (λ comment. (refl, is_comment first rest comment)) (λ comment.
    choose P (is_ascii_alphabetic first) _ _ _ _ (λ letter. is_front_word first rest letter) (λ letter.
    choose P (is_ascii_digit first) _ _ _ _ (λ digit. is_front_number first rest digit)
    (λ digit. is_front_mark first rest (record { blank = blank; letter = letter; digit = digit })))))
