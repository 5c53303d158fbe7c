-- The length of the longest piece at the front of a text.
use Rattle.std.proofs.Common.{ℕ, ◌+◌, ◌≤◌, List, [], ◌∷◌, ◌++◌, length, Option, Some, None, arith}
use Rattle.std.specs.Prelude.{if◌then◌else◌}
use Rattle.std.specs.List.{prefix_len}
use Rattle.std.specs.Char.{is_ascii_digit, is_ascii_alphabetic}
use Rattle.xanadu_lexer.specs.declared.symbol.Symbol.{Symbol}
use Rattle.xanadu_lexer.specs.declared.symbol.Symbol.TheVariants as symbol
use Rattle.xanadu_lexer.specs.Spelling.{symbol_text}
use Rattle.xanadu_lexer.specs.Rules.{is_blank, is_word, is_no_newline, Blank, Comment, IsPiece, Gapped, Word, Digits, Mark}
use Rattle.xanadu_lexer.specs.Lexing.{begins_comment, long_symbol}
use Rattle.xanadu_lexer.proofs.Bytes.{letter-blank, digit-blank, digit-letter, letter-comment, digit-comment, prefix_len-each}

abbrev pub long_reach : Option Symbol → ℕ
long_reach (Some _) = 1
long_reach None = 0

abbrev pub mark_reach : ℕ → List ℕ → ℕ
mark_reach first [] = 0
mark_reach first (second ∷ _) = long_reach (long_symbol first second)

-- how many bytes of the longest piece follow the first
abbrev pub reach : ℕ → List ℕ → ℕ
reach first rest =
    if is_blank first then 0
    else (if begins_comment first rest then prefix_len is_no_newline rest
    else (if is_ascii_alphabetic first then prefix_len is_word rest
    else (if is_ascii_digit first then prefix_len is_ascii_digit rest
    else mark_reach first rest)))

abbrev pub reach_of : List ℕ → ℕ
reach_of [] = 0
reach_of (first ∷ rest) = 1 + reach first rest

mark_within : (symbol : Symbol) (more : List ℕ) → length (symbol_text symbol) ≤ reach_of (symbol_text symbol ++ more)
unfolding long_symbol
mark_within symbol.LeftParen more = omega arith
mark_within symbol.RightParen more = omega arith
mark_within symbol.LeftBrace more = omega arith
mark_within symbol.RightBrace more = omega arith
mark_within symbol.LeftBracket more = omega arith
mark_within symbol.RightBracket more = omega arith
mark_within symbol.Comma more = omega arith
mark_within symbol.Semicolon more = omega arith
mark_within symbol.Colon more = omega arith
mark_within symbol.Bar more = omega arith
mark_within symbol.Equal more = omega arith
mark_within symbol.Plus more = omega arith
mark_within symbol.Minus more = omega arith
mark_within symbol.Star more = omega arith
mark_within symbol.Slash more = omega arith
mark_within symbol.Percent more = omega arith
mark_within symbol.Less more = omega arith
mark_within symbol.LessEqual more = omega arith
mark_within symbol.Greater more = omega arith
mark_within symbol.GreaterEqual more = omega arith
mark_within symbol.EqualEqual more = omega arith
mark_within symbol.NotEqual more = omega arith
mark_within symbol.Not more = omega arith
mark_within symbol.And more = omega arith
mark_within symbol.Or more = omega arith

-- no piece is longer
pub length-le-reach_of : (text more : List ℕ) → IsPiece text → length text ≤ reach_of (text ++ more)
length-le-reach_of _ more (Gapped _ (Blank byte blank)) = omega arith
length-le-reach_of _ more (Gapped _ (Comment line each)) = omega (arith, prefix_len-each is_no_newline line more each)
length-le-reach_of _ more (Word letter run is each) =
    rw (letter-blank letter is, letter-comment letter (run ++ more) is, is) (omega (arith, prefix_len-each is_word run more each))
length-le-reach_of _ more (Digits digit run is each) =
    rw (digit-blank digit is, digit-comment digit (run ++ more) is, digit-letter digit is, is)
    (omega (arith, prefix_len-each is_ascii_digit run more each))
length-le-reach_of _ more (Mark symbol) = mark_within symbol more
