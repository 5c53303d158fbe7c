-- The definition answers by the rules.
use Rattle.std.proofs.Common.{◌≡◌, ◌∙◌, sym, ap, subst, ℕ, zero, suc, ◌+◌, ◌≤◌, Bool, true, false, cond, List, [], ◌∷◌, ◌++◌, length, take, drop, Option, Some, None, Result, Err, arith}
use Rattle.std.specs.List.{prefix_len}
use Rattle.std.specs.Char.{is_ascii_digit, is_ascii_alphabetic}
use Rattle.std.proofs.lemmas.List.{length-take, take-append-drop}
use Rattle.std.proofs.lemmas.List.Sums.{prefix_len-le-length}
use Rattle.xanadu_lexer.specs.declared.error.LexError.{LexError}
use Rattle.xanadu_lexer.specs.declared.error.LexError.TheVariants.{Fault}
use Rattle.xanadu_lexer.specs.declared.error.LexKind.TheVariants.{Byte, Number}
use Rattle.xanadu_lexer.specs.declared.piece.Piece.{Piece}
use Rattle.xanadu_lexer.specs.declared.piece.Piece.TheVariants.{Gap, Whole, Bad}
use Rattle.xanadu_lexer.specs.declared.symbol.Symbol.{Symbol}
use Rattle.xanadu_lexer.specs.declared.token.Token.{Token}
use Rattle.xanadu_lexer.specs.declared.token.TokenKind.{TokenKind}
use Rattle.xanadu_lexer.specs.Rules.{is_blank, is_word, is_no_newline, IsGap, IsPiece, Gapped, Digits, IsLongest, IsToken, with_token, Lexes, Ended, AfterGap, AfterToken, BadNumber, BadByte}
use Rattle.xanadu_lexer.specs.Lexing.{begins_comment, long_symbol, front, with_piece, lexed_from, lexed}
use Rattle.xanadu_lexer.proofs.Longest.{long_reach, mark_reach, reach, reach_of, length-le-reach_of}
use Rattle.xanadu_lexer.proofs.Front.{IsFront, is_front}

-- ---- the longest piece lies within the text

mark_reach-le-length : (first : ℕ) (rest : List ℕ) → mark_reach first rest ≤ length rest
mark_reach-le-length first [] = omega arith
mark_reach-le-length first (second ∷ rest) = go (long_symbol first second)
  where
    go : (o : Option Symbol) → long_reach o ≤ suc (length rest)
    go (Some _) = omega arith
    go None = omega arith

reach-le-length : (first : ℕ) (rest : List ℕ) → reach first rest ≤ length rest
reach-le-length first rest = go (is_blank first) (begins_comment first rest) (is_ascii_alphabetic first) (is_ascii_digit first)
  where
    go : (a b c d : Bool) → cond a 0 (cond b (prefix_len is_no_newline rest) (cond c (prefix_len is_word rest)
        (cond d (prefix_len is_ascii_digit rest) (mark_reach first rest)))) ≤ length rest
    go true b c d = omega arith
    go false true c d = prefix_len-le-length is_no_newline rest
    go false false true d = prefix_len-le-length is_word rest
    go false false false true = prefix_len-le-length is_ascii_digit rest
    go false false false false = mark_reach-le-length first rest

-- the longest piece, where one stands there
abbrev pub longest_text : ℕ → List ℕ → List ℕ
longest_text first rest = first ∷ take (reach first rest) rest

abbrev pub after_longest : ℕ → List ℕ → List ℕ
after_longest first rest = drop (reach first rest) rest

pub parts : (first : ℕ) (rest : List ℕ) → longest_text first rest ++ after_longest first rest ≡ first ∷ rest
parts first rest = ap (λ bytes. first ∷ bytes) (take-append-drop (reach first rest) rest)

pub length-longest_text : (first : ℕ) (rest : List ℕ) → length (longest_text first rest) ≡ 1 + reach first rest
length-longest_text first rest = omega (arith, length-take (reach first rest) rest, reach-le-length first rest)

is_longest : (first : ℕ) (rest : List ℕ) → IsPiece (longest_text first rest) → IsLongest (longest_text first rest) (after_longest first rest)
is_longest first rest piece = record {
  piece = piece;
  longest = λ longer more other same.
      let within : length longer ≤ 1 + reach first rest = subst (λ bytes. length longer ≤ reach_of bytes) (same ∙ parts first rest) (length-le-reach_of longer more other) in
      omega (arith, within, length-longest_text first rest);
}

place : (at first : ℕ) (rest : List ℕ) → at + length (longest_text first rest) ≡ at + 1 + reach first rest
place at first rest = omega (arith, length-longest_text first rest)

-- ---- one piece

after_gap : (at first : ℕ) (rest : List ℕ) (answer : Result (List Token) LexError) → IsGap (longest_text first rest)
    → Lexes (at + 1 + reach first rest) (after_longest first rest) answer → Lexes at (first ∷ rest) answer
after_gap at first rest answer gap onward =
    subst (λ bytes. Lexes at bytes answer) (parts first rest)
    (AfterGap at (longest_text first rest) (after_longest first rest) answer gap (is_longest first rest (Gapped _ gap))
    (subst (λ here. Lexes here (after_longest first rest) answer) (sym (place at first rest)) onward))

after_token : (at first : ℕ) (rest : List ℕ) (kind : TokenKind) (answer : Result (List Token) LexError)
    → IsToken kind (longest_text first rest) → IsPiece (longest_text first rest)
    → Lexes (at + 1 + reach first rest) (after_longest first rest) answer
    → Lexes at (first ∷ rest) (with_token (record { at = at; kind = kind }) answer)
after_token at first rest kind answer is piece onward =
    subst (λ bytes. Lexes at bytes (with_token (record { at = at; kind = kind }) answer)) (parts first rest)
    (AfterToken at (longest_text first rest) (after_longest first rest) kind answer is (is_longest first rest piece)
    (subst (λ here. Lexes here (after_longest first rest) answer) (sym (place at first rest)) onward))

by_piece : (at first : ℕ) (rest : List ℕ) (piece : Piece) → IsFront first rest piece (reach first rest)
    → ((more : ℕ) → more ≤ length rest → Lexes (at + 1 + more) (drop more rest) (lexed_from more (at + 1) rest))
    → Lexes at (first ∷ rest) (with_piece piece at (λ more. lexed_from more (at + 1) rest))
by_piece at first rest (Gap more) is onward =
    after_gap at first rest _ is.1
    (subst (λ n. Lexes (at + 1 + n) (drop n rest) (lexed_from more (at + 1) rest)) is.0
    (onward more (subst (λ n. n ≤ length rest) (sym is.0) (reach-le-length first rest))))
by_piece at first rest (Whole kind more) is onward =
    after_token at first rest kind _ is.1 is.2
    (subst (λ n. Lexes (at + 1 + n) (drop n rest) (lexed_from more (at + 1) rest)) is.0
    (onward more (subst (λ n. n ≤ length rest) (sym is.0) (reach-le-length first rest))))
by_piece at first rest (Bad Number) is onward =
    subst (λ bytes. Lexes at bytes (Err (Fault at Number))) (parts first rest)
    (BadNumber at (longest_text first rest) (after_longest first rest) is.0 (is_longest first rest (Digits _ _ is.0.0 is.0.1)) is.1)
by_piece at first rest (Bad Byte) is onward = BadByte at first rest is

-- ---- the whole text

from_passed : (passed at : ℕ) (text : List ℕ) → passed ≤ length text → Lexes (at + passed) (drop passed text) (lexed_from passed at text)
unfolding lexed_from
from_passed zero at [] within = Ended (at + 0)
from_passed (suc passed) at [] within = absurd (omega (arith, within))
from_passed (suc passed) at (byte ∷ rest) within =
    let shorter : passed ≤ length rest = omega arith in
    let here : at + 1 + passed ≡ at + suc passed = omega arith in
    subst (λ n. Lexes n (drop passed rest) (lexed_from passed (at + 1) rest)) here (from_passed passed (at + 1) rest shorter)
from_passed zero at (first ∷ rest) within =
    let here : at ≡ at + 0 = omega arith in
    subst (λ n. Lexes n (first ∷ rest) (with_piece (front first rest) at (λ more. lexed_from more (at + 1) rest))) here
    (by_piece at first rest (front first rest) (is_front first rest) (λ more shorter. from_passed more (at + 1) rest shorter))

pub lexed_by_rules : (bytes : List ℕ) → Lexes 0 bytes (lexed bytes)
unfolding lexed
lexed_by_rules bytes = from_passed 0 0 bytes (omega arith)
