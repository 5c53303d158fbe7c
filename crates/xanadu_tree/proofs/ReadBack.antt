-- What is printed is read back: the tokens that were printed, each where its text stands.
use Rattle.std.proofs.Common.{◌≡◌, ◌∙◌, sym, ap, subst, ℕ, ◌+◌, ◌<◌, ◌≤◌, Bool, true, false, List, [], ◌∷◌, ◌++◌, length, map, Result, Ok, refl, rules, arith, append_assoc}
use Rattle.std.specs.List.{prefix_len}
use Rattle.std.specs.Char.{is_ascii_digit, is_ascii_lowercase, is_ascii_uppercase, is_ascii_alphabetic}
use Rattle.xanadu_lexer.specs.declared.error.LexError.{LexError}
use Rattle.xanadu_lexer.specs.declared.keyword.Keyword.{Keyword}
use Rattle.xanadu_lexer.specs.declared.keyword.Keyword.TheVariants as keyword
use Rattle.xanadu_lexer.specs.declared.symbol.Symbol.{Symbol}
use Rattle.xanadu_lexer.specs.declared.symbol.Symbol.TheVariants as symbol
use Rattle.xanadu_lexer.specs.declared.token.Token.{Token}
use Rattle.xanadu_lexer.specs.declared.token.TokenKind.{TokenKind}
use Rattle.xanadu_lexer.specs.declared.token.TokenKind.TheVariants as kind
use Rattle.xanadu_lexer.specs.Spelling.{keyword_text, symbol_text, spelled}
use Rattle.xanadu_lexer.specs.Rules.{is_word, Each, Blank, IsPiece, Gapped, Word, Digits, Mark, IsLongest, IsWord, Lexes, Ended, AfterGap, AfterToken}
use Rattle.xanadu_lexer.specs.Lexing.{lexed, long_symbol}
use Rattle.xanadu_lexer.proofs.Bytes.{letter-blank, letter-comment, digit-blank, digit-comment, digit-letter}
use Rattle.xanadu_lexer.proofs.Longest.{reach, reach_of, length-le-reach_of}
use Rattle.xanadu_lexer.proofs.OnlyRules.{lexed_only}
use Rattle.xanadu_tree.specs.PlainTree as plain
use Rattle.xanadu_tree.specs.Pieces.{Piece, Spelled, kinds, HasText, HaveTexts, shown, text, tokens_from}
use Rattle.xanadu_tree.specs.Printing.{printed}
use Rattle.xanadu_tree.specs.Spelling.{pieces}
use Rattle.xanadu_tree.specs.Written.{IsWritten, Reads}

-- ---- the text of a token is a piece, and none is longer where a space follows

-- a run ends before a byte that does not pass
prefix_len-stops : (p : ℕ → Bool) (run : List ℕ) (byte : ℕ) (rest : List ℕ) → Each p run → p byte ≡ false → prefix_len p (run ++ byte ∷ rest) ≡ length run
prefix_len-stops p [] byte rest each stops = rw stops refl
prefix_len-stops p (b ∷ run) byte rest each stops = rw (each.0, prefix_len-stops p run byte rest each.1 stops) (omega arith)

-- the piece at the front of the text before a space, and how long the longest one is
record IsAlone (text : List ℕ) : Type 0 where
  piece : IsPiece text
  reach : (rest : List ℕ) → reach_of (text ++ 32 ∷ rest) ≡ length text

word_alone : (first : ℕ) (more : List ℕ) → is_ascii_alphabetic first ≡ true → Each is_word more → IsAlone (first ∷ more)
word_alone first more letter each = record {
  piece = Word first more letter each;
  reach = λ rest. rw (letter-blank first letter, letter-comment first (more ++ 32 ∷ rest) letter, letter) (omega (arith, prefix_len-stops is_word more 32 rest each refl));
}

number_alone : (first : ℕ) (more : List ℕ) → is_ascii_digit first ≡ true → Each is_ascii_digit more → IsAlone (first ∷ more)
number_alone first more digit each = record {
  piece = Digits first more digit each;
  reach = λ rest. rw (digit-blank first digit, digit-comment first (more ++ 32 ∷ rest) digit, digit-letter first digit, digit) (omega (arith, prefix_len-stops is_ascii_digit more 32 rest each refl));
}

keyword_word : (k : Keyword) → IsWord is_ascii_alphabetic (keyword_text k)
keyword_word keyword.Fun = search rules
keyword_word keyword.Type = search rules
keyword_word keyword.Var = search rules
keyword_word keyword.Let = search rules
keyword_word keyword.If = search rules
keyword_word keyword.Else = search rules
keyword_word keyword.Join = search rules
keyword_word keyword.While = search rules
keyword_word keyword.With = search rules
keyword_word keyword.Return = search rules
keyword_word keyword.Print = search rules
keyword_word keyword.New = search rules
keyword_word keyword.Len = search rules
keyword_word keyword.True = search rules
keyword_word keyword.False = search rules
keyword_word keyword.Int = search rules
keyword_word keyword.Nat = search rules
keyword_word keyword.Bool = search rules
keyword_word keyword.Unit = search rules

is_alone : (text : List ℕ) → IsWord is_ascii_alphabetic text → IsAlone text
is_alone [] is = absurd is
is_alone (first ∷ more) is = word_alone first more is.0 is.1

symbol_reach : (s : Symbol) (rest : List ℕ) → reach_of (symbol_text s ++ 32 ∷ rest) ≡ length (symbol_text s)
unfolding long_symbol
symbol_reach symbol.LeftParen rest = refl
symbol_reach symbol.RightParen rest = refl
symbol_reach symbol.LeftBrace rest = refl
symbol_reach symbol.RightBrace rest = refl
symbol_reach symbol.LeftBracket rest = refl
symbol_reach symbol.RightBracket rest = refl
symbol_reach symbol.Comma rest = refl
symbol_reach symbol.Semicolon rest = refl
symbol_reach symbol.Colon rest = refl
symbol_reach symbol.Bar rest = refl
symbol_reach symbol.Equal rest = refl
symbol_reach symbol.Plus rest = refl
symbol_reach symbol.Minus rest = refl
symbol_reach symbol.Star rest = refl
symbol_reach symbol.Slash rest = refl
symbol_reach symbol.Percent rest = refl
symbol_reach symbol.Less rest = refl
symbol_reach symbol.LessEqual rest = refl
symbol_reach symbol.Greater rest = refl
symbol_reach symbol.GreaterEqual rest = refl
symbol_reach symbol.EqualEqual rest = refl
symbol_reach symbol.NotEqual rest = refl
symbol_reach symbol.Not rest = refl
symbol_reach symbol.And rest = refl
symbol_reach symbol.Or rest = refl

lower-letter : (name : List ℕ) → IsWord is_ascii_lowercase name → IsWord is_ascii_alphabetic name
lower-letter [] is = is
lower-letter (first ∷ more) is = (grind (arith, is.0), is.1)

upper-letter : (name : List ℕ) → IsWord is_ascii_uppercase name → IsWord is_ascii_alphabetic name
upper-letter [] is = is
upper-letter (first ∷ more) is = (grind (arith, is.0), is.1)

digits_alone : (text : List ℕ) → 0 < length text → Each is_ascii_digit text → IsAlone text
digits_alone [] some each = absurd (omega (arith, some))
digits_alone (first ∷ more) some each = number_alone first more each.0 each.1

token_alone : (k : TokenKind) → HasText k → IsAlone (spelled k)
token_alone (kind.Lower name) has = is_alone name (lower-letter name has.1.word)
token_alone (kind.Upper name) has = is_alone name (upper-letter name has.1)
token_alone (kind.Num number) has = digits_alone (spelled (kind.Num number)) has.2.some has.2.digits
token_alone (kind.Keyword keyword) has = is_alone (keyword_text keyword) (keyword_word keyword)
token_alone (kind.Symbol symbol) has = record { piece = Mark symbol; reach = symbol_reach symbol }

longest : (text rest : List ℕ) → IsPiece text → reach_of (text ++ rest) ≡ length text → IsLongest text rest
longest text rest piece reach = record {
  piece = piece;
  longest = λ longer more other same.
      let within : length longer ≤ reach_of (text ++ rest) = subst (λ bytes. length longer ≤ reach_of bytes) same (length-le-reach_of longer more other) in
      omega (arith, within, reach);
}

-- ---- the whole text

-- a token, the space behind it, and what follows
token_then : (at : ℕ) (k : TokenKind) (rest : List ℕ) (tokens : List Token) → HasText k → Lexes (at + length (spelled k) + 1) rest (Ok tokens)
    → Lexes at (spelled k ++ 32 ∷ rest) (Ok (record { at = at; kind = k } ∷ tokens))
token_then at k rest tokens has later =
    AfterToken at (spelled k) (32 ∷ rest) k (Ok tokens) has (longest (spelled k) (32 ∷ rest) (token_alone k has).piece ((token_alone k has).reach rest))
    (AfterGap (at + length (spelled k)) (32 ∷ []) rest (Ok tokens) (Blank 32 refl) (longest (32 ∷ []) rest (Gapped _ (Blank 32 refl)) refl) later)

lexes_from : (at : ℕ) (ps : List Piece) → HaveTexts (kinds ps) → Lexes at (text ps ++ 10 ∷ []) (Ok (tokens_from at (kinds ps)))
unfolding shown
lexes_from at [] have = AfterGap at (10 ∷ []) [] (Ok []) (Blank 10 refl) (longest (10 ∷ []) [] (Gapped _ (Blank 10 refl)) refl) (Ended (at + 1))
lexes_from at (p ∷ ps) have =
    let grouped : spelled p.kind ++ 32 ∷ (text ps ++ 10 ∷ []) ≡ (shown p.kind ++ text ps) ++ 10 ∷ [] =
    sym (append_assoc (shown p.kind) (text ps) (10 ∷ []) ∙ append_assoc (spelled p.kind) (32 ∷ []) (text ps ++ 10 ∷ [])) in
    subst (λ bytes. Lexes at bytes (Ok (tokens_from at (kinds (p ∷ ps))))) grouped
    (token_then at p.kind (text ps ++ 10 ∷ []) _ have.0 (lexes_from (at + length (spelled p.kind) + 1) ps have.1))

pub printed-read_back : (tree : plain.Tree) → IsWritten tree → lexed (printed tree) ≡ Ok (tokens_from 0 (kinds (pieces tree)))
unfolding printed
printed-read_back tree is = sym (lexed_only _ _ (lexes_from 0 (pieces tree) is.tokens))

-- ---- what is read of it has the same kinds

abbrev kinds_of : List Token → List TokenKind
kinds_of tokens = map (λ token. token.kind) tokens

kinds-spelled : (ps : List Piece) (tokens : List Token) → Spelled ps tokens → kinds ps ≡ kinds_of tokens
kinds-spelled [] [] is = refl
kinds-spelled [] (token ∷ tokens) is = absurd is
kinds-spelled (p ∷ ps) [] is = absurd is
kinds-spelled (p ∷ ps) (token ∷ tokens) is = ap (λ k. k ∷ kinds ps) (sym is.0.kind) ∙ ap (λ ks. token.kind ∷ ks) (kinds-spelled ps tokens is.1)

kinds-tokens_from : (at : ℕ) (ks : List TokenKind) → kinds_of (tokens_from at ks) ≡ ks
kinds-tokens_from at [] = refl
kinds-tokens_from at (k ∷ ks) = ap (λ more. k ∷ more) (kinds-tokens_from (at + length (spelled k) + 1) ks)

one_list : (tokens others : List Token) (answer : Result (List Token) LexError) → answer ≡ Ok tokens → answer ≡ Ok others → tokens ≡ others
one_list tokens others answer is other_is = cc

pub reading-alike : (tree other : plain.Tree) → IsWritten tree → Reads (printed tree) other → kinds (pieces other) ≡ kinds (pieces tree)
reading-alike tree other is reads =
    let same : reads.tokens ≡ tokens_from 0 (kinds (pieces tree)) = one_list _ _ _ reads.lexed (printed-read_back tree is) in
    kinds-spelled _ _ reads.parsed.spelled ∙ ap kinds_of same ∙ kinds-tokens_from 0 (kinds (pieces tree))
