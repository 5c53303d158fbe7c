-- A tree that a text is read as is one that some source spells.
use Rattle.std.proofs.Common.{◌≡◌, sym, subst, ℕ, ◌+◌, List, [], ◌∷◌, length, map, Ok, Err, refl}
use Rattle.std.specs.Prelude.{Result, IfOk}
use Rattle.xanadu_lexer.specs.declared.error.LexError.{LexError}
use Rattle.xanadu_lexer.specs.declared.token.Token.{Token}
use Rattle.xanadu_lexer.specs.declared.token.TokenKind.{TokenKind}
use Rattle.xanadu_lexer.specs.Rules.{IsToken, with_token, Lexes, Ended, AfterGap, AfterToken, BadNumber, BadByte}
use Rattle.xanadu_lexer.specs.Lexing.{lexed}
use Rattle.xanadu_lexer.proofs.ByRules.{lexed_by_rules}
use Rattle.xanadu_lexer.proofs.Spelled.{token-spelled}
use Rattle.xanadu_tree.specs.Pieces.{Piece, kinds, Spelled, HasText, HaveTexts}
use Rattle.xanadu_tree.specs.PlainTree as plain
use Rattle.xanadu_tree.specs.Spelling.{pieces}
use Rattle.xanadu_tree.specs.Written.{Reads, IsWritten}

abbrev kinds_of : List Token → List TokenKind
kinds_of tokens = map (λ token. token.kind) tokens

abbrev HaveTextsIf : Result (List Token) LexError → Type 0
HaveTextsIf answer = IfOk answer (λ tokens. HaveTexts (kinds_of tokens))

has_text : (kind : TokenKind) (text : List ℕ) → IsToken kind text → HasText kind
has_text kind text is = subst (IsToken kind) (token-spelled kind text is) is

with_text : (token : Token) (answer : Result (List Token) LexError) → HasText token.kind → HaveTextsIf answer → HaveTextsIf (with_token token answer)
with_text token (Ok tokens) has have = (has, have)
with_text token (Err error) has have = tt

have_texts : (at : ℕ) (bytes : List ℕ) (answer : Result (List Token) LexError) → Lexes at bytes answer → HaveTextsIf answer
have_texts _ _ _ (Ended at) = tt
have_texts _ _ _ (AfterGap at text rest answer gap longest onward) = have_texts (at + length text) rest answer onward
have_texts _ _ _ (AfterToken at text rest kind answer is longest onward) =
    with_text (record { at = at; kind = kind }) answer (has_text kind text is) (have_texts (at + length text) rest answer onward)
have_texts _ _ _ (BadNumber at text rest each longest none) = tt
have_texts _ _ _ (BadByte at first rest none) = tt

-- tokens that are these pieces have their kinds
kinds_are : (ps : List Piece) (tokens : List Token) → Spelled ps tokens → kinds ps ≡ kinds_of tokens
kinds_are [] [] are = refl
kinds_are [] (t ∷ ts) are = absurd are
kinds_are (p ∷ ps) [] are = absurd are
kinds_are (p ∷ ps) (t ∷ ts) are = cc (are.0.kind, kinds_are ps ts are.1)

pub read_is_written : (bytes : List ℕ) (tree : plain.Tree) → Reads bytes tree → IsWritten tree
read_is_written bytes tree reads =
    let texts : HaveTexts (kinds_of reads.tokens) = subst HaveTextsIf reads.lexed (have_texts 0 bytes (lexed bytes) (lexed_by_rules bytes)) in
    record {
      grammar = reads.parsed.grammar;
      tokens = subst HaveTexts (sym (kinds_are (pieces tree) reads.tokens reads.parsed.spelled)) texts;
    }
