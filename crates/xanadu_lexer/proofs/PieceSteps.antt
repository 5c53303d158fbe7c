-- The definition, one piece at a time.
use Rattle.std.proofs.Common.{◌≡◌, ℕ, zero, suc, ◌+◌, ◌-◌, ◌<◌, ◌≤◌, List, [], ◌∷◌, ◌++◌, length, take, drop, get_or, Result, Ok, Err, refl, ap, arith, append_assoc, append-nil}
use Rattle.std.proofs.lemmas.List.{take_rest}
use Rattle.xanadu_lexer.specs.declared.error.LexError.{LexError}
use Rattle.xanadu_lexer.specs.declared.error.LexError.TheVariants.{Fault}
use Rattle.xanadu_lexer.specs.declared.error.LexKind.{LexKind}
use Rattle.xanadu_lexer.specs.declared.piece.Piece.TheVariants.{Gap, Whole, Bad}
use Rattle.xanadu_lexer.specs.declared.token.Token.{Token}
use Rattle.xanadu_lexer.specs.declared.token.TokenKind.{TokenKind}
use Rattle.xanadu_lexer.specs.Lexing.{front, lexed_from}
use Rattle.xanadu_lexer.specs.Rules.{with_token}

-- what these tokens and then that answer are
abbrev pub after : List Token → Result (List Token) LexError → Result (List Token) LexError
after tokens (Ok more) = Ok (tokens ++ more)
after tokens (Err error) = Err error

pub after-push : (tokens : List Token) (token : Token) (rest : Result (List Token) LexError)
    → after (tokens ++ token ∷ []) rest ≡ after tokens (with_token token rest)
after-push tokens token (Ok more) = ap Ok (append_assoc tokens (token ∷ []) more)
after-push tokens token (Err error) = refl

-- the bytes of a piece that has been read are passed over
pub lexed_from-passes : (passed at : ℕ) (text : List ℕ) → passed ≤ length text → lexed_from passed at text ≡ lexed_from 0 (at + passed) (drop passed text)
unfolding lexed_from
lexed_from-passes zero at text _ = let same : at + 0 ≡ at = omega arith in rw same refl
lexed_from-passes (suc passed) at [] within = absurd (omega (arith, within))
lexed_from-passes (suc passed) at (byte ∷ rest) within =
    let place : at + suc passed ≡ at + 1 + passed = omega arith in
    let shorter : passed ≤ length rest = omega arith in
    rw place (lexed_from-passes passed (at + 1) rest shorter)

-- what follows a piece that ends within the text
abbrev pub beyond : ℕ → List ℕ → ℕ → Result (List Token) LexError
beyond at rest more = lexed_from 0 (at + (1 + more)) (drop more rest)

beyond-is : (at : ℕ) (rest : List ℕ) (more : ℕ) → more ≤ length rest → lexed_from more (at + 1) rest ≡ beyond at rest more
beyond-is at rest more within =
    let place : at + (1 + more) ≡ at + 1 + more = omega arith in
    rw place (lexed_from-passes more (at + 1) rest within)

-- the bytes after the first, as a pattern `[first, rest @ ..]` gives them
abbrev pub tail : List ℕ → List ℕ
tail text = take (length text - 1) (drop 1 text)

tail-is : (first : ℕ) (rest : List ℕ) → tail (first ∷ rest) ≡ rest
tail-is first rest = take_rest (first ∷ rest) 1

pub at_gap : (at : ℕ) (text : List ℕ) (more : ℕ) → 1 ≤ length text → Gap more ≡ front (get_or text 0 0) (tail text) → more ≤ length (tail text)
    → lexed_from 0 at text ≡ beyond at (tail text) more
unfolding lexed_from
at_gap at [] more some found within = absurd (omega (arith, some))
at_gap at (first ∷ rest) more some found within =
    let shorter : more ≤ length rest = rw tail-is at within in
    let here : Gap more ≡ front first rest = rw tail-is at found in
    rw (← here, tail-is) (beyond-is at rest more shorter)

pub at_token : (at : ℕ) (text : List ℕ) (kind : TokenKind) (more : ℕ) → 1 ≤ length text → Whole kind more ≡ front (get_or text 0 0) (tail text)
    → more ≤ length (tail text) → lexed_from 0 at text ≡ with_token (record { at = at; kind = kind }) (beyond at (tail text) more)
unfolding lexed_from
at_token at [] kind more some found within = absurd (omega (arith, some))
at_token at (first ∷ rest) kind more some found within =
    let shorter : more ≤ length rest = rw tail-is at within in
    let here : Whole kind more ≡ front first rest = rw tail-is at found in
    rw (← here, tail-is, beyond-is at rest more shorter) refl

pub at_fault : (at : ℕ) (text : List ℕ) (kind : LexKind) → 1 ≤ length text → Bad kind ≡ front (get_or text 0 0) (tail text)
    → lexed_from 0 at text ≡ Err (Fault at kind)
unfolding lexed_from
at_fault at [] kind some found = absurd (omega (arith, some))
at_fault at (first ∷ rest) kind some found =
    let here : Bad kind ≡ front first rest = rw tail-is at found in
    rw (← here) refl

pub at_end : (tokens : List Token) (at : ℕ) (text : List ℕ) → length text < 1 → after tokens (lexed_from 0 at text) ≡ Ok tokens
unfolding lexed_from
at_end tokens at [] none = ap Ok (append-nil tokens)
at_end tokens at (first ∷ rest) none = absurd (omega (arith, none))

-- a token more in the list, and one less in what follows
pub moves_over : (tokens grown : List Token) (token : Token) (here onward : Result (List Token) LexError)
    → here ≡ with_token token onward → grown ≡ tokens ++ token ∷ [] → after grown onward ≡ after tokens here
moves_over tokens grown token here onward is grew = rw (grew, is) (after-push tokens token onward)
