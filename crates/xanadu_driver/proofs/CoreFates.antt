-- What the front of the compiler comes to: a core, or what the source is refused for; one of these, and no other.
use Rattle.std.proofs.Common.{◌≡◌, ℕ, zero, suc, ◌+◌, ◌≤◌, ◌<◌, Bool, true, false, cond, List, [], ◌∷◌, length, Result, Ok, Err, refl, ap, subst, arith}
use Rattle.std.specs.Prelude.{nat_le}
use Rattle.std.proofs.lemmas.Bool.Decides.{nat_tests}
use Rattle.xan_seq.specs.Answers.{◌>>=◌}
use Rattle.xanadu_lexer.specs.declared.error.LexError.{LexError}
use Rattle.xanadu_lexer.specs.declared.error.LexError.TheVariants as lex_error
use Rattle.xanadu_lexer.specs.declared.piece.Piece.{Piece}
use Rattle.xanadu_lexer.specs.declared.piece.Piece.TheVariants as piece
use Rattle.xanadu_lexer.specs.declared.token.Token.{Token}
use Rattle.xanadu_lexer.specs.Lexing.{lexed, lexed_from, with_piece, front}
use Rattle.xanadu_lexer.specs.Rules.{with_token}
use Rattle.xanadu_parser.specs.declared.error.ParseError.{ParseError}
use Rattle.xanadu_parser.specs.declared.error.ParseError.TheVariants as parse_error
use Rattle.xanadu_parser.specs.Faults.{IsAnswer}
use Rattle.xanadu_parser.specs.Parsing.{parsed}
use Rattle.xanadu_tree.specs.Plain as plain
use Rattle.xanadu_tree.specs.PlainTree as tree
use Rattle.type_shapes.specs.Faults.{Check}
use Rattle.scope_shapes.specs.Shape.{shape}
use Rattle.command_reports.specs.declared.refusal.Refusal.{Refusal}
use Rattle.command_reports.specs.declared.refusal.Refusal.TheVariants as refusal
use Rattle.command_reports.specs.declared.refusal.SourceError.{SourceError}
use Rattle.command_reports.specs.declared.refusal.SourceError.TheVariants as error
use Rattle.xanadu_driver.specs.Fate.{core_of, or_stop, of_fault}
use Rattle.command_reports.specs.Stops.{of_lexer, of_parser}
use Rattle.xanadu_driver.specs.Source.{source_most, HasTokens, HasTree, IsCore}
use Rattle.xanadu_driver.proofs.Fates.{HasNoCore, one_core, one_refusal, not_refused}
use Rattle.xanadu_driver.proofs.ParsedAnswers.{answered, never_memory}

-- the core, or why there is none
abbrev pub HasCoreFate : List ℕ → Result plain.Program SourceError → Type 0
HasCoreFate bytes (Ok core) = IsCore bytes core
HasCoreFate bytes (Err (error.Refused r)) = HasNoCore bytes r
HasCoreFate bytes (Err error.Memory) = ⊥

one_core_fate : (bytes : List ℕ) (a b : Result plain.Program SourceError) → HasCoreFate bytes a → HasCoreFate bytes b → a ≡ b
one_core_fate bytes (Ok a) (Ok b) x y = ap (λ (core : plain.Program). Ok core) (one_core bytes a b x y)
one_core_fate bytes (Ok a) (Err (error.Refused r)) x y = absurd (not_refused bytes r a y x)
one_core_fate bytes (Err (error.Refused r)) (Ok b) x y = absurd (not_refused bytes r b x y)
one_core_fate bytes (Err (error.Refused r)) (Err (error.Refused s)) x y = ap (λ (t : Refusal). Err (error.Refused t)) (one_refusal bytes r s x y)
one_core_fate bytes (Err error.Memory) b x y = absurd x
one_core_fate bytes a (Err error.Memory) x y = absurd y

-- ---- tokens

abbrev IsTold : Result (List Token) LexError → Type 0
IsTold (Ok tokens) = Unit {0}
IsTold (Err (lex_error.Fault at kind)) = Unit {0}
IsTold (Err lex_error.Memory) = ⊥

with_token-told : (token : Token) (more : Result (List Token) LexError) → IsTold more → IsTold (with_token token more)
with_token-told token (Ok tokens) told = tt
with_token-told token (Err (lex_error.Fault at kind)) told = tt
with_token-told token (Err lex_error.Memory) told = absurd told

with_piece-told : (p : Piece) (at : ℕ) (onward : ℕ → Result (List Token) LexError) → ((more : ℕ) → IsTold (onward more)) → IsTold (with_piece p at onward)
with_piece-told (piece.Gap more) at onward told = told more
with_piece-told (piece.Whole kind more) at onward told = with_token-told (record { at = at; kind = kind }) (onward more) (told more)
with_piece-told (piece.Bad kind) at onward told = tt

lexed_from-told : (passed at : ℕ) (bytes : List ℕ) → IsTold (lexed_from passed at bytes)
unfolding lexed_from
lexed_from-told passed at [] = tt
lexed_from-told (suc passed) at (byte ∷ rest) = lexed_from-told passed (at + 1) rest
lexed_from-told zero at (first ∷ rest) =
    with_piece-told (front first rest) at (λ more. lexed_from more (at + 1) rest) (λ more. lexed_from-told more (at + 1) rest)

lexed-told : (bytes : List ℕ) → IsTold (lexed bytes)
unfolding lexed
lexed-told bytes = lexed_from-told 0 0 bytes

-- ---- pass by pass

module _ (bytes : List ℕ) where
  core_fate : (written : tree.Tree) → HasTree bytes written → (shaped : Check plain.Program) → shape written (length bytes) ≡ shaped
      → HasCoreFate bytes (or_stop of_fault shaped)
  core_fate written has (Ok core) e = record { written = written; has = has; shaped = e }
  core_fate written has (Err fault) e = record { written = written; has = has; fault = e }

  tree_fate : (tokens : List Token) → HasTokens bytes tokens → (read : Result tree.Tree ParseError) → parsed tokens (length bytes) ≡ read
      → HasCoreFate bytes (or_stop of_parser read >>= λ written. or_stop of_fault (shape written (length bytes)))
  tree_fate tokens has read e = by_answer read e (subst (IsAnswer (λ (t : tree.Tree). t) tokens (length bytes)) e (answered tokens (length bytes)))
    where
      by_answer : (read : Result tree.Tree ParseError) → parsed tokens (length bytes) ≡ read → IsAnswer (λ (t : tree.Tree). t) tokens (length bytes) read
          → HasCoreFate bytes (or_stop of_parser read >>= λ written. or_stop of_fault (shape written (length bytes)))
      by_answer (Ok written) e is =
          core_fate written (record { tokens = tokens; has = has; shallow = is.0; parses = is.1 }) (shape written (length bytes)) refl
      by_answer (Err parse_error.Nesting) e is = record { tokens = tokens; has = has; deep = is }
      by_answer (Err (parse_error.Fault at)) e is = record { tokens = tokens; has = has; shallow = is.0; fault = is.1 }
      by_answer (Err parse_error.Memory) e is = absurd (never_memory tokens (length bytes) e)

  token_fate : length bytes ≤ source_most → (read : Result (List Token) LexError) → lexed bytes ≡ read → IsTold read
      → HasCoreFate bytes (or_stop of_lexer read >>= λ tokens. or_stop of_parser (parsed tokens (length bytes))
      >>= λ written. or_stop of_fault (shape written (length bytes)))
  token_fate less (Ok tokens) e told = tree_fate tokens (record { short = less; lexed = e }) (parsed tokens (length bytes)) refl
  token_fate less (Err (lex_error.Fault at kind)) e told = record { short = less; kind = kind; fault = e }
  token_fate less (Err lex_error.Memory) e told = absurd told

  length_fate : (few : Bool) → nat_le (length bytes) source_most ≡ few
      → HasCoreFate bytes (cond few (Ok bytes) (Err (error.Refused refusal.Length)) >>= λ source. or_stop of_lexer (lexed source)
      >>= λ tokens. or_stop of_parser (parsed tokens (length source)) >>= λ written. or_stop of_fault (shape written (length source)))
  length_fate true e = token_fate (at_most (length bytes) e) (lexed bytes) refl (lexed-told bytes)
    where
      at_most : (n : ℕ) → nat_le n source_most ≡ true → n ≤ source_most
      at_most n h = grind (arith, nat_tests)
  length_fate false e = more (length bytes) e
    where
      more : (n : ℕ) → nat_le n source_most ≡ false → source_most < n
      more n h = grind (arith, nat_tests)

-- the source has the core that is computed, or is refused for what is computed
pub has_core_fate : (bytes : List ℕ) → HasCoreFate bytes (core_of bytes)
unfolding core_of
has_core_fate bytes = length_fate bytes (nat_le (length bytes) source_most) refl

-- and nothing else
pub core_is : (bytes : List ℕ) (other : Result plain.Program SourceError) → HasCoreFate bytes other → core_of bytes ≡ other
core_is bytes other has = one_core_fate bytes (core_of bytes) other (has_core_fate bytes) has
