-- What the next mark stands for.
use Rattle.std.proofs.Common.{◌≡◌, ℕ, List, [], ◌∷◌, drop, Option, Some, None, refl}
use Rattle.std.specs.Option.{option_map}
use Rattle.xanadu_lexer.specs.declared.symbol.Symbol.{Symbol}
use Rattle.xanadu_lexer.specs.declared.token.Token.{Token}
use Rattle.xanadu_lexer.specs.declared.token.TokenKind.{TokenKind}
use Rattle.xanadu_lexer.specs.declared.token.TokenKind.TheVariants as kind
use Rattle.xan_read.specs.Symbols.{eat}
use Rattle.expression_parser.specs.Tables.{symbol_among, by_symbol, as_symbol, placed, next_symbol, mark_eaten}

abbrev ahead_of : {A : Type 0} → List Token → A → A × List Token
ahead_of tokens x = (x, tokens)

abbrev with_place : {A : Type 0} → ℕ → List Token → A → (A × ℕ) × List Token
with_place at tokens x = ((x, at), tokens)

of_option : {A : Type 0} (at : ℕ) (tokens : List Token) (o : Option A) → option_map (ahead_of tokens) (placed o at) ≡ option_map (with_place at tokens) o
of_option at tokens None = refl
of_option at tokens (Some x) = refl

of_kind : {A : Type 0} (of : Symbol → Option A) (at : ℕ) (tokens : List Token) (k : TokenKind) → option_map (ahead_of tokens) (placed (by_symbol of k) at) ≡ mark_eaten of (as_symbol at k) tokens
of_kind of at tokens (kind.Symbol s) = of_option at tokens (of s)
of_kind of at tokens (kind.Lower x) = refl
of_kind of at tokens (kind.Upper x) = refl
of_kind of at tokens (kind.Num x) = refl
of_kind of at tokens (kind.Keyword x) = refl

pub eat_among : {A : Type 0} (of : Symbol → Option A) (tokens : List Token) → eat (symbol_among of) tokens ≡ mark_eaten of (next_symbol tokens) (drop 1 tokens)
unfolding eat symbol_among next_symbol
eat_among of [] = refl
eat_among of (token ∷ tokens) = of_kind of token.at tokens token.kind
