-- Where the tokens of a source stop being the beginning of a program, and what an answer of the parser means.
use Rattle.std.specs.Prelude.{◌≡◌, ℕ, suc, ◌<◌, ◌≤◌, List, ◌++◌, length, take, drop, Result, Ok, Err}
use Rattle.xanadu_lexer.specs.declared.token.Token.{Token}
use Rattle.xanadu_tree.specs.PlainTree as plain
use Rattle.xanadu_tree.specs.Written.{Parses}
use Rattle.xanadu_tree.specs.Nesting.{IsTooNested}
use Rattle.xanadu_parser.specs.declared.error.ParseError.{ParseError}
use Rattle.xanadu_parser.specs.declared.error.ParseError.TheVariants as error
use Rattle.xanadu_parser.specs.Kinds.{kinds_of}
use Rattle.xanadu_parser.specs.Parsing.{first_at}

-- some program's tokens begin with these
pub record Begins (front : List Token) : Type 0 where
  pub tree : plain.Tree
  pub end : ℕ
  pub ending : List Token
  pub parses : Parses (front ++ ending) end tree

-- The first tokens, as many as are good, begin a program, and with one more they begin none. The tokens are no program themselves. The fault is
-- at the token behind the good ones, or at the end of the source where there is none.
pub record IsFault (tokens : List Token) (end at : ℕ) : Type 0 where
  pub good : ℕ
  pub within : good ≤ length tokens
  pub begins : Begins (take good tokens)
  pub no_more : good < length tokens → Begins (take (suc good) tokens) → ⊥
  pub no_tree : (tree : plain.Tree) → Parses tokens end tree → ⊥
  pub place : at ≡ first_at (drop good tokens) end

-- when each error comes, but for want of memory
abbrev pub IsRefused : List Token → (end : ℕ) → ParseError → Type 0
IsRefused tokens end error.Nesting = IsTooNested (kinds_of tokens)
IsRefused tokens end (error.Fault at) = (IsTooNested (kinds_of tokens) → ⊥) × IsFault tokens end at
IsRefused tokens end error.Memory = Unit {0}

-- A tree that was returned, seen by view, is the one that spells the tokens.
abbrev pub IsAnswer : {X : Type 0} → (X → plain.Tree) → List Token → (end : ℕ) → Result X ParseError → Type 0
IsAnswer view tokens end (Ok x) = (IsTooNested (kinds_of tokens) → ⊥) × Parses tokens end (view x)
IsAnswer view tokens end (Err error) = IsRefused tokens end error
