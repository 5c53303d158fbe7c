-- From the bytes of a source to its core, as the definitions of the passes have it.
use Rattle.std.proofs.Common.{◌≡◌, refl, ℕ, List, length, Option, Some, None, Result, Ok, Err}
use Rattle.xanadu_lexer.specs.declared.error.LexError.{LexError}
use Rattle.xanadu_lexer.specs.declared.token.Token.{Token}
use Rattle.xanadu_lexer.specs.Lexing.{lexed}
use Rattle.xanadu_tree.specs.Plain.{Program}
use Rattle.xanadu_tree.specs.PlainTree as plain
use Rattle.xanadu_tree.specs.Written.{Parses, Reads}
use Rattle.xanadu_parser.specs.declared.error.ParseError.{ParseError}
use Rattle.xanadu_parser.specs.Parsing.{parsed}
use Rattle.xanadu_parser.proofs.ParsedPrograms.{meaning}
use Rattle.type_shapes.specs.Faults.{Check}
use Rattle.scope_shapes.specs.Shape.{shape}

-- the bytes are read as a tree that has this core
pub record HasCore (source : List ℕ) (core : Program) : Type 0 where
  pub tree : plain.Tree
  pub reads : Reads source tree
  pub shaped : shape tree (length source) ≡ Ok core

-- ---- by computation

abbrev core_or_none : Check Program → Option Program
core_or_none (Ok core) = Some core
core_or_none (Err fault) = None

abbrev core_of_tree : ℕ → Result plain.Tree ParseError → Option Program
core_of_tree end (Ok tree) = core_or_none (shape tree end)
core_of_tree end (Err error) = None

abbrev core_of_tokens : ℕ → Result (List Token) LexError → Option Program
core_of_tokens end (Ok tokens) = core_of_tree end (parsed tokens end)
core_of_tokens end (Err error) = None

abbrev pub core_of : List ℕ → Option Program
core_of source = core_of_tokens (length source) (lexed source)

shaped_by : (checked : Check Program) (core : Program) → core_or_none checked ≡ Some core → checked ≡ Ok core
shaped_by (Ok it) core e = cc
shaped_by (Err fault) core e = absurd (cc)

-- what the parser's definition answers is the tree that the tokens spell
parses : (tokens : List Token) (end : ℕ) (tree : plain.Tree) → parsed tokens end ≡ Ok tree → Parses tokens end tree
parses tokens end tree e = (meaning tokens end (λ (t : plain.Tree). t) (Ok tree) e).1

by_tree : (source : List ℕ) (core : Program) (tokens : List Token) → lexed source ≡ Ok tokens → (answer : Result plain.Tree ParseError) → parsed tokens (length source) ≡ answer
    → core_of_tree (length source) answer ≡ Some core → HasCore source core
by_tree source core tokens read (Ok tree) same e = record {
  tree = tree;
  reads = record { tokens = tokens; lexed = read; parsed = parses tokens (length source) tree same };
  shaped = shaped_by (shape tree (length source)) core e;
}
by_tree source core tokens read (Err error) same e = absurd (cc)

by_tokens : (source : List ℕ) (core : Program) (answer : Result (List Token) LexError) → lexed source ≡ answer → core_of_tokens (length source) answer ≡ Some core → HasCore source core
by_tokens source core (Ok tokens) same e = by_tree source core tokens same (parsed tokens (length source)) refl e
by_tokens source core (Err error) same e = absurd (cc)

pub has_core : (source : List ℕ) (core : Program) → core_of source ≡ Some core → HasCore source core
has_core source core e = by_tokens source core (lexed source) refl e
