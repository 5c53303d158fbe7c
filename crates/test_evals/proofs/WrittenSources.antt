-- The tree that a source is read as is one that some source spells.
use Rattle.std.proofs.Common.{◌≡◌, ℕ, List, length, Result, Ok}
use Rattle.xanadu_lexer.specs.Lexing.{lexed}
use Rattle.xanadu_lexer.specs.declared.token.Token.{Token}
use Rattle.xanadu_tree.specs.PlainTree as tree
use Rattle.xanadu_tree.specs.Written.{IsWritten, Parses}
use Rattle.xanadu_tree.proofs.ReadTrees.{read_is_written}

pub source_is_written : (bytes : List ℕ) (tokens : List Token) (written : tree.Tree) → lexed bytes ≡ Ok tokens → Parses tokens (length bytes) written → IsWritten written
source_is_written bytes tokens written e parses = read_is_written bytes written (record { tokens = tokens; lexed = e; parsed = parses })
