use Rattle.std.proofs.Common.{length, subst}
use Rattle.xanadu_tree.specs.PlainTreeOf.{plain_tree}
use Rattle.xanadu_tree.specs.Written.{Parses}
use Rattle.xanadu_tree.proofs.ReadTrees.{read_is_written}
use Rattle.test_code.proofs.tests.core_of.Goals as goal

-- the tree that a source is read as is one that some source spells
pub resolve-requires : goal.resolve-requires
resolve-requires c =
    let bytes = c.args.source.now in
    let written = plain_tree c.in-Ok-parse.tree in
    let parsed = subst (λ ts. Parses ts (length bytes) written) c.as_slice.ensures c.in-Ok-parse.ensures.1 in
    read_is_written bytes written (record { tokens = c.in-Ok.tokens; lexed = c.in-Ok.ensures; parsed = parsed })
