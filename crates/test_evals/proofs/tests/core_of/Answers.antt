use Rattle.std.proofs.Common.{length, subst}
use Rattle.xanadu_tree.specs.PlainTreeOf.{plain_tree}
use Rattle.xanadu_tree.specs.Written.{Parses}
use Rattle.test_evals.proofs.WrittenSources.{source_is_written}
use Rattle.test_evals.proofs.tests.core_of.Goals as goal

pub resolve-requires : goal.resolve-requires
resolve-requires c =
    let bytes = c.args.source.now in
    let written = plain_tree c.in-Ok-parse.tree in
    let parsed = subst (λ ts. Parses ts (length bytes) written) c.as_slice.ensures c.in-Ok-parse.ensures.1 in
    source_is_written bytes c.in-Ok.tokens written c.in-Ok.ensures parsed
