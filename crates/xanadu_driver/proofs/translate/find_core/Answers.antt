use Rattle.xanadu_driver.proofs.Fates.{tree_is_written}
use Rattle.xanadu_driver.proofs.translate.find_core.Goals as goal

pub resolve-requires : goal.resolve-requires
resolve-requires c =
    tree_is_written c.args.source.now _
    (record {
      tokens = _;
      has = record { short = c.requires; lexed = c.in_ok-tokens.ensures };
      shallow = c.in_ok-tree.ensures.0;
      parses = c.in_ok-tree.ensures.1;
    })
