use Rattle.std.proofs.Common.{◌≡◌, drop}
use Rattle.xanadu_tree.specs.BodyRules.{completes_all}
use Rattle.xanadu_tree.specs.PlainOf.{plain_block}
use Rattle.constraint_elaborator.proofs.CompletingBlocks.{ends_with}
use Rattle.constraint_elaborator.proofs.blocks.+completes.Given as goal

abbrev pub invariant-completes_all-loop-statement : goal.invariant-completes_all-loop-statement
invariant-completes_all-loop-statement l = ends_with l.end (plain_block (drop l.statement-index l.block)) ≡ completes_all (plain_block l.block)
