use Rattle.std.proofs.Common.{◌≡◌, ◌+◌, drop}
use Rattle.dtal_code.specs.Grammar.{size_of}
use Rattle.xanadu_driver.proofs.counting.count_in_blocks.Given as goal

-- those that were counted, and those of the blocks that are left, are all
abbrev pub invariant-each : goal.invariant-each
invariant-each l = l.count + size_of (drop l.block-index l.blocks) ≡ size_of l.blocks
