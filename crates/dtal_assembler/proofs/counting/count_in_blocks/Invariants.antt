use Rattle.std.proofs.Common.{◌≡◌, ◌+◌, length}
use Rattle.dtal_code.specs.Grammar.{size_of}
use Rattle.dtal_assembler.proofs.counting.count_in_blocks.Given as goal

abbrev pub invariant-each : goal.invariant-each
invariant-each l = l.count + size_of l.blocks ≡ size_of l.fn.blocks

abbrev pub decreases-each : goal.decreases-each
decreases-each l = length l.blocks
