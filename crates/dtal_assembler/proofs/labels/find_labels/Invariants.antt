use Rattle.std.proofs.Common.{◌≡◌, ◌+◌, ◌++◌, length}
use Rattle.dtal_code.specs.Grammar.{size_of}
use Rattle.dtal_assembler.specs.Labels.{label_starts}
use Rattle.dtal_assembler.proofs.labels.find_labels.Given as goal

abbrev pub invariant-each : goal.invariant-each
invariant-each l = (l.labels.items ++ label_starts l.at l.blocks ≡ label_starts l.start l.fn.blocks) × (l.at + size_of l.blocks ≡ l.start + size_of l.fn.blocks)

abbrev pub decreases-each : goal.decreases-each
decreases-each l = length l.blocks
