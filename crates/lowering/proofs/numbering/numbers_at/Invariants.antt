use Rattle.std.proofs.Common.{◌≡◌, length}
use Rattle.lowering.specs.Emitted.{numbers_onto, numbers_for}
use Rattle.lowering.proofs.numbering.numbers_at.Given as goal

abbrev pub invariant-labels : goal.invariant-labels
invariant-labels l = numbers_onto l.rest l.number l.table.items ≡ numbers_for l.labels l.size

abbrev pub decreases-labels : goal.decreases-labels
decreases-labels l = length l.rest
