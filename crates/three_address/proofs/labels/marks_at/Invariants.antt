use Rattle.std.proofs.Common.{◌≡◌, [], length}
use Rattle.three_address.specs.LiveLabels.{marks_onto}
use Rattle.three_address.proofs.labels.marks_at.Given as goal

abbrev pub invariant-positions : goal.invariant-positions
invariant-positions l = marks_onto l.marks l.rest l.found.items ≡ marks_onto l.marks l.positions []

abbrev pub decreases-positions : goal.decreases-positions
decreases-positions l = length l.rest
