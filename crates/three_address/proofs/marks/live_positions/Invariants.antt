use Rattle.three_address.proofs.MarksMade.{AreJustified, unmarked}
use Rattle.three_address.proofs.marks.live_positions.Given as goal

abbrev pub invariant-passes : goal.invariant-passes
invariant-passes l = AreJustified l.fun l.place l.marks.items

abbrev pub decreases-passes : goal.decreases-passes
decreases-passes l = unmarked l.marks.items
