use Rattle.std.proofs.Common.{◌≡◌, ◌++◌, ◌+◌, ◌≤◌, length}
use Rattle.dtal_emit.specs.Homes.{loads, registers}
use Rattle.dtal_emit.specs.declared.homes.TheConstants.{SCRATCH}
use Rattle.dtal_emit.proofs.homes.load.Given as goal

abbrev pub invariant-homes : goal.invariant-homes
invariant-homes l = (l.out.items ++ loads l.scratch l.rest ≡ l.fn.out.items ++ loads SCRATCH l.fn.homes.items)
    × (l.found.items ++ registers l.scratch l.rest ≡ registers SCRATCH l.fn.homes.items)
    × (l.scratch + length l.rest ≤ 21) × (length l.found.items + length l.rest ≤ 8)

abbrev pub decreases-homes : goal.decreases-homes
decreases-homes l = length l.rest
