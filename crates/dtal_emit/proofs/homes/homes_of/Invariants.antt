use Rattle.std.proofs.Common.{◌≡◌, take, map}
use Rattle.dtal_emit.specs.Homes.{home_of}
use Rattle.dtal_emit.proofs.homes.homes_of.Given as goal

abbrev pub invariant-loop-place : goal.invariant-loop-place
invariant-loop-place l = l.found.items ≡ map (home_of l.homes) (take l.place-index l.few)
