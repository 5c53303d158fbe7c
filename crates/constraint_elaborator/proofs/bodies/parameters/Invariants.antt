-- What is made, and the types that are left with their places, are all types with theirs.
use Rattle.std.proofs.Common.{◌≡◌, ◌≤◌, ◌+◌, ◌++◌, length}
use Rattle.std.specs.List.{enumerate_from}
use Rattle.constraint_elaborator.proofs.bodies.parameters.Given as goal

abbrev pub invariant-loop-types : goal.invariant-loop-types
invariant-loop-types l = record {
  all : l.made.items ++ enumerate_from l.place l.types ≡ enumerate_from 0 l.fn.types;
  few : l.place + length l.types ≤ 8;
}

abbrev pub decreases-loop-types : goal.decreases-loop-types
decreases-loop-types l = length l.types
