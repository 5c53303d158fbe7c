use Rattle.std.proofs.Common.{◌≡◌, map, take}
use Rattle.constraint_elaborator.proofs.entering.wanted_types.Given as goal

abbrev pub invariant-loop-one : goal.invariant-loop-one
invariant-loop-one l = l.types.items ≡ map (λ w. w.1) (take l.one-index l.wanted)
