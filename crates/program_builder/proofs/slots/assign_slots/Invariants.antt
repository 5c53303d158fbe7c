use Rattle.std.proofs.Common.{◌≡◌, take}
use Rattle.program_builder.specs.Slots as spec
use Rattle.program_builder.proofs.slots.assign_slots.Given as goal

abbrev pub invariant-loop-fun : goal.invariant-loop-fun
invariant-loop-fun l = l.all.items ≡ spec.all_slots (take l.fun-index l.funs)
