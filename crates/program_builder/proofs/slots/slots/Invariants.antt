use Rattle.std.proofs.Common.{◌≡◌}
use Rattle.program_builder.specs.Slots as spec
use Rattle.program_builder.proofs.slots.slots.Given as goal

abbrev pub invariant-places : goal.invariant-places
invariant-places l = l.homes.items ≡ spec.slots l.place
