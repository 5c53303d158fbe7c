use Rattle.std.proofs.Common.{◌≡◌, ◌++◌}
use Rattle.dtal_emit.specs.Homes.{entry_moves}
use Rattle.dtal_emit.proofs.homes.enter.Given as goal

abbrev pub invariant-parameters : goal.invariant-parameters
invariant-parameters l = l.out.items ≡ l.fn.out.items ++ entry_moves l.homes l.place
