use Rattle.std.proofs.Common.{take}
use Rattle.solver_rows.specs.Signing.{AreSigns}
use Rattle.solver_rows.proofs.signs.signs_of.Given as goal

abbrev pub invariant-numbers : goal.invariant-numbers
invariant-numbers l = AreSigns l.signs (take l.column l.numbers)
