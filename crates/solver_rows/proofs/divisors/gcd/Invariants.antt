use Rattle.std.proofs.Common.{◌≡◌}
use Rattle.solver_rows.specs.Divisors.{gcd}
use Rattle.solver_rows.proofs.divisors.gcd.Given as goal

abbrev pub invariant-remainders : goal.invariant-remainders
invariant-remainders l = gcd l.a l.b ≡ gcd l.fn.left l.fn.right

abbrev pub decreases-remainders : goal.decreases-remainders
decreases-remainders l = l.b
