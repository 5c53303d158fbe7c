use Rattle.std.proofs.Common.{◌≡◌, length}
use Rattle.solver_rows.specs.RowsInCells.{numbers_divisor}
use Rattle.solver_rows.proofs.divisors.divisor_of_all.Given as goal

abbrev pub invariant-numbers : goal.invariant-numbers
invariant-numbers l = numbers_divisor l.found l.rest ≡ numbers_divisor 0 l.numbers

abbrev pub decreases-numbers : goal.decreases-numbers
decreases-numbers l = length l.rest
