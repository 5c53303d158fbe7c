use Rattle.std.proofs.Common.{sym, ◌∙◌, ap, arith, ◌≡◌}
use Rattle.solver_rows.specs.RowsInCells.{numbers_divisor}
use Rattle.solver_rows.proofs.Sparse.{numbers-one}
use Rattle.solver_rows.proofs.divisors.divisor_of_all.Goals as goal

pub returns-then-found-eq1 : goal.returns-then-found-eq1
returns-then-found-eq1 c =
    let one : c.numbers.found ≡ 1 = omega (arith, c.if-found-eq1.true) in
    sym (numbers-one c.numbers.rest.now) ∙ ap (λ g. numbers_divisor g c.numbers.rest.now) (sym one) ∙ c.numbers.invariant
