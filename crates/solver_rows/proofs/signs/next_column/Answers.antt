use Rattle.std.proofs.Common.{◌≡◌, ◌-◌, ◌<◌, ◌+◌, ◌∙◌, ap, arith}
use Rattle.std.specs.Int.{bit_at}
use Rattle.std.proofs.lemmas.Nat.Bits.{bit_at-zero}
use Rattle.solver_rows.proofs.SignLemmas.{column_few, column_none}
use Rattle.solver_rows.proofs.signs.next_column.Goals as goal

pub returns-then-rest-eq0-clause-skipped : goal.returns-then-rest-eq0-clause-skipped
returns-then-rest-eq0-clause-skipped c column h l =
    let none : c.shifted_down-rest.result ≡ 0 = omega (arith, c.if-rest-eq0.true) in
    column_none c.args.columns c.shifted_down-rest.result c.args.from column c.shifted_down-rest.ensures h (ap (λ n. bit_at n (column - c.args.from)) none ∙ bit_at-zero (column - c.args.from))

pub returns-clause-few : goal.returns-clause-few
returns-clause-few c =
    let few : c.args.from + c.lowest.result < 64 =
    column_few c.args.columns c.shifted_down-rest.result c.args.from c.lowest.result c.ranges.columns.fits c.shifted_down-rest.ensures c.lowest.ensures.set in
    omega arith

pub returns-clause-skipped : goal.returns-clause-skipped
returns-clause-skipped c column h l =
    column_none c.args.columns c.shifted_down-rest.result c.args.from column c.shifted_down-rest.ensures h (c.lowest.ensures.below (column - c.args.from) (omega (arith, h, l)))
