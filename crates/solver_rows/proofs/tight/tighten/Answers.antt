use Rattle.std.proofs.Common.{◌∙◌, ap, length, nat_lt}
use Rattle.xan_lin.specs.Linear.{all_within}
use Rattle.solver_rows.specs.Divisors.{divisor}
use Rattle.solver_rows.specs.RowsInCells.{linear_in, row_in}
use Rattle.solver_rows.proofs.tight.tighten.Goals as goal

pub returns-clause-row : goal.returns-clause-row
returns-clause-row c = ap (λ r. row_in c.args.vars.now r.cells.items r.side) c.sign.ensures.kept ∙ c.divide.ensures.row

pub returns-clause-wide : goal.returns-clause-wide
returns-clause-wide c = ap (λ r. length r.cells.items) c.sign.ensures.kept ∙ c.divide.ensures.wide

pub returns-clause-small : goal.returns-clause-small
returns-clause-small c = ap (λ r. all_within (linear_in c.args.vars.now r.cells.items).terms) c.sign.ensures.kept ∙ c.divide.ensures.small

pub returns-clause-divided : goal.returns-clause-divided
returns-clause-divided c = ap (λ r. nat_lt 1 (divisor (linear_in c.args.vars.now r.cells.items).terms)) c.sign.ensures.kept ∙ c.divide.ensures.divided
