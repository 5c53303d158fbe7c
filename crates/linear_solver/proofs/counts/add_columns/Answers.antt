use Rattle.std.proofs.Common.{refl, arith}
use Rattle.linear_solver.proofs.Tallies.{raises_more, raises_end}
use Rattle.linear_solver.proofs.counts.add_columns.Goals as goal

pub columns-preserved : goal.columns-preserved
columns-preserved c =
    let next = c.next_column-column-in-columns.ensures in
    raises_more c.args.columns c.args.counts.now c.columns.counts _ c.columns.column c.next_column-column-in-columns.result _ c.columns.invariant c.columns-test.true refl refl
    next.behind next.few next.skipped next.found

pub returns : goal.returns
returns c = raises_end c.args.columns c.args.counts.now c.columns.counts c.columns.column c.columns.invariant c.ranges.columns.fits (omega (arith, c.columns-test.false))
