use Rattle.std.proofs.Common.{◌<◌, length, arith}
use Rattle.solver_rows.specs.declared.source.Sign.TheVariants.{Positive, Negative}
use Rattle.linear_solver.proofs.Tallies.{tallied_more, tallied_all, few_more}
use Rattle.linear_solver.proofs.counts.count_all.Goals as goal

pub rows-preserved : goal.rows-preserved
rows-preserved c =
    let live : c.rows.at < length c.args.work.now.rows = omega (arith, c.rows-test.true, c.count-at-end.ensures) in record {
      some = tallied_more Positive c.args.work.now.vars c.args.work.now.rows _ _ _ c.rows.at c.rows.invariant.some live (λ column h. c.signs-signs.ensures.sign Positive column h) c.add_columns.ensures;
      others = tallied_more Negative c.args.work.now.vars c.args.work.now.rows _ _ _ c.rows.at c.rows.invariant.others live (λ column h. c.signs-signs.ensures.sign Negative column h) c.add_columns-in-rows.ensures;
      few = few_more _ _ _ c.rows.at c.rows.invariant.few c.add_columns.ensures;
      few_others = few_more _ _ _ c.rows.at c.rows.invariant.few_others c.add_columns-in-rows.ensures;
    }

pub add_columns-requires : goal.add_columns-requires
add_columns-requires c = record { small = λ column. omega (arith, c.rows.invariant.few column, c.rows-test.true, c.count-at-end.ensures, c.requires) }

pub add_columns-requires-in-rows : goal.add_columns-requires-in-rows
add_columns-requires-in-rows c = record { small = λ column. omega (arith, c.rows.invariant.few_others column, c.rows-test.true, c.count-at-end.ensures, c.requires) }

pub returns-clause-positive : goal.returns-clause-positive
returns-clause-positive c =
    tallied_all Positive c.args.work.now.vars c.args.work.now.rows _ c.rows.at c.rows.invariant.some (omega (arith, c.rows-test.false, c.count-at-end.ensures))

pub returns-clause-negative : goal.returns-clause-negative
returns-clause-negative c =
    tallied_all Negative c.args.work.now.vars c.args.work.now.rows _ c.rows.at c.rows.invariant.others (omega (arith, c.rows-test.false, c.count-at-end.ensures))
