use Rattle.std.proofs.Common.{refl, sym, ap, ◌∙◌, arith}
use Rattle.proof_lines.proofs.CheckProgress.{walks_none, rows_behind, cells-long, from_line, walks_more, walks_all}
use Rattle.proof_lines.proofs.FilledCells.{blank-cells, blank-given, blank-zeros}
use Rattle.proof_lines.proofs.checker.walk.Goals as goal

pub lines-init : goal.lines-init
lines-init c = (walks_none _ _ _ _ _ _ c.mark-base.ensures.live c.new-columns.ensures, blank-zeros _ _ c.new-columns.ensures refl)

pub fill_line-requires-clause-blank : goal.fill_line-requires-clause-blank
fill_line-requires-clause-blank c = c.lines.invariant.1

pub fill_line-requires-clause-rows : goal.fill_line-requires-clause-rows
fill_line-requires-clause-rows c =
    let s = rows_behind _ _ _ _ _ _ _ _ c.lines.invariant.0 in
    blank-cells _ _ _ s.cells_are c.lines.invariant.0.few

pub put-requires-clause-width : goal.put-requires-clause-width
put-requires-clause-width c =
    cells-long _ _ _ _ (c.in-Ok.ensures _ (rows_behind _ _ _ _ _ _ _ _ c.lines.invariant.0))
    ∙ sym (ap (λ p. p.width) c.lines.invariant.0.pool_is ∙ c.requires.width)

pub returns-in-Err-clause-answer : goal.returns-in-Err-clause-answer
returns-in-Err-clause-answer c =
    from_line _ _ _ _ _ _ _ _ _ _ c.lines.invariant.0 c.lines-test.true c.index-lines-at.is (c.in-Err.ensures _ (rows_behind _ _ _ _ _ _ _ _ c.lines.invariant.0))

pub lines-preserved : goal.lines-preserved
lines-preserved c =
    let given = c.in-Ok.ensures _ (rows_behind _ _ _ _ _ _ _ _ c.lines.invariant.0) in
    (walks_more _ _ _ _ _ _ _ _ _ _ _ _ c.lines.invariant.0 c.lines-test.true c.index-lines-at.is given c.put.ensures, blank-given _ _ _ _ given)

pub returns-then-ends_refuted-clause-answer : goal.returns-then-ends_refuted-clause-answer
returns-then-ends_refuted-clause-answer c =
    walks_all _ _ _ _ _ _ _ _ _ c.lines.invariant.0 (omega arith) (omega arith) (sym c.if-ends_refuted.true ∙ c.ends_refuted.ensures)

pub returns-else-ends_refuted-clause-answer : goal.returns-else-ends_refuted-clause-answer
returns-else-ends_refuted-clause-answer c =
    walks_all _ _ _ _ _ _ _ _ _ c.lines.invariant.0 (omega arith) (omega arith) (sym c.if-ends_refuted.false ∙ c.ends_refuted.ensures)
