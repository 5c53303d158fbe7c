use Rattle.std.proofs.Common.{rules, w64, FitsSigned, ◌∙◌, ap, sym, pos, int_lt, get_or}
use Rattle.std.proofs.lemmas.Int.{to_z-of_z}
use Rattle.linear_solver.specs.Region.{no_row}
use Rattle.linear_solver.proofs.WorkspaceReads.{refutes_is, refutes_not}
use Rattle.linear_solver.proofs.choose.cannot_hold.Goals as goal

pub returns-then-are_none : goal.returns-then-are_none
returns-then-are_none c =
    let fits : FitsSigned w64 c.constant.result.now = search rules in
    ap (λ n. int_lt n (pos 0)) (to_z-of_z w64 c.constant.result.now fits)
    ∙ refutes_is (get_or c.args.work.now.rows c.args.at no_row) c.constant.result.now (sym c.signs.ensures.none ∙ sym c.are_none.ensures ∙ c.if-are_none.true) c.constant.ensures

pub returns-else-are_none : goal.returns-else-are_none
returns-else-are_none c = refutes_not (get_or c.args.work.now.rows c.args.at no_row) c.are_none.result (c.are_none.ensures ∙ c.signs.ensures.none) c.if-are_none.false
