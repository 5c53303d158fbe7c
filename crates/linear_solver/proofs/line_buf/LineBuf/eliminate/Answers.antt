use Rattle.std.proofs.Common.{refl, ◌∙◌, ap, length, sym, subst, List, ℕ, arith}
use Rattle.proof_lines.specs.Cells.{AreDifferent}
use Rattle.linear_solver.proofs.ConeClosure.{cone-different}
use Rattle.linear_solver.proofs.Risen.{length-risen}
use Rattle.linear_solver.proofs.WholeAnswers.{whole_of, closed_of, start_of}
use Rattle.linear_solver.proofs.line_buf.LineBuf.eliminate.Goals as goal

pub begin-requires-clause-different : goal.begin-requires-clause-different
begin-requires-clause-different c = subst (λ (vs : List ℕ). AreDifferent vs) (sym (c.all.ensures ∙ c.if-not-find_cone.ensures.found refl)) (cone-different c.args.hyps.now c.in-Ok.start)

pub in_cone-answer-requires-clause-few : goal.in_cone-answer-requires-clause-few
in_cone-answer-requires-clause-few c =
    omega (arith, ap (λ w. length w.vars) c.begin.ensures.lent, length-risen c.all.result.now, ap length c.all.ensures, c.if-not-find_cone.ensures.few refl)

pub in_cone-answer-requires-clause-closed : goal.in_cone-answer-requires-clause-closed
in_cone-answer-requires-clause-closed c =
    closed_of c.args.hyps.now c.in-Ok.start _ c.all.result.now (c.all.ensures ∙ c.if-not-find_cone.ensures.found refl) (ap (λ w. w.vars) c.begin.ensures.lent)

pub in_cone-answer-requires-clause-among : goal.in_cone-answer-requires-clause-among
in_cone-answer-requires-clause-among c =
    start_of c.args.hyps.now c.in-Ok.start _ c.all.result.now (c.all.ensures ∙ c.if-not-find_cone.ensures.found refl) (ap (λ w. w.vars) c.begin.ensures.lent)

pub returns-clause-answer : goal.returns-clause-answer
returns-clause-answer c =
    whole_of c.args.hyps.now c.args.goal.now c.in-Ok.start _ c.all.result.now _ _ (sym c.in-Ok.ensures.exact) (c.all.ensures ∙ c.if-not-find_cone.ensures.found refl)
    (ap (λ w. w.vars) c.begin.ensures.lent) c.in_cone-answer.ensures.answer
