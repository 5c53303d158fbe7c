-- The elimination from the cone on, with its variables by rising number.
use Rattle.std.proofs.Common.{◌≡◌, ℕ, Bool, true, false, cond, nat_lt, List, length, Result, Ok, Err, refl, sym, ◌∙◌, ap, subst}
use Rattle.xan_lin.specs.Linear.{Linear, negated_row_of}
use Rattle.xan_lin.specs.declared.term.LimitKind.{LimitKind}
use Rattle.xan_lin.specs.declared.term.LimitKind.TheVariants as limit
use Rattle.xan_lin.specs.declared.term.TooLarge.{TooLarge}
use Rattle.proof_lines.specs.Cells.{are_among}
use Rattle.linear_solver.specs.declared.answer.Answer.{Answer}
use Rattle.linear_solver.specs.declared.answer.Answer.TheVariants.{Limit}
use Rattle.solver_rows.specs.declared.step.Step.{Step}
use Rattle.linear_solver.specs.Cone.{cone}
use Rattle.linear_solver.specs.Elimination.{in_cone, from_start, refutation}
use Rattle.linear_solver.specs.Solving.{Answers}
use Rattle.linear_solver.specs.Region.{AreClosed, risen}
use Rattle.linear_solver.proofs.Risen.{cone-risen, closed-risen, among_all-risen}
use Rattle.linear_solver.proofs.ConeClosure.{cone-closes, cone-start}

pub past_magnitude : (hyps : List Linear) (goal : Linear) (large : TooLarge) (steps : List Step) → negated_row_of goal ≡ Err large → Answers (Err limit.Magnitude) steps (refutation hyps goal)
unfolding refutation
past_magnitude hyps goal large steps e = ap (from_start hyps) e

pub past_cone : (hyps : List Linear) (goal start : Linear) (steps : List Step) → negated_row_of goal ≡ Ok start → nat_lt 64 (length (cone hyps start)) ≡ true
    → Answers (Err limit.Cone) steps (refutation hyps goal)
unfolding refutation
past_cone hyps goal start steps e many = ap (from_start hyps) e ∙ go (nat_lt 64 (length (cone hyps start))) many _
  where
    go : (b : Bool) → b ≡ true → (r : Result (List Step) Answer) → cond b (let many : Result (List Step) Answer = Err (Limit limit.Cone) in many) r ≡ Err (Limit limit.Cone)
    go true f r = refl
    go false f r = cc

pub whole_of : (hyps : List Linear) (goal start : Linear) (vars found : List ℕ) (steps : List Step) (result : Result Answer LimitKind) → negated_row_of goal ≡ Ok start → found ≡ cone hyps start → vars ≡ risen found
    → Answers result steps (in_cone vars hyps start) → Answers result steps (refutation hyps goal)
unfolding refutation
whole_of hyps goal start vars found steps result e is sorted a =
    subst (λ (r : Result (List Step) Answer). Answers result steps r)
    (ap (λ vs. in_cone vs hyps start) sorted ∙ cone-risen found hyps start ∙ ap (λ vs. in_cone vs hyps start) is ∙ sym (ap (from_start hyps) e)) a

pub closed_of : (hyps : List Linear) (start : Linear) (vars found : List ℕ) → found ≡ cone hyps start → vars ≡ risen found → AreClosed vars hyps
closed_of hyps start vars found is sorted =
    subst (λ (vs : List ℕ). AreClosed vs hyps) (sym sorted) (closed-risen found hyps (subst (λ (vs : List ℕ). AreClosed vs hyps) (sym is) (cone-closes hyps start)))

pub start_of : (hyps : List Linear) (start : Linear) (vars found : List ℕ) → found ≡ cone hyps start → vars ≡ risen found → are_among vars start.terms ≡ true
start_of hyps start vars found is sorted =
    ap (λ vs. are_among vs start.terms) sorted ∙ among_all-risen found start.terms (ap (λ vs. are_among vs start.terms) is ∙ cone-start hyps start)
