use Rattle.std.proofs.Common.{◌∙◌, ◌+◌, List, take, subst, sym}
use Rattle.std.proofs.lemmas.Result.{err_from_is_err_and}
use Rattle.proof_lines.specs.declared.line.Line.{Line}
use Rattle.goal_table.specs.Answers.{HaveLines}
use Rattle.goal_table.proofs.GoalFacts.{found_here, one_passed, first_behind}
use Rattle.goal_table.proofs.table.prove_goals.Goals as goal

pub returns-in_err-lines-clause-exact : goal.returns-in_err-lines-clause-exact
returns-in_err-lines-clause-exact c =
    let p = err_from_is_err_and c.from_residual.result c.from_residual.ensures.1 in
    rw (p.1, p.2) (found_here c.args.goals.now c.goals.number c.index-goals-number.result c.in_err-lines.field-0.0 c.goals-test.true c.index-goals-number.is c.goals.invariant.first
    c.in_err-lines.ensures.exact)

pub goals-preserved : goal.goals-preserved
goals-preserved c =
    let goals = c.args.goals.now in
    let number = c.goals.number in
    let goal_there = c.index-goals-number.result in
    let more = one_passed goals number goal_there c.goals.proved.items c.in_ok-lines.lines c.goals-test.true c.index-goals-number.is c.goals.invariant.have c.in_ok-lines.ensures.exact in
    record {
      have = subst (λ (lists : List (List Line)). HaveLines (take (number + 1) goals) lists) (sym c.in-Ok.ensures.items) more;
      first = first_behind goals number goal_there c.in_ok-lines.lines c.goals-test.true c.index-goals-number.is c.goals.invariant.first c.in_ok-lines.ensures.exact;
      pool = c.prove_goal.ensures.unchanged ∙ c.goals.invariant.pool;
    }
