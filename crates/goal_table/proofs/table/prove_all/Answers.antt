use Rattle.std.proofs.Common.{List, sym, subst}
use Rattle.typed_core.specs.Proving.{ProvedParts}
use Rattle.typed_core.specs.declared.goal.GoalAt.{GoalAt}
use Rattle.goal_table.specs.Answers.{HaveLines, AreShort}
use Rattle.goal_table.proofs.GoalFacts.{all_proved, lines_prove, lines_short}
use Rattle.goal_table.proofs.table.prove_all.Goals as goal

pub new-requires : goal.new-requires
new-requires c =
    lines_prove c.args.base.made.goals c.in_ok-lines.lines
    (subst (λ (goals : List GoalAt). HaveLines goals c.in_ok-lines.lines) c.goals.ensures c.in_ok-lines.ensures.exact)

pub returns-clause-exact : goal.returns-clause-exact
returns-clause-exact c =
    all_proved c.args.base c.new.result c.in_ok-lines.lines c.new.ensures
    (subst (λ (goals : List GoalAt). HaveLines goals c.in_ok-lines.lines) c.goals.ensures c.in_ok-lines.ensures.exact)

pub returns-clause-short : goal.returns-clause-short
returns-clause-short c =
    subst (λ (proved : ProvedParts). AreShort proved.lines) (sym c.new.ensures) (lines_short c.goals.result.now c.in_ok-lines.lines c.in_ok-lines.ensures.exact)
