-- From goals with their lines to the program, and from one goal to the first that is not proved.
use Rattle.std.proofs.Common.{◌≡◌, arith, ◌∙◌, ◌++◌, ◌+◌, ◌<◌, ◌≤◌, take, drop, get_or, Err, ℕ, suc, List, [], ◌∷◌, map, length, Option, Some, None, refl, sym, ap, ap₂, subst}
use Rattle.std.proofs.lemmas.List.Elements.{All-nil, All-cons}
use Rattle.std.proofs.lemmas.List.{length-map, take_more, drop_more}
use Rattle.linear_solver.specs.declared.answer.Answer.{Answer}
use Rattle.linear_solver.specs.declared.answer.Answer.TheVariants.{Proved}
use Rattle.solver_rows.specs.declared.step.Step.{Step}
use Rattle.linear_solver.specs.Meaning.{line_meant, lines_meant}
use Rattle.proof_lines.specs.declared.line.Line.{Line}
use Rattle.typed_core.specs.Proving.{ElaboratedParts, ProvedParts, ProveAll}
use Rattle.typed_core.specs.declared.goal.GoalAt.{GoalAt}
use Rattle.goal_table.specs.declared.error.GoalError.{GoalError}
use Rattle.goal_table.specs.declared.error.GoalError.TheVariants.{Goal, Memory}
use Rattle.goal_table.specs.Unproved.{answer_to, lines_for, Failure, failure_or, first_unproved, first_unproved_from}
use Rattle.goal_table.specs.Answers.{HasLines, HaveLines, MeantBy, IsFirst, AreShort, Proves, FindsFirst, AllAreProved}

-- ---- one goal

pub meant_by : (goal : GoalAt) (steps seen : List Step) (lines : List Line) → lines ≡ lines_meant goal.ctx.rows steps → seen ≡ steps → length seen ≤ 257026
    → MeantBy goal steps lines
meant_by goal steps seen lines are same short =
    let as_many : length (lines_meant goal.ctx.rows steps) ≡ length steps = length-map steps (line_meant goal.ctx.rows) in
    let long : length lines ≡ length seen = ap length are ∙ as_many ∙ ap length (sym same) in
    record {
      are = are;
      short = subst (λ (n : ℕ). n ≤ 257026) (sym long) short;
    }

-- ---- one goal more

pub one_more : (goals : List GoalAt) (lists : List (List Line)) (goal : GoalAt) (lines : List Line) → HaveLines goals lists → HasLines goal lines
    → HaveLines (goals ++ goal ∷ []) (lists ++ lines ∷ [])
one_more [] [] goal lines have has = (has, tt)
one_more [] (l ∷ ls) goal lines have has = absurd have
one_more (g ∷ gs) [] goal lines have has = absurd have
one_more (g ∷ gs) (l ∷ ls) goal lines have has = (have.0, one_more gs ls goal lines have.1 has)

-- ---- all goals

pub lines_are : (goals : List GoalAt) (lists : List (List Line)) → HaveLines goals lists → lists ≡ map lines_for goals
lines_are [] [] have = refl
lines_are [] (l ∷ ls) have = absurd have
lines_are (g ∷ gs) [] have = absurd have
lines_are (g ∷ gs) (l ∷ ls) have = ap₂ (λ (first : List Line) (rest : List (List Line)). first ∷ rest) have.0.are (lines_are gs ls have.1)

pub lines_prove : (goals : List GoalAt) (lists : List (List Line)) → HaveLines goals lists → ProveAll goals lists
lines_prove [] [] have = tt
lines_prove [] (l ∷ ls) have = absurd have
lines_prove (g ∷ gs) [] have = absurd have
lines_prove (g ∷ gs) (l ∷ ls) have = (have.0.prove, lines_prove gs ls have.1)

pub lines_short : (goals : List GoalAt) (lists : List (List Line)) → HaveLines goals lists → AreShort lists
lines_short [] [] have = All-nil _
lines_short [] (l ∷ ls) have = absurd have
lines_short (g ∷ gs) [] have = absurd have
lines_short (g ∷ gs) (l ∷ ls) have = All-cons (λ (lines : List Line). length lines ≤ 257026) l ls have.0.short (lines_short gs ls have.1)

-- a goal that is proved is passed over
passed : (number : ℕ) (goal : GoalAt) (later : Option Failure) → answer_to goal ≡ Proved → failure_or number goal (answer_to goal) later ≡ later
passed number goal later is = ap (λ (answer : Answer). failure_or number goal answer later) is

pub none_unproved : (number : ℕ) (goals : List GoalAt) (lists : List (List Line)) → HaveLines goals lists → first_unproved_from number goals ≡ None
unfolding first_unproved_from
none_unproved number [] [] have = refl
none_unproved number [] (l ∷ ls) have = absurd have
none_unproved number (g ∷ gs) [] have = absurd have
none_unproved number (g ∷ gs) (l ∷ ls) have =
    passed number g (first_unproved_from (suc number) gs) have.0.answer ∙ none_unproved (suc number) gs ls have.1

-- ---- the walk

pub passed_over : (number : ℕ) (goal : GoalAt) (behind : List GoalAt) (lines : List Line) → HasLines goal lines
    → first_unproved_from number (goal ∷ behind) ≡ first_unproved_from (suc number) behind
unfolding first_unproved_from
passed_over number goal behind lines has = passed number goal (first_unproved_from (suc number) behind) has.answer

pub stops_here : (number : ℕ) (goal : GoalAt) (behind : List GoalAt) (failed : Failure) → IsFirst number goal failed
    → first_unproved_from number (goal ∷ behind) ≡ Some failed
unfolding first_unproved_from
stops_here number goal behind failed first = first (first_unproved_from (suc number) behind)

-- the walk stops at the goal of this number, which is not proved
pub found_here : (goals : List GoalAt) (number : ℕ) (goal : GoalAt) (error : GoalError) → number < length goals → goal ≡ get_or goals number goal
    → first_unproved_from number (drop number goals) ≡ first_unproved goals → Proves number goal (Err error) → FindsFirst goals (Err error)
found_here goals number goal Memory few is so_far proves = tt
found_here goals number goal (Goal n at row answer) few is so_far proves =
    let behind : drop number goals ≡ goal ∷ drop (number + 1) goals = drop_more goals number goal few ∙ ap (λ (g : GoalAt). g ∷ drop (number + 1) goals) (sym is) in
    sym so_far ∙ ap (first_unproved_from number) behind ∙ stops_here number goal (drop (number + 1) goals) _ proves

-- the goals up to this one have their lines, and the walk goes on behind it
pub one_passed : (goals : List GoalAt) (number : ℕ) (goal : GoalAt) (lists : List (List Line)) (lines : List Line) → number < length goals
    → goal ≡ get_or goals number goal → HaveLines (take number goals) lists → HasLines goal lines → HaveLines (take (number + 1) goals) (lists ++ lines ∷ [])
one_passed goals number goal lists lines few is have has =
    let front : take (number + 1) goals ≡ take number goals ++ goal ∷ [] = take_more goals number goal few ∙ ap (λ (g : GoalAt). take number goals ++ g ∷ []) (sym is) in
    subst (λ (front : List GoalAt). HaveLines front (lists ++ lines ∷ [])) (sym front) (one_more (take number goals) lists goal lines have has)

pub first_behind : (goals : List GoalAt) (number : ℕ) (goal : GoalAt) (lines : List Line) → number < length goals → goal ≡ get_or goals number goal
    → first_unproved_from number (drop number goals) ≡ first_unproved goals → HasLines goal lines
    → first_unproved_from (number + 1) (drop (number + 1) goals) ≡ first_unproved goals
first_behind goals number goal lines few is so_far has =
    let behind : drop number goals ≡ goal ∷ drop (number + 1) goals = drop_more goals number goal few ∙ ap (λ (g : GoalAt). g ∷ drop (number + 1) goals) (sym is) in
    let next : number + 1 ≡ suc number = omega arith in
    ap (λ (n : ℕ). first_unproved_from n (drop (number + 1) goals)) next ∙ sym (ap (first_unproved_from number) behind ∙ passed_over number goal (drop (number + 1) goals) lines has) ∙ so_far

abbrev parts_of : ElaboratedParts → List (List Line) → ProvedParts
parts_of base lists = record { base = base; lines = lists }

pub all_proved : (base : ElaboratedParts) (proved : ProvedParts) (lists : List (List Line)) → proved ≡ record { base = base; lines = lists }
    → HaveLines base.made.goals lists → AllAreProved base proved
all_proved base proved lists is have = record {
  none = none_unproved 0 base.made.goals lists have;
  is = is ∙ ap (λ (lists : List (List Line)). parts_of base lists) (lines_are base.made.goals lists have);
}
