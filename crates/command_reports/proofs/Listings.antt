-- The lines of goals that were put so far, and the status so far.
use Rattle.std.proofs.Common.{◌≡◌, ℕ, zero, suc, ◌+◌, ◌<◌, ◌≤◌, List, [], ◌∷◌, ◌++◌, length, drop, get_or, refl, sym, ap, ◌∙◌, subst, arith, append_assoc, append-nil}
use Rattle.std.specs.Prelude.{Option}
use Rattle.std.specs.List.{concat}
use Rattle.std.specs.Io.KnownBytes.{append_known}
use Rattle.std.proofs.lemmas.List.{drop_more}
use Rattle.xan_io.specs.Written.{AppendsPrefix}
use Rattle.xan_io.proofs.Puts.{append_known-nil, append_known-twice, prefix_behind, prefix_within}
use Rattle.goal_table.specs.Unproved.{answer_to}
use Rattle.typed_core.specs.declared.goal.GoalAt.{GoalAt}
use Rattle.command_reports.specs.Answers.{found_status, goal_line}
use Rattle.command_reports.specs.Goals.{goal_lines, goals_status, or_later}

abbrev line_for : ℕ → GoalAt → List ℕ
line_for number goal = goal_line number goal.at goal.row (answer_to goal)

-- so many lines were put, and this is the status so far
pub record Puts (goals : List GoalAt) (number : ℕ) (out now : Option (List ℕ)) (status : ℕ) : Type 0 where
  pub made : List ℕ
  pub said : now ≡ append_known out made
  pub lines : made ++ concat (goal_lines number (drop number goals)) ≡ concat (goal_lines 0 goals)
  pub first : or_later status (goals_status (drop number goals)) ≡ goals_status goals

pub puts_none : (goals : List GoalAt) (out : Option (List ℕ)) → Puts goals 0 out out 0
puts_none goals out = record { made = []; said = sym (append_known-nil out); lines = refl; first = refl }

or_later_twice : (a b c : ℕ) → or_later (or_later a b) c ≡ or_later a (or_later b c)
or_later_twice zero b c = refl
or_later_twice (suc a) b c = refl

lines_more : (number : ℕ) (goal : GoalAt) (goals : List GoalAt) → concat (goal_lines number (goal ∷ goals)) ≡ line_for number goal ++ concat (goal_lines (suc number) goals)
unfolding goal_lines
lines_more number goal goals = refl

status_more : (goal : GoalAt) (goals : List GoalAt) → goals_status (goal ∷ goals) ≡ or_later (found_status (answer_to goal)) (goals_status goals)
unfolding goals_status
status_more goal goals = refl

lines_none : (number : ℕ) → concat (goal_lines number []) ≡ []
unfolding goal_lines
lines_none number = refl

status_none : goals_status [] ≡ 0
unfolding goals_status
status_none = refl

module _ (goals : List GoalAt) (number : ℕ) (goal : GoalAt) (out now now' : Option (List ℕ)) (status : ℕ) (few : number < length goals)
    (is : goal ≡ get_or goals number goal) (puts : Puts goals number out now status) where
  here : drop number goals ≡ goal ∷ drop (number + 1) goals
  here = drop_more goals number goal few ∙ ap (λ (g : GoalAt). g ∷ drop (number + 1) goals) (sym is)

  next : number + 1 ≡ suc number
  next = omega arith

  lines_here : concat (goal_lines number (drop number goals)) ≡ line_for number goal ++ concat (goal_lines (number + 1) (drop (number + 1) goals))
  lines_here =
      ap (λ (gs : List GoalAt). concat (goal_lines number gs)) here ∙ lines_more number goal (drop (number + 1) goals)
      ∙ ap (λ (n : ℕ). line_for number goal ++ concat (goal_lines n (drop (number + 1) goals))) (sym next)

  lines_all : (puts.made ++ line_for number goal) ++ concat (goal_lines (number + 1) (drop (number + 1) goals)) ≡ concat (goal_lines 0 goals)
  lines_all =
      append_assoc puts.made (line_for number goal) (concat (goal_lines (number + 1) (drop (number + 1) goals)))
      ∙ ap (λ (rest : List ℕ). puts.made ++ rest) (sym lines_here) ∙ puts.lines

  pub puts_one : (next_status status' : ℕ) → next_status ≡ found_status (answer_to goal) → status' ≡ or_later status next_status
      → now' ≡ append_known now (line_for number goal) → Puts goals (number + 1) out now' status'
  puts_one next_status status' found later said = subst (Puts goals (number + 1) out now') (sym (later ∙ ap (or_later status) found)) (record {
    made = puts.made ++ line_for number goal;
    said = said ∙ ap (λ (told : Option (List ℕ)). append_known told (line_for number goal)) puts.said ∙ append_known-twice out puts.made (line_for number goal);
    lines = lines_all;
    first =
        or_later_twice status (found_status (answer_to goal)) (goals_status (drop (number + 1) goals))
        ∙ ap (or_later status) (sym (ap goals_status here ∙ status_more goal (drop (number + 1) goals))) ∙ puts.first;
  })

  pub puts_cut : AppendsPrefix now now' (line_for number goal) → AppendsPrefix out now' (concat (goal_lines 0 goals))
  puts_cut part =
      subst (AppendsPrefix out now') lines_all
      (prefix_within out now' (puts.made ++ line_for number goal) (concat (goal_lines (number + 1) (drop (number + 1) goals)))
      (prefix_behind out now' puts.made (line_for number goal)
      (subst (λ (told : Option (List ℕ)). AppendsPrefix told now' (line_for number goal)) puts.said part)))

-- ---- all goals

dropped : (goals : List GoalAt) (n : ℕ) → length goals ≤ n → drop n goals ≡ []
dropped [] zero le = refl
dropped [] (suc n) le = refl
dropped (g ∷ gs) zero le = absurd (omega (arith, le))
dropped (g ∷ gs) (suc n) le = dropped gs n (omega (arith, le))

or_none : (status : ℕ) → or_later status 0 ≡ status
or_none zero = refl
or_none (suc status) = refl

module _ (goals : List GoalAt) (number : ℕ) (out now : Option (List ℕ)) (status : ℕ) (all : length goals ≤ number) (puts : Puts goals number out now status) where
  pub puts_status : status ≡ goals_status goals
  puts_status =
      sym (ap (λ (gs : List GoalAt). or_later status (goals_status gs)) (dropped goals number all) ∙ ap (or_later status) status_none ∙ or_none status) ∙ puts.first

  pub puts_all : now ≡ append_known out (concat (goal_lines 0 goals))
  puts_all =
      puts.said
      ∙ ap (append_known out)
      (sym (ap (λ (gs : List GoalAt). puts.made ++ concat (goal_lines number gs)) (dropped goals number all)
      ∙ ap (λ (rest : List ℕ). puts.made ++ rest) (lines_none number) ∙ append-nil puts.made) ∙ puts.lines)
