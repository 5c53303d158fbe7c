-- What is reported of the goals of a source: a line for each, and the status by the first that is not proved.
use Rattle.std.specs.Prelude.{ℕ, zero, suc, List, [], ◌∷◌}
use Rattle.goal_table.specs.Unproved.{answer_to}
use Rattle.typed_core.specs.declared.goal.GoalAt.{GoalAt}
use Rattle.command_reports.specs.Answers.{found_status, goal_line}

-- the lines of goals, before which so many stand
unfoldable pub goal_lines : ℕ → List GoalAt → List (List ℕ)
goal_lines number [] = []
goal_lines number (goal ∷ goals) = goal_line number goal.at goal.row (answer_to goal) ∷ goal_lines (suc number) goals

-- a status, or where all is well so far, that of what follows
abbrev pub or_later : (status later : ℕ) → ℕ
or_later zero later = later
or_later (suc status) later = suc status

unfoldable pub goals_status : List GoalAt → ℕ
goals_status [] = 0
goals_status (goal ∷ goals) = or_later (found_status (answer_to goal)) (goals_status goals)
