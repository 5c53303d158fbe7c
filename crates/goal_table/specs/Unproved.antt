-- The goals of a program as the elimination answers them: the first that is not proved, and the lines of those that are.
use Rattle.std.specs.Prelude.{ℕ, suc, List, [], ◌∷◌, Option, Some, None}
use Rattle.xan_lin.specs.Linear.{Linear}
use Rattle.proof_lines.specs.declared.line.Line.{Line}
use Rattle.linear_solver.specs.Elimination.{elimination, proof_steps}
use Rattle.linear_solver.specs.Meaning.{lines_meant}
use Rattle.linear_solver.specs.declared.answer.Answer.{Answer}
use Rattle.linear_solver.specs.declared.answer.Answer.TheVariants.{Proved, Unproved, Limit}
use Rattle.typed_core.specs.declared.goal.GoalAt.{GoalAt}

-- what the elimination answers to a goal from the rows of its context
abbrev pub answer_to : GoalAt → Answer
answer_to goal = elimination goal.ctx.rows goal.row

-- the lines that its steps mean
abbrev pub lines_for : GoalAt → List Line
lines_for goal = lines_meant goal.ctx.rows (proof_steps goal.ctx.rows goal.row)

-- a goal that is not proved: how many stand before it, where it is reported, its row, and the answer
pub record Failure : Type 0 where
  pub number : ℕ
  pub at : ℕ
  pub row : Linear
  pub answer : Answer

abbrev pub failure : ℕ → GoalAt → Answer → Failure
failure number goal answer = record { number = number; at = goal.at; row = goal.row; answer = answer }

-- the failure of the goal of this number, or else what comes of those behind it
abbrev pub failure_or : ℕ → GoalAt → Answer → Option Failure → Option Failure
failure_or number goal Proved later = later
failure_or number goal Unproved later = Some (failure number goal Unproved)
failure_or number goal (Limit kind) later = Some (failure number goal (Limit kind))

-- the first that is not proved, where so many goals stand before
unfoldable pub first_unproved_from : ℕ → List GoalAt → Option Failure
first_unproved_from number [] = None
first_unproved_from number (goal ∷ goals) = failure_or number goal (answer_to goal) (first_unproved_from (suc number) goals)

abbrev pub first_unproved : List GoalAt → Option Failure
first_unproved goals = first_unproved_from 0 goals
