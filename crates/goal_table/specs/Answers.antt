-- What the answers of the code say of the goals.
use Rattle.std.specs.Prelude.{◌≡◌, ◌≤◌, ℕ, List, length, map, Option, Some, None, Result, Ok, Err}
use Rattle.std.specs.List.{All, AllZip}
use Rattle.proof_lines.specs.declared.line.Line.{Line}
use Rattle.linear_solver.specs.Meaning.{lines_meant}
use Rattle.linear_solver.specs.declared.answer.Answer.{Answer}
use Rattle.linear_solver.specs.declared.answer.Answer.TheVariants.{Proved}
use Rattle.solver_rows.specs.declared.step.Step.{Step}
use Rattle.typed_core.specs.Proving.{ElaboratedParts, ProvedParts, ProveGoal}
use Rattle.typed_core.specs.declared.goal.GoalAt.{GoalAt}
use Rattle.goal_table.specs.declared.error.GoalError.{GoalError}
use Rattle.goal_table.specs.declared.error.GoalError.TheVariants.{Goal, Memory}
use Rattle.goal_table.specs.Unproved.{answer_to, lines_for, Failure, failure, failure_or, first_unproved}

-- ---- the whole

-- no goal is unproved, and the lines are those of the elimination
pub record AllAreProved (base : ElaboratedParts) (proved : ProvedParts) : Type 0 where
  pub none : first_unproved base.made.goals ≡ None
  pub is : proved ≡ record { base = base; lines = map lines_for base.made.goals }

-- the program with its lines where all goals are proved, else the first that is not
abbrev pub Decides : ElaboratedParts → Result ProvedParts GoalError → Type 0
Decides base (Ok proved) = AllAreProved base proved
Decides base (Err (Goal number at row answer)) =
    first_unproved base.made.goals ≡ Some (record { number = number; at = at; row = row; answer = answer })
Decides base (Err Memory) = Unit {0}

-- lists of lines that a buffer can hold
abbrev pub AreShort : List (List Line) → Type 0
AreShort lists = All (λ lines. length lines ≤ 257026) lists

-- ---- the walk

-- a goal with the lines that prove it
pub record HasLines (goal : GoalAt) (lines : List Line) : Type 0 where
  pub answer : answer_to goal ≡ Proved
  pub are : lines ≡ lines_for goal
  pub prove : ProveGoal goal lines
  pub short : length lines ≤ 257026

abbrev pub HaveLines : List GoalAt → List (List Line) → Type 0
HaveLines goals lists = AllZip HasLines goals lists

-- whatever comes of the goals behind it, the goal of this number is the first that is not proved
abbrev pub IsFirst : ℕ → GoalAt → Failure → Type 0
IsFirst number goal failed = (later : Option Failure) → failure_or number goal (answer_to goal) later ≡ Some failed

-- the lines of one goal, before which so many stand
abbrev pub Proves : ℕ → GoalAt → Result (List Line) GoalError → Type 0
Proves number goal (Ok lines) = HasLines goal lines
Proves number goal (Err (Goal n at row answer)) = IsFirst number goal (record { number = n; at = at; row = row; answer = answer })
Proves number goal (Err Memory) = Unit {0}

-- the lines of all goals, or the first goal that is not proved
abbrev pub FindsFirst : List GoalAt → Result (List (List Line)) GoalError → Type 0
FindsFirst goals (Ok lists) = HaveLines goals lists
FindsFirst goals (Err (Goal number at row answer)) =
    first_unproved goals ≡ Some (record { number = number; at = at; row = row; answer = answer })
FindsFirst goals (Err Memory) = Unit {0}

-- the lines that the steps of a buffer mean
pub record MeantBy (goal : GoalAt) (steps : List Step) (lines : List Line) : Type 0 where
  pub are : lines ≡ lines_meant goal.ctx.rows steps
  pub short : length lines ≤ 257026

abbrev pub MeansLines : GoalAt → List Step → Result (List Line) GoalError → Type 0
MeansLines goal steps (Ok lines) = MeantBy goal steps lines
MeansLines goal steps (Err (Goal number at row answer)) = ⊥
MeansLines goal steps (Err Memory) = Unit {0}

-- what is said of a goal with this answer
abbrev pub Tells : ℕ → GoalAt → Answer → GoalError → Type 0
Tells number goal answer (Goal n at row why) = failure number goal answer ≡ record { number = n; at = at; row = row; answer = why }
Tells number goal answer Memory = Unit {0}
