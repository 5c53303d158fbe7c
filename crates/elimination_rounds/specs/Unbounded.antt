-- The elimination without a bound on its rounds: what comes of a system, and of hypotheses and a goal.
use Rattle.std.specs.Prelude.{◌≡◌, ℕ, List, [], length, nat_lt, Bool, true, false, Result, Ok, Err}
use Rattle.xan_lin.specs.Linear.{Linear, negated_row_of}
use Rattle.xan_lin.specs.declared.term.LimitKind.{LimitKind}
use Rattle.xan_lin.specs.declared.term.LimitKind.TheVariants as limit
use Rattle.xan_lin.specs.declared.term.TooLarge.{TooLarge}
use Rattle.linear_solver.specs.declared.answer.Answer.{Answer}
use Rattle.linear_solver.specs.declared.answer.Answer.TheVariants.{Unproved, Limit}
use Rattle.solver_rows.specs.declared.step.Step.{Step}
use Rattle.solver_rows.specs.SystemRows.{Row}
use Rattle.linear_solver.specs.Systems.{limited, next_rows}
use Rattle.linear_solver.specs.declared.choose.Look.TheVariants.{Refuted, Spent, Take}
use Rattle.linear_solver.specs.Choosing.{look_at}
use Rattle.linear_solver.specs.Numbering.{numbered}
use Rattle.linear_solver.specs.Tracing.{traced}
use Rattle.linear_solver.specs.Cone.{cone}
use Rattle.linear_solver.specs.Elimination.{first_rows}

-- what a look at a system shows: its first row that cannot hold, that no variable is left, or the variable that is taken next
abbrev pub Refutes : List ℕ → List Row → ℕ → Type 0
Refutes vars rows line = look_at vars rows ≡ Refuted line

abbrev pub IsSpent : List ℕ → List Row → Type 0
IsSpent vars rows = look_at vars rows ≡ Spent

abbrev pub Takes : List ℕ → List Row → ℕ → Type 0
Takes vars rows var = look_at vars rows ≡ Take var

-- what comes of the steps and rows so far, in as many rounds as it takes: a look ends it, a next system passes a limit, or it goes on from one
pub data Comes (vars : List ℕ) : List Step → List Row → Result (List Step) Answer → Type 0 where
  overfull : (steps : List Step) (rows : List Row) → limited rows ≡ Err limit.System → Comes vars steps rows (Err (Limit limit.System))
  refuted : (steps : List Step) (rows : List Row) (line : ℕ) → Refutes vars rows line → Comes vars steps rows (Ok (traced steps line))
  exhausted : (steps : List Step) (rows : List Row) → IsSpent vars rows → Comes vars steps rows (Err Unproved)
  too_large : (steps : List Step) (rows : List Row) (var : ℕ) (kind : LimitKind) → Takes vars rows var → next_rows var rows ≡ Err kind
      → Comes vars steps rows (Err (Limit kind))
  goes_on : (steps : List Step) (rows made : List Row) (var : ℕ) (answer : Result (List Step) Answer) → Takes vars rows var → next_rows var rows ≡ Ok made
      → Comes vars (numbered steps [] made).steps (numbered steps [] made).rows answer → Comes vars steps rows answer

-- from the first system, unless more than 64 variables bear on the goal
abbrev pub ComesUnless : Bool → List ℕ → List Linear → Linear → Result (List Step) Answer → Type 0
ComesUnless true vars hyps start answer = answer ≡ Err (Limit limit.Cone)
ComesUnless false vars hyps start answer = Comes vars (numbered [] [] (first_rows vars hyps start)).steps (numbered [] [] (first_rows vars hyps start)).rows answer

abbrev pub ComesFrom : List Linear → Result Linear TooLarge → Result (List Step) Answer → Type 0
ComesFrom hyps (Err large) answer = answer ≡ Err (Limit limit.Magnitude)
ComesFrom hyps (Ok start) answer = ComesUnless (nat_lt 64 (length (cone hyps start))) (cone hyps start) hyps start answer

-- what the elimination of the hypotheses and the opposite of the goal comes to
abbrev pub IsAnswer : List Linear → Linear → Result (List Step) Answer → Type 0
IsAnswer hyps goal answer = ComesFrom hyps (negated_row_of goal) answer
