-- The elimination: the steps by which hypotheses and the opposite of a goal are refuted, or why there are none.
use Rattle.std.specs.Prelude.{ℕ, zero, suc, Bool, ◌||◌, List, [], ◌∷◌, length, nat_lt, Result, Ok, Err, if◌then◌else◌}
use Rattle.xan_lin.specs.Linear.{Linear, negated_row_of}
use Rattle.xan_lin.specs.declared.term.LimitKind.{LimitKind}
use Rattle.xan_lin.specs.declared.term.TooLarge.{TooLarge}
use Rattle.xan_lin.specs.declared.term.LimitKind.TheVariants as limit
use Rattle.index_sorts.specs.Known.{no_terms}
use Rattle.linear_solver.specs.declared.answer.Answer.{Answer}
use Rattle.linear_solver.specs.declared.answer.Answer.TheVariants.{Proved, Unproved, Limit}
use Rattle.solver_rows.specs.declared.step.Step.{Step}
use Rattle.solver_rows.specs.declared.step.Step.TheVariants.{Hyp, Goal}
use Rattle.solver_rows.specs.declared.source.Source.TheVariants.{New}
use Rattle.linear_solver.specs.declared.choose.Look.{Look}
use Rattle.linear_solver.specs.declared.choose.Look.TheVariants.{Full, Refuted, Spent, Take}
use Rattle.solver_rows.specs.SystemRows.{Row, tight}
use Rattle.linear_solver.specs.Systems.{settle, next_rows}
use Rattle.linear_solver.specs.Choosing.{look_at}
use Rattle.linear_solver.specs.Numbering.{numbered}
use Rattle.linear_solver.specs.Tracing.{traced}
use Rattle.linear_solver.specs.Cone.{touches, cone}

-- ---- the rounds

-- what ends the elimination at a system
abbrev pub ended : List Step → Look → Result (List Step) Answer
ended steps Full = Err (Limit limit.System)
ended steps (Refuted line) = Ok (traced steps line)
ended steps Spent = Err Unproved
ended steps (Take var) = Err Unproved

-- what comes of a look, where a variable is taken
abbrev pub after_look : List Step → Look → (ℕ → Result (List Step) Answer) → Result (List Step) Answer
after_look steps Full f = ended steps Full
after_look steps (Refuted line) f = ended steps (Refuted line)
after_look steps Spent f = ended steps Spent
after_look steps (Take var) f = f var

abbrev pub after_rows : Result (List Row) LimitKind → (List Row → Result (List Step) Answer) → Result (List Step) Answer
after_rows (Ok rows) f = f rows
after_rows (Err kind) f = Err (Limit kind)

-- at most so many rounds, each of which takes one of the variables away
unfoldable pub rounds : ℕ → List ℕ → List Step → List Row → Result (List Step) Answer
rounds zero vars steps rows = ended steps (look_at vars rows)
rounds (suc more) vars steps rows =
    after_look steps (look_at vars rows) (λ var. after_rows (next_rows var rows) (λ made. rounds more vars (numbered steps [] made).steps (numbered steps [] made).rows))

-- ---- the first system

-- a hypothesis that bears on the goal: one with a variable of the cone, or with no variable
abbrev pub bears : List ℕ → Linear → Bool
bears vars row = no_terms row.terms || touches vars row.terms

-- reduced rows with those of the hypotheses, from number `at` on, that bear on the goal
unfoldable pub with_hyps : List ℕ → ℕ → List Linear → List Row → List Row
with_hyps vars at [] made = made
with_hyps vars at (row ∷ rows) made = with_hyps vars (suc at) rows (if bears vars row then settle made (tight (New (Hyp at)) row) else made)

-- these, and the opposite of the goal
unfoldable pub first_rows : List ℕ → List Linear → Linear → List Row
first_rows vars hyps start = settle (with_hyps vars 0 hyps []) (tight (New Goal) start)

-- ---- the whole

-- at most 64 variables may bear on the goal, so that 64 rounds take all of them
abbrev pub in_cone : List ℕ → List Linear → Linear → Result (List Step) Answer
in_cone vars hyps start =
    if nat_lt 64 (length vars) then Err (Limit limit.Cone)
    else rounds 64 vars (numbered [] [] (first_rows vars hyps start)).steps (numbered [] [] (first_rows vars hyps start)).rows

abbrev pub from_start : List Linear → Result Linear TooLarge → Result (List Step) Answer
from_start hyps (Ok start) = in_cone (cone hyps start) hyps start
from_start hyps (Err large) = Err (Limit limit.Magnitude)

-- the steps of a refutation of the hypotheses and the opposite of the goal, or why there is none
unfoldable pub refutation : List Linear → Linear → Result (List Step) Answer
refutation hyps goal = from_start hyps (negated_row_of goal)

abbrev pub answer_of : Result (List Step) Answer → Answer
answer_of (Ok steps) = Proved
answer_of (Err answer) = answer

abbrev pub steps_of : Result (List Step) Answer → List Step
steps_of (Ok steps) = steps
steps_of (Err answer) = []

-- what comes of the elimination of the hypotheses and the opposite of the goal
abbrev pub elimination : List Linear → Linear → Answer
elimination hyps goal = answer_of (refutation hyps goal)

-- the steps that show it, where the goal is proved
abbrev pub proof_steps : List Linear → Linear → List Step
proof_steps hyps goal = steps_of (refutation hyps goal)
