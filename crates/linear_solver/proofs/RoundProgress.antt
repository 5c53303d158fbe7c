-- How far the rounds have come.
use Rattle.std.proofs.Common.{◌≡◌, ℕ, zero, suc, ◌+◌, ◌-◌, ◌<◌, ◌≤◌, List, [], Result, Ok, Err, refl, sym, ◌∙◌, ap, subst, arith}
use Rattle.linear_solver.specs.declared.answer.Answer.{Answer}
use Rattle.solver_rows.specs.declared.step.Step.{Step}
use Rattle.xan_lin.specs.declared.term.LimitKind.{LimitKind}
use Rattle.linear_solver.specs.declared.choose.Look.{Look}
use Rattle.linear_solver.specs.declared.choose.Look.TheVariants.{Full, Refuted, Spent, Take}
use Rattle.solver_rows.specs.SystemRows.{Row}
use Rattle.linear_solver.specs.Systems.{next_rows}
use Rattle.linear_solver.specs.Choosing.{look_at}
use Rattle.linear_solver.specs.Numbering.{System, numbered}
use Rattle.linear_solver.specs.Elimination.{ended, after_look, after_rows, rounds}
use Rattle.linear_solver.specs.Reducing.{Gives}
use Rattle.linear_solver.specs.Solving.{Answers}

no_round : (vars : List ℕ) (steps : List Step) (rows : List Row) → rounds 0 vars steps rows ≡ ended steps (look_at vars rows)
unfolding rounds
no_round vars steps rows = refl

-- one round, and then so many more
goes : ℕ → List ℕ → List Step → List Row → ℕ → Result (List Step) Answer
goes more vars steps rows var =
    after_rows (next_rows var rows) (λ made. rounds more vars (numbered steps [] made).steps (numbered steps [] made).rows)

one_round : (more : ℕ) (vars : List ℕ) (steps : List Step) (rows : List Row)
    → rounds (suc more) vars steps rows ≡ after_look steps (look_at vars rows) (goes more vars steps rows)
unfolding rounds goes
one_round more vars steps rows = refl

goes_is : (more : ℕ) (vars : List ℕ) (steps : List Step) (rows : List Row) (var : ℕ) → goes more vars steps rows var
    ≡ after_rows (next_rows var rows) (λ made. rounds more vars (numbered steps [] made).steps (numbered steps [] made).rows)
unfolding goes
goes_is more vars steps rows var = refl

not_taken : (steps : List Step) (look : Look) (f : ℕ → Result (List Step) Answer) → ((v : ℕ) → look ≡ Take v → ⊥) → after_look steps look f ≡ ended steps look
not_taken steps Full f h = refl
not_taken steps (Refuted line) f h = refl
not_taken steps Spent f h = refl
not_taken steps (Take v) f h = absurd (h v refl)

ends : (n : ℕ) (vars : List ℕ) (steps : List Step) (rows : List Row) → ((v : ℕ) → look_at vars rows ≡ Take v → ⊥) → rounds n vars steps rows ≡ ended steps (look_at vars rows)
ends zero vars steps rows h = no_round vars steps rows
ends (suc n) vars steps rows h = one_round n vars steps rows ∙ not_taken steps (look_at vars rows) (goes n vars steps rows) h

-- a look that takes no variable ends the elimination
pub rounds_end : (n : ℕ) (vars : List ℕ) (steps after : List Step) (rows seen : List Row) (look other : Look) (result : Result Answer LimitKind) (whole : Result (List Step) Answer)
    → rounds n vars steps rows ≡ whole → seen ≡ rows → look ≡ look_at vars seen → other ≡ look → ((v : ℕ) → look ≡ Take v → ⊥) → Answers result after (ended steps other)
    → Answers result after whole
rounds_end n vars steps after rows seen look other result whole e same is other_is h a =
    let found : look ≡ look_at vars rows = is ∙ ap (λ rs. look_at vars rs) same in
    subst (λ (w : Result (List Step) Answer). Answers result after w)
    (ap (λ l. ended steps l) (other_is ∙ found) ∙ sym (ends n vars steps rows (λ v f. h v (found ∙ f))) ∙ e) a

-- the last look
pub rounds_last : (at : ℕ) (vars : List ℕ) (steps after : List Step) (rows seen : List Row) (look : Look) (result : Result Answer LimitKind) (whole : Result (List Step) Answer)
    → rounds (64 - at) vars steps rows ≡ whole → 64 ≤ at → seen ≡ rows → look ≡ look_at vars seen → Answers result after (ended steps look) → Answers result after whole
rounds_last at vars steps after rows seen look result whole e h same is a =
    let none : 64 - at ≡ 0 = omega arith in
    subst (λ (w : Result (List Step) Answer). Answers result after w)
    (ap (λ l. ended steps l) (is ∙ ap (λ rs. look_at vars rs) same) ∙ sym (no_round vars steps rows) ∙ ap (λ n. rounds n vars steps rows) (sym none) ∙ e) a

takes : (at : ℕ) (vars : List ℕ) (steps : List Step) (rows seen : List Row) (look : Look) (var : ℕ) (whole : Result (List Step) Answer)
    → rounds (64 - at) vars steps rows ≡ whole → at < 64 → seen ≡ rows → look ≡ look_at vars seen → look ≡ Take var
    → goes (64 - (at + 1)) vars steps rows var ≡ whole
takes at vars steps rows seen look var whole e h same is take =
    let next : 64 - at ≡ suc (64 - (at + 1)) = omega arith in
    let found : look_at vars rows ≡ Take var = ap (λ rs. look_at vars rs) (sym same) ∙ sym is ∙ take in
    sym (one_round (64 - (at + 1)) vars steps rows ∙ ap (λ l. after_look steps l (goes (64 - (at + 1)) vars steps rows)) found)
    ∙ ap (λ n. rounds n vars steps rows) (sym next) ∙ e

fails_with : (more : ℕ) (vars : List ℕ) (steps after : List Step) (rows made : List Row) (var : ℕ) (why : LimitKind) (whole : Result (List Step) Answer)
    → goes more vars steps rows var ≡ whole → Gives (Err why) made (next_rows var rows) → Answers (Err why) after whole
unfolding goes
fails_with more vars steps after rows made var why whole e g = sym e ∙ ap (λ r. after_rows r (λ made. rounds more vars (numbered steps [] made).steps (numbered steps [] made).rows)) g

pub rounds_fail : (at : ℕ) (vars : List ℕ) (steps after : List Step) (rows seen seen_too made : List Row) (look : Look) (var : ℕ) (why : LimitKind) (whole : Result (List Step) Answer)
    → rounds (64 - at) vars steps rows ≡ whole → at < 64 → seen ≡ rows → look ≡ look_at vars seen → look ≡ Take var → seen_too ≡ rows
    → Gives (Err why) made (next_rows var seen_too) → Answers (Err why) after whole
rounds_fail at vars steps after rows seen seen_too made look var why whole e h same is take same_too g =
    fails_with (64 - (at + 1)) vars steps after rows made var why whole (takes at vars steps rows seen look var whole e h same is take)
    (subst (λ (rs : List Row). Gives (Err why) made (next_rows var rs)) same_too g)

pub rounds_more : (at : ℕ) (vars : List ℕ) (steps new : List Step) (rows seen seen_too made read done : List Row) (look : Look) (var : ℕ) (whole : Result (List Step) Answer)
    → rounds (64 - at) vars steps rows ≡ whole → at < 64 → seen ≡ rows → look ≡ look_at vars seen → look ≡ Take var → seen_too ≡ rows
    → next_rows var seen_too ≡ Ok made → read ≡ made → (let s : System = record { steps = new; rows = done } in numbered steps [] read ≡ s)
    → rounds (64 - (at + 1)) vars new done ≡ whole
unfolding goes
rounds_more at vars steps new rows seen seen_too made read done look var whole e h same is take same_too g read_is n =
    let more = 64 - (at + 1) in
    let all : numbered steps [] made ≡ (let s : System = record { steps = new; rows = done } in s) = ap (λ rs. numbered steps [] rs) (sym read_is) ∙ n in
    sym (ap (λ r. after_rows r (λ made. rounds more vars (numbered steps [] made).steps (numbered steps [] made).rows)) (ap (λ rs. next_rows var rs) (sym same_too) ∙ g)
    ∙ ap (λ s. rounds more vars s.steps s.rows) all)
    ∙ takes at vars steps rows seen look var whole e h same is take
