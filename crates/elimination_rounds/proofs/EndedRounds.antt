-- The rounds end by themselves, so that their bound changes nothing.
use Rattle.std.proofs.Common.{◌≡◌, ℕ, zero, suc, ◌≤◌, Bool, true, false, cond, nat_lt, List, [], ◌∷◌, length, All, Result, Ok, Err, refl, sym, ◌∙◌, ap, subst, arith}
use Rattle.xan_lin.specs.Terms.{IsRising}
use Rattle.xan_lin.specs.Linear.{Linear, IsForm, negated_row_of}
use Rattle.xan_lin.specs.declared.term.LimitKind.{LimitKind}
use Rattle.xan_lin.specs.declared.term.LimitKind.TheVariants as limit
use Rattle.xan_lin.specs.declared.term.TooLarge.{TooLarge}
use Rattle.xan_lin.proofs.Booleans.{is_not_less}
use Rattle.xan_lin.proofs.TermSums.{IsRising-negated}
use Rattle.proof_lines.proofs.Opposites.{opposite_is}
use Rattle.linear_solver.specs.declared.answer.Answer.{Answer}
use Rattle.linear_solver.specs.declared.answer.Answer.TheVariants.{Unproved, Limit}
use Rattle.solver_rows.specs.declared.step.Step.{Step}
use Rattle.solver_rows.specs.SystemRows.{Row, tight}
use Rattle.linear_solver.specs.Systems.{settle, limited, next_rows}
use Rattle.linear_solver.specs.Choosing.{look_at}
use Rattle.linear_solver.specs.Numbering.{numbered}
use Rattle.linear_solver.specs.Tracing.{traced}
use Rattle.linear_solver.specs.Cone.{cone}
use Rattle.linear_solver.specs.Elimination.{ended, after_look, after_rows, rounds, bears, with_hyps, first_rows, in_cone, from_start, refutation}
use Rattle.elimination_rounds.specs.Unbounded.{Refutes, IsSpent, Takes, Comes, overfull, refuted, exhausted, too_large, goes_on, ComesUnless, ComesFrom, IsAnswer}
use Rattle.elimination_rounds.proofs.ZeroCoefficients.{rising-cut}
use Rattle.elimination_rounds.proofs.RoundRows.{numbered-all, tight-all, settle-all}
use Rattle.elimination_rounds.proofs.VariablesLeft.{AreRising, left, left-most, next-rising, fewer-next, none-taken, left-numbered}
use Rattle.elimination_rounds.proofs.ShownLooks.{full-after, full-ended, Shown, shows_full, shows_refuted, shows_spent, shows_taken, shown, takes-taken}

-- ---- the bounded rounds

goes : ℕ → List ℕ → List Step → List Row → ℕ → Result (List Step) Answer
goes n vars steps rows var = after_rows (next_rows var rows) (λ made. rounds n vars (numbered steps [] made).steps (numbered steps [] made).rows)

no_more : (vars : List ℕ) (steps : List Step) (rows : List Row) → rounds 0 vars steps rows ≡ ended steps (look_at vars rows)
unfolding rounds
no_more vars steps rows = refl

one_more : (n : ℕ) (vars : List ℕ) (steps : List Step) (rows : List Row) → rounds (suc n) vars steps rows ≡ after_look steps (look_at vars rows) (goes n vars steps rows)
unfolding rounds goes
one_more n vars steps rows = refl

-- fewer variables are left in the next system than rounds before this one
next-left : (n : ℕ) (vars : List ℕ) (steps : List Step) (rows made : List Row) (var : ℕ) → AreRising rows → left vars rows ≤ suc n → Takes vars rows var
    → next_rows var rows ≡ Ok made → left vars (numbered steps [] made).rows ≤ n
next-left n vars steps rows made var a h t e =
    let fewer = fewer-next vars var rows made a (takes-taken vars rows var t) e in
    let same = left-numbered vars steps made in
    omega (arith, fewer, same, h)

numbered-rising : (steps : List Step) (rows made : List Row) (var : ℕ) → AreRising rows → next_rows var rows ≡ Ok made → AreRising (numbered steps [] made).rows
numbered-rising steps rows made var a e = numbered-all (IsRising 0) steps [] made tt (next-rising var rows made a e)

-- with no variable left, none is taken
not_taken : (vars : List ℕ) (rows : List Row) (var : ℕ) → left vars rows ≤ 0 → Takes vars rows var → ⊥
not_taken vars rows var h t = let some = none-taken vars var rows (takes-taken vars rows var t) in omega (arith, some, h)

full-rounds : (n : ℕ) (vars : List ℕ) (steps : List Step) (rows : List Row) → limited rows ≡ Err limit.System → rounds n vars steps rows ≡ Err (Limit limit.System)
full-rounds zero vars steps rows e = no_more vars steps rows ∙ full-ended vars steps rows e
full-rounds (suc n) vars steps rows e = one_more n vars steps rows ∙ full-after vars steps rows (goes n vars steps rows) e

refuted-rounds : (n : ℕ) (vars : List ℕ) (steps : List Step) (rows : List Row) (line : ℕ) → Refutes vars rows line → rounds n vars steps rows ≡ Ok (traced steps line)
refuted-rounds zero vars steps rows line e = no_more vars steps rows ∙ ap (λ l. ended steps l) e
refuted-rounds (suc n) vars steps rows line e = one_more n vars steps rows ∙ ap (λ l. after_look steps l (goes n vars steps rows)) e

spent-rounds : (n : ℕ) (vars : List ℕ) (steps : List Step) (rows : List Row) → IsSpent vars rows → rounds n vars steps rows ≡ Err Unproved
spent-rounds zero vars steps rows e = no_more vars steps rows ∙ ap (λ l. ended steps l) e
spent-rounds (suc n) vars steps rows e = one_more n vars steps rows ∙ ap (λ l. after_look steps l (goes n vars steps rows)) e

taken-rounds : (n : ℕ) (vars : List ℕ) (steps : List Step) (rows : List Row) (var : ℕ) (r : Result (List Row) LimitKind) → Takes vars rows var → next_rows var rows ≡ r
    → rounds (suc n) vars steps rows ≡ after_rows r (λ made. rounds n vars (numbered steps [] made).steps (numbered steps [] made).rows)
unfolding goes
taken-rounds n vars steps rows var r t e =
    one_more n vars steps rows ∙ ap (λ l. after_look steps l (goes n vars steps rows)) t
    ∙ ap (λ s. after_rows s (λ made. rounds n vars (numbered steps [] made).steps (numbered steps [] made).rows)) e

-- ---- they come to what comes without a bound

as_is : (vars : List ℕ) (steps : List Step) (rows : List Row) (one other : Result (List Step) Answer) → other ≡ one → Comes vars steps rows one → Comes vars steps rows other
as_is vars steps rows one other e c = subst (λ (r : Result (List Step) Answer). Comes vars steps rows r) (sym e) c

pub rounds-come : (n : ℕ) (vars : List ℕ) (steps : List Step) (rows : List Row) → AreRising rows → left vars rows ≤ n → Comes vars steps rows (rounds n vars steps rows)
rounds-come zero vars steps rows a h = go (shown vars rows)
  where
    go : Shown vars rows → Comes vars steps rows (rounds 0 vars steps rows)
    go (shows_full e) = as_is vars steps rows (Err (Limit limit.System)) (rounds 0 vars steps rows) (full-rounds 0 vars steps rows e) (overfull steps rows e)
    go (shows_refuted line e) = as_is vars steps rows (Ok (traced steps line)) (rounds 0 vars steps rows) (refuted-rounds 0 vars steps rows line e) (refuted steps rows line e)
    go (shows_spent e) = as_is vars steps rows (Err Unproved) (rounds 0 vars steps rows) (spent-rounds 0 vars steps rows e) (exhausted steps rows e)
    go (shows_taken var t k) = absurd (not_taken vars rows var h t)
rounds-come (suc n) vars steps rows a h =
    go (shown vars rows) (λ made. rounds-come n vars (numbered steps [] made).steps (numbered steps [] made).rows)
  where
    next : (var : ℕ) (r : Result (List Row) LimitKind) → Takes vars rows var → next_rows var rows ≡ r
        → ((made : List Row) → AreRising (numbered steps [] made).rows → left vars (numbered steps [] made).rows ≤ n
        → Comes vars (numbered steps [] made).steps (numbered steps [] made).rows (rounds n vars (numbered steps [] made).steps (numbered steps [] made).rows))
        → Comes vars steps rows (rounds (suc n) vars steps rows)
    next var (Err kind) t e later =
        as_is vars steps rows (Err (Limit kind)) (rounds (suc n) vars steps rows) (taken-rounds n vars steps rows var (Err kind) t e) (too_large steps rows var kind t e)
    next var (Ok made) t e later =
        as_is vars steps rows (rounds n vars (numbered steps [] made).steps (numbered steps [] made).rows) (rounds (suc n) vars steps rows)
        (taken-rounds n vars steps rows var (Ok made) t e)
        (goes_on steps rows made var (rounds n vars (numbered steps [] made).steps (numbered steps [] made).rows) t e
        (later made (numbered-rising steps rows made var a e) (next-left n vars steps rows made var a h t e)))

    go : Shown vars rows
        → ((made : List Row) → AreRising (numbered steps [] made).rows → left vars (numbered steps [] made).rows ≤ n
        → Comes vars (numbered steps [] made).steps (numbered steps [] made).rows (rounds n vars (numbered steps [] made).steps (numbered steps [] made).rows))
        → Comes vars steps rows (rounds (suc n) vars steps rows)
    go (shows_full e) later = as_is vars steps rows (Err (Limit limit.System)) (rounds (suc n) vars steps rows) (full-rounds (suc n) vars steps rows e) (overfull steps rows e)
    go (shows_refuted line e) later =
        as_is vars steps rows (Ok (traced steps line)) (rounds (suc n) vars steps rows) (refuted-rounds (suc n) vars steps rows line e) (refuted steps rows line e)
    go (shows_spent e) later = as_is vars steps rows (Err Unproved) (rounds (suc n) vars steps rows) (spent-rounds (suc n) vars steps rows e) (exhausted steps rows e)
    go (shows_taken var t k) later = next var (next_rows var rows) t refl later

-- ---- and nothing else comes

pub comes-only : (vars : List ℕ) (n : ℕ) (steps : List Step) (rows : List Row) (answer : Result (List Step) Answer) → AreRising rows → left vars rows ≤ n
    → Comes vars steps rows answer → answer ≡ rounds n vars steps rows
comes-only vars n steps rows answer a h (overfull _ _ e) = sym (full-rounds n vars steps rows e)
comes-only vars n steps rows answer a h (refuted _ _ line e) = sym (refuted-rounds n vars steps rows line e)
comes-only vars n steps rows answer a h (exhausted _ _ e) = sym (spent-rounds n vars steps rows e)
comes-only vars zero steps rows answer a h (too_large _ _ var kind t e) = absurd (not_taken vars rows var h t)
comes-only vars zero steps rows answer a h (goes_on _ _ made var _ t e c) = absurd (not_taken vars rows var h t)
comes-only vars (suc n) steps rows answer a h (too_large _ _ var kind t e) = sym (taken-rounds n vars steps rows var (Err kind) t e)
comes-only vars (suc n) steps rows answer a h (goes_on _ _ made var _ t e c) =
    comes-only vars n (numbered steps [] made).steps (numbered steps [] made).rows answer (numbered-rising steps rows made var a e) (next-left n vars steps rows made var a h t e) c
    ∙ sym (taken-rounds n vars steps rows var (Ok made) t e)

-- ---- the first system

hyps-rising : (vars : List ℕ) (at : ℕ) (hyps : List Linear) (made : List Row) → All IsForm hyps → AreRising made → AreRising (with_hyps vars at hyps made)
unfolding with_hyps
hyps-rising vars at [] made forms a = a
hyps-rising vars at (row ∷ rows) made forms a = hyps-rising vars (suc at) rows _ (λ k d h. forms (suc k) d (omega arith)) (go _ (bears vars row))
  where
    go : (source : _) (b : Bool) → AreRising (cond b (settle made (tight source row)) made)
    go source true = settle-all (IsRising 0) rising-cut made (tight source row) a (tight-all (IsRising 0) rising-cut source row (forms 0 row (omega arith)).rising)
    go source false = a

first-rising : (vars : List ℕ) (hyps : List Linear) (start : Linear) → All IsForm hyps → IsRising 0 start.terms → AreRising (first_rows vars hyps start)
unfolding first_rows
first-rising vars hyps start forms r =
    settle-all (IsRising 0) rising-cut (with_hyps vars 0 hyps []) _ (hyps-rising vars 0 hyps [] forms tt) (tight-all (IsRising 0) rising-cut _ start r)

-- ---- the whole

module _ (hyps : List Linear) (start : Linear) (forms : All IsForm hyps) (rising : IsRising 0 start.terms) where
  began : (vars : List ℕ) → AreRising (numbered [] [] (first_rows vars hyps start)).rows
  began vars = numbered-all (IsRising 0) [] [] (first_rows vars hyps start) tt (first-rising vars hyps start forms rising)

  enough : (vars : List ℕ) → nat_lt 64 (length vars) ≡ false → left vars (numbered [] [] (first_rows vars hyps start)).rows ≤ 64
  enough vars e =
      let few = is_not_less 64 (length vars) e in
      let most = left-most vars (numbered [] [] (first_rows vars hyps start)).rows in
      omega (arith, few, most)

  cone-comes : (vars : List ℕ) → ComesUnless (nat_lt 64 (length vars)) vars hyps start (in_cone vars hyps start)
  cone-comes vars = go (nat_lt 64 (length vars)) refl
    where
      go : (b : Bool) → nat_lt 64 (length vars) ≡ b → ComesUnless b vars hyps start
          (cond b (Err (Limit limit.Cone)) (rounds 64 vars (numbered [] [] (first_rows vars hyps start)).steps (numbered [] [] (first_rows vars hyps start)).rows))
      go true e = refl
      go false e =
          rounds-come 64 vars (numbered [] [] (first_rows vars hyps start)).steps (numbered [] [] (first_rows vars hyps start)).rows (began vars) (enough vars e)

  cone-only : (vars : List ℕ) (answer : Result (List Step) Answer) → ComesUnless (nat_lt 64 (length vars)) vars hyps start answer → answer ≡ in_cone vars hyps start
  cone-only vars answer c = go (nat_lt 64 (length vars)) refl c
    where
      go : (b : Bool) → nat_lt 64 (length vars) ≡ b → ComesUnless b vars hyps start answer → answer
          ≡ cond b (Err (Limit limit.Cone)) (rounds 64 vars (numbered [] [] (first_rows vars hyps start)).steps (numbered [] [] (first_rows vars hyps start)).rows)
      go true e d = d
      go false e d =
          comes-only vars 64 (numbered [] [] (first_rows vars hyps start)).steps (numbered [] [] (first_rows vars hyps start)).rows answer (began vars) (enough vars e) d

start-rising : (goal start : Linear) → IsForm goal → negated_row_of goal ≡ Ok start → IsRising 0 start.terms
start-rising goal start form e = subst (λ (r : Linear). IsRising 0 r.terms) (opposite_is goal start e) (IsRising-negated 0 goal.terms form.rising)

pub refutation-comes : (hyps : List Linear) (goal : Linear) → All IsForm hyps → IsForm goal → IsAnswer hyps goal (refutation hyps goal)
unfolding refutation
refutation-comes hyps goal forms form = go (negated_row_of goal) refl
  where
    go : (r : Result Linear TooLarge) → negated_row_of goal ≡ r → ComesFrom hyps r (from_start hyps r)
    go (Ok start) e = cone-comes hyps start forms (start-rising goal start form e) (cone hyps start)
    go (Err large) e = refl

pub refutation-only : (hyps : List Linear) (goal : Linear) (answer : Result (List Step) Answer) → All IsForm hyps → IsForm goal → IsAnswer hyps goal answer → answer ≡ refutation hyps goal
unfolding refutation
refutation-only hyps goal answer forms form = go (negated_row_of goal) refl
  where
    go : (r : Result Linear TooLarge) → negated_row_of goal ≡ r → ComesFrom hyps r answer → answer ≡ from_start hyps r
    go (Ok start) e c = cone-only hyps start forms (start-rising goal start form e) (cone hyps start) answer c
    go (Err large) e c = c
