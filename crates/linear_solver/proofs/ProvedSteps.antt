-- Where the elimination proves a goal, its steps mean lines that prove it.
use Rattle.std.proofs.Common.{◌≡◌, ℕ, zero, suc, ℤ, pos, ◌-ℤ◌, neg_ℤ, Bool, true, false, cond, nat_lt, List, [], length, All, Result, Ok, Err, refl, sym, ◌∙◌, ap, subst}
use Rattle.xan_lin.specs.Terms.{IsRising, negated_terms}
use Rattle.xan_lin.specs.Linear.{Linear, IsForm, are_within, sized, negated_row_of}
use Rattle.xan_lin.specs.declared.term.Term.{Term}
use Rattle.xan_lin.specs.declared.term.LimitKind.{LimitKind}
use Rattle.xan_lin.specs.declared.term.LimitKind.TheVariants as limit
use Rattle.xan_lin.specs.declared.term.TooLarge.{TooLarge}
use Rattle.xan_lin.specs.declared.term.TooLarge.TheVariants.{Terms, Magnitude}
use Rattle.xan_lin.proofs.Booleans.{is_not_less}
use Rattle.xan_lin.proofs.TermSums.{IsRising-negated}
use Rattle.proof_lines.specs.Rows.{opposite_of}
use Rattle.proof_lines.specs.Lines.{LinesProve}
use Rattle.proof_lines.proofs.Opposites.{opposite_is}
use Rattle.linear_solver.specs.declared.answer.Answer.{Answer}
use Rattle.linear_solver.specs.declared.answer.Answer.TheVariants.{Proved, Unproved, Limit}
use Rattle.solver_rows.specs.declared.step.Step.{Step}
use Rattle.linear_solver.specs.declared.choose.Look.{Look}
use Rattle.linear_solver.specs.declared.choose.Look.TheVariants.{Full, Refuted, Spent, Take}
use Rattle.solver_rows.specs.SystemRows.{Row}
use Rattle.linear_solver.specs.Systems.{next_rows}
use Rattle.linear_solver.specs.Choosing.{look_at}
use Rattle.linear_solver.specs.Numbering.{numbered}
use Rattle.linear_solver.specs.Cone.{cone}
use Rattle.linear_solver.specs.Elimination.{ended, after_look, after_rows, rounds, first_rows, in_cone, from_start, refutation, answer_of, steps_of, elimination, proof_steps}
use Rattle.linear_solver.specs.Meaning.{lines_meant}
use Rattle.linear_solver.specs.Solving.{Answers}
use Rattle.linear_solver.proofs.ConeClosure.{cone-closed, cone-start}
use Rattle.linear_solver.proofs.Sourced.{numbers}
use Rattle.linear_solver.proofs.RefutedRounds.{first-sourced, rounds-refute}
use Rattle.linear_solver.proofs.KeptSteps.{traced-proves}

-- ---- a refutation is no answer Proved by itself

ended-never : (steps : List Step) (look : Look) → ended steps look ≡ Err Proved → ⊥
ended-never steps Full e = cc
ended-never steps (Refuted line) e = cc
ended-never steps Spent e = cc
ended-never steps (Take var) e = cc

rounds-never : (n : ℕ) (vars : List ℕ) (steps : List Step) (system : List Row) → rounds n vars steps system ≡ Err Proved → ⊥
unfolding rounds
rounds-never zero vars steps system e = ended-never steps (look_at vars system) e
rounds-never (suc n) vars steps system e =
    go (look_at vars system) e (λ made. rounds-never n vars (numbered steps [] made).steps (numbered steps [] made).rows)
  where
    taken : (r : Result (List Row) LimitKind) → after_rows r (λ made. rounds n vars (numbered steps [] made).steps (numbered steps [] made).rows) ≡ Err Proved
        → ((made : List Row) → rounds n vars (numbered steps [] made).steps (numbered steps [] made).rows ≡ Err Proved → ⊥) → ⊥
    taken (Ok made) f later = later made f
    taken (Err kind) f later = cc

    go : (look : Look) → after_look steps look (λ var. after_rows (next_rows var system) (λ made. rounds n vars (numbered steps [] made).steps (numbered steps [] made).rows)) ≡ Err Proved
        → ((made : List Row) → rounds n vars (numbered steps [] made).steps (numbered steps [] made).rows ≡ Err Proved → ⊥) → ⊥
    go Full f later = ended-never steps Full f
    go (Refuted line) f later = ended-never steps (Refuted line) f
    go Spent f later = ended-never steps Spent f
    go (Take var) f later = taken (next_rows var system) f later

cone-never : (vars : List ℕ) (hyps : List Linear) (start : Linear) → in_cone vars hyps start ≡ Err Proved → ⊥
cone-never vars hyps start e = go (nat_lt 64 (length vars)) e
  where
    go : (b : Bool) → cond b (let r : Result (List Step) Answer = Err (Limit limit.Cone) in r)
        (rounds 64 vars (numbered [] [] (first_rows vars hyps start)).steps (numbered [] [] (first_rows vars hyps start)).rows) ≡ Err Proved → ⊥
    go true f = cc
    go false f = rounds-never 64 vars (numbered [] [] (first_rows vars hyps start)).steps (numbered [] [] (first_rows vars hyps start)).rows f

start-never : (hyps : List Linear) (r : Result Linear TooLarge) → from_start hyps r ≡ Err Proved → ⊥
start-never hyps (Ok start) e = cone-never (cone hyps start) hyps start e
start-never hyps (Err large) e = cc

never : (hyps : List Linear) (goal : Linear) → refutation hyps goal ≡ Err Proved → ⊥
unfolding refutation
never hyps goal e = start-never hyps (negated_row_of goal) e

-- ---- a refutation means a proof

small-start : (ts : List Term) (constant : ℤ) (given : Linear) → sized ts constant ≡ Ok given → are_within given.terms given.constant ≡ true
unfolding sized
small-start ts constant given e = go (nat_lt 16 (length ts)) (are_within ts constant) refl e
  where
    go : (many within : Bool) → are_within ts constant ≡ within
        → cond many (let r : Result Linear TooLarge = Err Terms in r) (cond within (Ok (record { terms = ts; constant = constant })) (Err Magnitude)) ≡ Ok given
        → are_within given.terms given.constant ≡ true
    go true within w f = cc
    go false false w f = cc
    go false true w f =
        let same : (let form : Linear = record { terms = ts; constant = constant } in form) ≡ given = cc in
        ap (λ r. are_within r.terms r.constant) (sym same) ∙ w

module _ (hyps : List Linear) (goal : Linear) (forms : All IsForm hyps) (form : IsForm goal) where
  in_cone-proves : (start : Linear) (out : List Step) → negated_row_of goal ≡ Ok start → in_cone (cone hyps start) hyps start ≡ Ok out → LinesProve hyps goal (lines_meant hyps out)
  in_cone-proves start out e f = go (nat_lt 64 (length (cone hyps start))) refl f
    where
      go : (b : Bool) → nat_lt 64 (length (cone hyps start)) ≡ b
          → cond b (let r : Result (List Step) Answer = Err (Limit limit.Cone) in r)
          (rounds 64 (cone hyps start) (numbered [] [] (first_rows (cone hyps start) hyps start)).steps (numbered [] [] (first_rows (cone hyps start) hyps start)).rows) ≡ Ok out
          → LinesProve hyps goal (lines_meant hyps out)
      go true many k = cc
      go false few k =
          let vars = cone hyps start in
          let is : opposite_of goal ≡ start = opposite_is goal start e in
          let rising : IsRising 0 start.terms = subst (λ (r : Linear). IsRising 0 r.terms) is (IsRising-negated 0 goal.terms form.rising) in
          let sourced = first-sourced hyps goal vars start forms (cone-closed hyps start) (sym is)
          (small-start (negated_terms goal.terms) (neg_ℤ goal.constant -ℤ pos 1) start e) (record { rising = rising; placed = cone-start hyps start }) in
          let n = numbers hyps goal vars [] [] [] (first_rows vars hyps start) (record { given = refl; proper = tt }) tt sourced in
          let r = rounds-refute hyps goal vars 64 (numbered [] [] (first_rows vars hyps start)).steps n.rows (numbered [] [] (first_rows vars hyps start)).rows out n.stand n.given k in
          subst (λ (ss : List Step). LinesProve hyps goal (lines_meant hyps ss)) (sym r.out_is)
          (traced-proves hyps goal vars r.steps r.rows r.line r.row r.stand r.row_is r.refuted (is_not_less 64 (length vars) few))

  start-proves : (r : Result Linear TooLarge) (out : List Step) → negated_row_of goal ≡ r → from_start hyps r ≡ Ok out → LinesProve hyps goal (lines_meant hyps out)
  start-proves (Ok start) out e f = in_cone-proves start out e f
  start-proves (Err large) out e f = cc

  pub refutation-proves : (out : List Step) → refutation hyps goal ≡ Ok out → LinesProve hyps goal (lines_meant hyps out)
  unfolding refutation
  refutation-proves out e = start-proves (negated_row_of goal) out refl e

  pub proved-proves : elimination hyps goal ≡ Proved → LinesProve hyps goal (lines_meant hyps (proof_steps hyps goal))
  proved-proves e = go (refutation hyps goal) refl e
    where
      go : (r : Result (List Step) Answer) → refutation hyps goal ≡ r → answer_of r ≡ Proved → LinesProve hyps goal (lines_meant hyps (steps_of r))
      go (Ok out) f k = refutation-proves out f
      go (Err answer) f k = absurd (never hyps goal (f ∙ ap Err k))

  -- what the code answers, where it is Proved
  pub answers_prove : (answer : Answer) (steps : List Step) → Answers (Ok answer) steps (refutation hyps goal) → answer ≡ Proved → LinesProve hyps goal (lines_meant hyps steps)
  answers_prove Proved steps a e = refutation-proves steps a
  answers_prove Unproved steps a e = cc
  answers_prove (Limit kind) steps a e = cc
