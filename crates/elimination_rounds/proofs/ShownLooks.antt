-- What a look at a system shows, and that a variable that it takes is one of those that are looked at and that some row has.
use Rattle.std.proofs.Common.{◌≡◌, ℕ, ◌+◌, ◌*◌, ℤ, pos, ◌==◌, Bool, true, false, cond, ◌||◌, nat_lt, int_lt, List, [], ◌∷◌, length, filter, Option, Some, None, Result, Ok, Err, refl, sym, ◌∙◌, ap, subst}
use Rattle.xan_lin.specs.declared.term.LimitKind.{LimitKind}
use Rattle.xan_lin.specs.declared.term.LimitKind.TheVariants as limit
use Rattle.proof_lines.specs.Variables.{is_among}
use Rattle.proof_lines.proofs.Different.{equals_itself}
use Rattle.solver_rows.specs.declared.step.Step.{Step}
use Rattle.linear_solver.specs.declared.answer.Answer.{Answer}
use Rattle.linear_solver.specs.declared.answer.Answer.TheVariants.{Unproved, Limit}
use Rattle.solver_rows.specs.SystemRows.{Row, coefficient}
use Rattle.linear_solver.specs.Systems.{limited, with_sign}
use Rattle.linear_solver.specs.Choosing.{choice_of, candidate, is_before, better, best_from, refuted_by, taken, refuted_or, look_at}
use Rattle.linear_solver.specs.Elimination.{ended, after_look}
use Rattle.elimination_rounds.specs.Unbounded.{Refutes, IsSpent, Takes}
use Rattle.elimination_rounds.proofs.RoundRows.{AreAll, has_positive, has_negative}
use Rattle.elimination_rounds.proofs.VariablesLeft.{lacks, none-all, Taken}

-- ---- a variable that is taken

none-with : (v : ℕ) (rows : List Row) (is : ℤ → Bool) → is (pos 0) ≡ false → AreAll (λ ts. coefficient v ts ≡ pos 0) rows
    → filter (λ r. is (coefficient v r.terms)) rows ≡ []
none-with v [] is z a = refl
none-with v (r ∷ rows) is z a = go (is (coefficient v r.terms)) (ap is a.0 ∙ z) (none-with v rows is z a.1)
  where
    go : (b : Bool) → b ≡ false → filter (λ r. is (coefficient v r.terms)) rows ≡ []
        → cond b (r ∷ filter (λ r. is (coefficient v r.terms)) rows) (filter (λ r. is (coefficient v r.terms)) rows) ≡ []
    go true f later = cc
    go false f later = later

same-choice : (v w : ℕ) → taken (choice_of v 1 0) ≡ taken (choice_of w 1 0) → v ≡ w
same-choice v w e = cc

candidate-taken : (vars : List ℕ) (rows : List Row) (v w : ℕ) → is_among v vars ≡ true → taken (candidate v rows) ≡ taken (choice_of w 1 0) → Taken vars rows w
unfolding candidate with_sign
candidate-taken vars rows v w i = go (lacks v rows) refl
  where
    by_test : (b : Bool) (c : _) → lacks v rows ≡ false → taken (Some c) ≡ taken (choice_of v 1 0) → taken (cond b None (Some c)) ≡ taken (choice_of w 1 0) → Taken vars rows w
    by_test true c e s f = cc
    by_test false c e s f = subst (λ (u : ℕ). Taken vars rows u) (same-choice v w (sym s ∙ f)) (record { among = i; had = e })

    nothing : (xs ys : List Row) → xs ≡ [] → ys ≡ [] → taken None ≡ taken (choice_of v (length xs) (length ys))
    nothing xs ys e f = sym (ap (λ zs. taken (choice_of v (length zs) (length ys))) e ∙ ap (λ zs. taken (choice_of v 0 (length zs))) f)

    go : (b : Bool) → lacks v rows ≡ b
        → taken (choice_of v (length (filter (has_positive v) rows)) (length (filter (has_negative v) rows))) ≡ taken (choice_of w 1 0) → Taken vars rows w
    go true e f =
        let is = nothing (filter (has_positive v) rows) (filter (has_negative v) rows)
        (none-with v rows (λ n. int_lt (pos 0) n) refl (none-all v rows e)) (none-with v rows (λ n. int_lt n (pos 0)) refl (none-all v rows e)) in
        let none = is ∙ f in
        cc
    go false e f =
        by_test ((length (filter (has_positive v) rows) + length (filter (has_negative v) rows)) == 0)
        (record { var = v; pairs = length (filter (has_positive v) rows) * length (filter (has_negative v) rows) }) e refl f

better-taken : (vars : List ℕ) (rows : List Row) (w : ℕ) (best next : _) → (taken best ≡ taken (choice_of w 1 0) → Taken vars rows w)
    → (taken next ≡ taken (choice_of w 1 0) → Taken vars rows w) → taken (better best next) ≡ taken (choice_of w 1 0) → Taken vars rows w
better-taken vars rows w None next a b e = b e
better-taken vars rows w (Some c) None a b e = a e
better-taken vars rows w (Some c) (Some d) a b e = go (is_before d c) e
  where
    go : (t : Bool) → taken (cond t (Some d) (Some c)) ≡ taken (choice_of w 1 0) → Taken vars rows w
    go true f = b f
    go false f = a f

best-taken : (all : List ℕ) (rows : List Row) (w : ℕ) (best : _) (vars : List ℕ) → (taken best ≡ taken (choice_of w 1 0) → Taken all rows w)
    → ((v : ℕ) → is_among v vars ≡ true → is_among v all ≡ true) → taken (best_from rows best vars) ≡ taken (choice_of w 1 0) → Taken all rows w
unfolding best_from
best-taken all rows w best [] a f = a
best-taken all rows w best (v ∷ vars) a f =
    best-taken all rows w (better best (candidate v rows)) vars
    (better-taken all rows w best (candidate v rows) a (candidate-taken all rows v w (f v (here (v == v) (is_among v vars) (equals_itself v)))))
    (λ u i. f u (later (v == u) (is_among u vars) i))
  where
    here : (a b : Bool) → a ≡ true → (a || b) ≡ true
    here true b e = refl
    here false b e = cc

    later : (a b : Bool) → b ≡ true → (a || b) ≡ true
    later true b e = refl
    later false b e = e

-- ---- what a look shows

many : (b : Bool) (rows : List Row) → nat_lt 2000 (length rows) ≡ b → (b ≡ true → limited rows ≡ Err limit.System) × (limited rows ≡ Err limit.System → b ≡ true)
many true rows e = (λ f. ap (λ c. cond c (Err limit.System) (Ok rows)) e, λ f. refl)
many false rows e = (λ f. cc, λ f. absurd (not_both rows (sym (ap (λ c. cond c (Err limit.System) (Ok rows)) e) ∙ f)))
  where
    not_both : (rows : List Row) → (let r : Result (List Row) LimitKind = Ok rows in r) ≡ Err limit.System → ⊥
    not_both rows f = cc

on_true : {A : Type 0} (b : Bool) (x y : A) → b ≡ true → cond b x y ≡ x
on_true true x y e = refl
on_true false x y e = cc

on_false : {A : Type 0} (b : Bool) (x y : A) → b ≡ false → cond b x y ≡ y
on_false true x y e = cc
on_false false x y e = refl

pub full-after : (vars : List ℕ) (steps : List Step) (rows : List Row) (f : ℕ → Result (List Step) Answer) → limited rows ≡ Err limit.System
    → after_look steps (look_at vars rows) f ≡ Err (Limit limit.System)
unfolding look_at
full-after vars steps rows f e =
    ap (λ l. after_look steps l f) (on_true (nat_lt 2000 (length rows)) _ (refuted_or (refuted_by rows) (best_from rows None vars)) ((many (nat_lt 2000 (length rows)) rows refl).1 e))

pub full-ended : (vars : List ℕ) (steps : List Step) (rows : List Row) → limited rows ≡ Err limit.System → ended steps (look_at vars rows) ≡ Err (Limit limit.System)
unfolding look_at
full-ended vars steps rows e =
    ap (λ l. ended steps l) (on_true (nat_lt 2000 (length rows)) _ (refuted_or (refuted_by rows) (best_from rows None vars)) ((many (nat_lt 2000 (length rows)) rows refl).1 e))

few-look : (vars : List ℕ) (rows : List Row) → nat_lt 2000 (length rows) ≡ false → look_at vars rows ≡ refuted_or (refuted_by rows) (best_from rows None vars)
unfolding look_at
few-look vars rows e = on_false (nat_lt 2000 (length rows)) _ (refuted_or (refuted_by rows) (best_from rows None vars)) e

pub data Shown (vars : List ℕ) (rows : List Row) : Type 0 where
  shows_full : limited rows ≡ Err limit.System → Shown vars rows
  shows_refuted : (line : ℕ) → Refutes vars rows line → Shown vars rows
  shows_spent : IsSpent vars rows → Shown vars rows
  shows_taken : (var : ℕ) → Takes vars rows var → Taken vars rows var → Shown vars rows

pub shown : (vars : List ℕ) (rows : List Row) → Shown vars rows
shown vars rows = by_size (nat_lt 2000 (length rows)) refl
  where
    by_rows : (o : Option ℕ) (c : _) → look_at vars rows ≡ refuted_or o c → ((w : ℕ) → taken c ≡ taken (choice_of w 1 0) → Taken vars rows w) → Shown vars rows
    by_rows (Some line) c e a = shows_refuted line e
    by_rows None None e a = shows_spent e
    by_rows None (Some c) e a = shows_taken c.var e (a c.var refl)

    by_size : (b : Bool) → nat_lt 2000 (length rows) ≡ b → Shown vars rows
    by_size true e = shows_full ((many (nat_lt 2000 (length rows)) rows refl).0 e)
    by_size false e = by_rows (refuted_by rows) (best_from rows None vars) (few-look vars rows e) (λ w. best-taken vars rows w None vars (λ f. cc) (λ u i. i))

pub takes-taken : (vars : List ℕ) (rows : List Row) (var : ℕ) → Takes vars rows var → Taken vars rows var
takes-taken vars rows var t = go (shown vars rows)
  where
    go : Shown vars rows → Taken vars rows var
    go (shows_full e) =
        let is = sym (ap (λ l. after_look [] l (λ v. Err Unproved)) t) ∙ full-after vars [] rows (λ v. Err Unproved) e in cc
    go (shows_refuted line e) = let is = sym e ∙ t in cc
    go (shows_spent e) = let is = sym e ∙ t in cc
    go (shows_taken v e a) = let is = sym e ∙ t in let same : v ≡ var = cc in subst (λ (w : ℕ). Taken vars rows w) same a
