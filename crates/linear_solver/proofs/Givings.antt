-- The first system in the making, hypothesis after hypothesis.
use Rattle.std.proofs.Common.{◌≡◌, ℕ, zero, suc, ◌+◌, ◌<◌, ◌≤◌, Bool, true, false, cond, List, [], ◌∷◌, length, drop, get_or, refl, sym, ◌∙◌, ap, arith}
use Rattle.std.proofs.lemmas.List.{drop_more, drop_all}
use Rattle.xan_lin.specs.Linear.{Linear}
use Rattle.proof_lines.specs.Cells.{are_among}
use Rattle.solver_rows.specs.declared.step.Step.TheVariants as step
use Rattle.solver_rows.specs.declared.source.Source.TheVariants.{New}
use Rattle.solver_rows.specs.SystemRows.{Row, tight}
use Rattle.linear_solver.specs.Systems.{settle}
use Rattle.linear_solver.specs.Elimination.{bears, with_hyps}
use Rattle.linear_solver.specs.Region.{Work, AreClosed}
use Rattle.linear_solver.proofs.Room.{settle-more}
use Rattle.linear_solver.proofs.Makings.{Kept, kept_more}

pub record Gives (s w : Work) (hyps : List Linear) (whole : List Row) (at : ℕ) : Type 0 where
  pub kept : Kept s w
  pub same : with_hyps s.vars at (drop at hyps) w.made ≡ whole
  pub few : length w.made ≤ at

hyps-cons : (vars : List ℕ) (at : ℕ) (row : Linear) (rows : List Linear) (made : List Row)
    → with_hyps vars at (row ∷ rows) made ≡ with_hyps vars (suc at) rows (cond (bears vars row) (settle made (tight (New (step.Hyp at)) row)) made)
unfolding with_hyps
hyps-cons vars at row rows made = refl

hyps-none : (vars : List ℕ) (at : ℕ) (made : List Row) → with_hyps vars at [] made ≡ made
unfolding with_hyps
hyps-none vars at made = refl

given_one : Work → ℕ → Linear → List Row → List Row
given_one w at row made = cond (bears w.vars row) (settle made (tight (New (step.Hyp at)) row)) made

one-more : (b : Bool) (made : List Row) (r : Row) → length (cond b (settle made r) made) ≤ length made + 1
one-more true made r = settle-more made r
one-more false made r = omega arith

pub gives_begin : (s : Work) (hyps : List Linear) → s.made ≡ [] → Gives s s hyps (with_hyps s.vars 0 hyps []) 0
gives_begin s hyps none = record { kept = refl; same = ap (λ ms. with_hyps s.vars 0 hyps ms) none; few = omega (arith, ap length none) }

pub gives_next : (s w new : Work) (hyps : List Linear) (whole : List Row) (at : ℕ) (row : Linear) → Gives s w hyps whole at → at < length hyps → row ≡ get_or hyps at row
    → new ≡ record w { made = cond (bears w.vars row) (settle w.made (tight (New (step.Hyp at)) row)) w.made } → Gives s new hyps whole (at + 1)
unfolding given_one
gives_next s w new hyps whole at row g h is change =
    let by : new.made ≡ given_one s at row w.made = ap (λ v. v.made) change ∙ ap (λ v. given_one v at row w.made) g.kept in
    let next : at + 1 ≡ suc at = omega arith in
    record {
      kept = kept_more s w new (given_one w at row w.made) g.kept change;
      same = ap (λ n. with_hyps s.vars n (drop (at + 1) hyps) new.made) next ∙ ap (with_hyps s.vars (suc at) (drop (at + 1) hyps)) by
          ∙ sym (hyps-cons s.vars at row (drop (at + 1) hyps) w.made)
          ∙ ap (λ rows. with_hyps s.vars at rows w.made) (ap (λ r. r ∷ drop (at + 1) hyps) is ∙ sym (drop_more hyps at row h)) ∙ g.same;
      few = omega (arith, g.few, ap length by, one-more (bears s.vars row) w.made (tight (New (step.Hyp at)) row));
    }

pub gives_end : (s w : Work) (hyps : List Linear) (whole : List Row) (at : ℕ) → Gives s w hyps whole at → length hyps ≤ at → w ≡ record s { made = whole }
gives_end s w hyps whole at g h =
    g.kept ∙ ap (λ ms. let u : Work = record s { made = ms } in u) (sym (hyps-none s.vars at w.made) ∙ ap (λ rows. with_hyps s.vars at rows w.made) (sym (drop_all at hyps h)) ∙ g.same)

closed-at : (vars : List ℕ) (hyps : List Linear) (at : ℕ) (d : Linear) → AreClosed vars hyps → at < length hyps → bears vars (get_or hyps at d) ≡ true → are_among vars (get_or hyps at d).terms ≡ true
closed-at vars [] at d c h = absurd (omega arith)
closed-at vars (x ∷ hyps) zero d c h = c.0
closed-at vars (x ∷ hyps) (suc at) d c h = closed-at vars hyps at d c.1 (omega arith)

pub closed_at : (s w : Work) (hyps : List Linear) (at : ℕ) (row : Linear) → AreClosed s.vars hyps → Kept s w → at < length hyps → row ≡ get_or hyps at row → bears w.vars row ≡ true → are_among w.vars row.terms ≡ true
closed_at s w hyps at row closed kept h is e =
    ap (λ v. are_among v.vars row.terms) kept ∙ ap (λ r. are_among s.vars r.terms) is
    ∙ closed-at s.vars hyps at row closed h (ap (bears s.vars) (sym is) ∙ ap (λ v. bears v.vars row) (sym kept) ∙ e)
