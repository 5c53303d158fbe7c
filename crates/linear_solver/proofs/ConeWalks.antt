-- The walks that find the variables that bear on a row.
use Rattle.std.proofs.Common.{◌≡◌, ℕ, zero, suc, ◌+◌, ◌-◌, ◌<◌, ◌≤◌, Bool, true, false, cond, nat_lt, List, [], ◌∷◌, ◌++◌, length, refl, sym, ◌∙◌, ap, subst, arith}
use Rattle.std.proofs.lemmas.List.{append_assoc, append-nil, length-append}
use Rattle.xan_lin.specs.Linear.{Linear}
use Rattle.xan_lin.specs.declared.term.Term.{Term}
use Rattle.xan_lin.proofs.Booleans.{less}
use Rattle.proof_lines.specs.Variables.{is_among, with_variable, with_terms}
use Rattle.proof_lines.proofs.TermVariables.{with_terms-none, with_terms-cons}
use Rattle.linear_solver.specs.Cone.{touches, reached, reached_in, cone}

-- the list with some behind it
pub record Grows (old new : List ℕ) : Type 0 where
  pub more : List ℕ
  pub is : new ≡ old ++ more

same_grows : (vs : List ℕ) → Grows vs vs
same_grows vs = record { more = []; is = sym (append-nil vs) }

variable-grows : (vs : List ℕ) (v : ℕ) → Grows vs (with_variable vs v)
variable-grows vs v = go (is_among v vs)
  where
    go : (b : Bool) → Grows vs (cond b vs (vs ++ v ∷ []))
    go true = same_grows vs
    go false = record { more = v ∷ []; is = refl }

join_grows : (old middle new : List ℕ) → Grows old middle → Grows middle new → Grows old new
join_grows old middle new g h = record { more = g.more ++ h.more; is = h.is ∙ ap (λ vs. vs ++ h.more) g.is ∙ append_assoc old g.more h.more }

terms-grow : (vs : List ℕ) (ts : List Term) → Grows vs (with_terms vs ts)
terms-grow vs [] = subst (Grows vs) (sym (with_terms-none vs)) (same_grows vs)
terms-grow vs (t ∷ ts) = subst (Grows vs) (sym (with_terms-cons vs t ts))
    (join_grows vs (with_variable vs t.var) (with_terms (with_variable vs t.var) ts) (variable-grows vs t.var) (terms-grow (with_variable vs t.var) ts))

pub row-grows : (vs : List ℕ) (ts : List Term) → Grows vs (cond (touches vs ts) (with_terms vs ts) vs)
row-grows vs ts = go (touches vs ts)
  where
    go : (b : Bool) → Grows vs (cond b (with_terms vs ts) vs)
    go true = terms-grow vs ts
    go false = same_grows vs

pub walk-grows : (vs : List ℕ) (rows : List Linear) → Grows vs (reached vs rows)
unfolding reached
walk-grows vs [] = same_grows vs
walk-grows vs (row ∷ rows) =
    join_grows vs (cond (touches vs row.terms) (with_terms vs row.terms) vs) (reached (cond (touches vs row.terms) (with_terms vs row.terms) vs) rows)
    (row-grows vs row.terms) (walk-grows (cond (touches vs row.terms) (with_terms vs row.terms) vs) rows)

pub walks-grow : (n : ℕ) (vs : List ℕ) (rows : List Linear) → Grows vs (reached_in n vs rows)
unfolding reached_in
walks-grow zero vs rows = same_grows vs
walks-grow (suc n) vs rows = join_grows vs (reached vs rows) (reached_in n (reached vs rows) rows) (walk-grows vs rows) (walks-grow n (reached vs rows) rows)

-- a walk that finds none leaves the list
pub nothing_more : (old new : List ℕ) → Grows old new → length new ≡ length old → new ≡ old
nothing_more old new g e = go g.more (sym (length-append old g.more) ∙ ap length (sym g.is) ∙ e) g.is
  where
    go : (more : List ℕ) → length old + length more ≡ length old → new ≡ old ++ more → new ≡ old
    go [] f is = is ∙ append-nil old
    go (v ∷ more) f is = absurd (omega arith)

pub stays : (n : ℕ) (vs : List ℕ) (rows : List Linear) → reached vs rows ≡ vs → reached_in n vs rows ≡ vs
unfolding reached_in
stays zero vs rows e = refl
stays (suc n) vs rows e = ap (λ ws. reached_in n ws rows) e ∙ stays n vs rows e

one_more : (n : ℕ) (vs : List ℕ) (rows : List Linear) → reached_in (suc n) vs rows ≡ reached_in n (reached vs rows) rows
unfolding reached_in
one_more n vs rows = refl

none_left : (vs : List ℕ) (rows : List Linear) → reached_in 0 vs rows ≡ vs
unfolding reached_in
none_left vs rows = refl

-- ---- the loop of walks

pub walks_none : (vs no_vars : List ℕ) (rows : List Linear) (start : Linear) (ts : List Term) → vs ≡ with_terms no_vars ts → no_vars ≡ [] → ts ≡ start.terms → reached_in (length rows - 0) vs rows ≡ cone rows start
unfolding cone
walks_none vs no_vars rows start ts e none f =
    let all : length rows - 0 ≡ length rows = omega arith in
    ap (λ n. reached_in n vs rows) all ∙ ap (λ ws. reached_in (length rows) ws rows) (e ∙ ap (λ ws. with_terms ws ts) none ∙ ap (λ us. with_terms [] us) f)

pub walks_past : (k : ℕ) (vs whole : List ℕ) (rows : List Linear) → reached_in k vs rows ≡ whole → 64 < length vs → nat_lt 64 (length whole) ≡ true
walks_past k vs whole rows e h =
    let g = walks-grow k vs rows in
    less 64 (length whole) (omega (arith, h, ap length (sym e ∙ g.is), length-append vs g.more))

pub walks_more : (n at : ℕ) (vs new whole : List ℕ) (rows : List Linear) → reached_in (n - at) vs rows ≡ whole → at < n → new ≡ reached vs rows
    → reached_in (n - (at + 1)) new rows ≡ whole
walks_more n at vs new whole rows e h is =
    let next : n - at ≡ suc (n - (at + 1)) = omega arith in
    ap (λ ws. reached_in (n - (at + 1)) ws rows) is ∙ sym (one_more (n - (at + 1)) vs rows) ∙ ap (λ k. reached_in k vs rows) (sym next) ∙ e

pub walks_same : (n at : ℕ) (vs new whole : List ℕ) (rows : List Linear) → reached_in (n - at) vs rows ≡ whole → new ≡ reached vs rows → length new ≡ length vs → new ≡ whole
walks_same n at vs new whole rows e is same =
    let stable : reached vs rows ≡ vs = nothing_more vs (reached vs rows) (walk-grows vs rows) (ap length (sym is) ∙ same) in
    is ∙ stable ∙ sym (stays (n - at) vs rows stable) ∙ e

pub walks_all : (n at : ℕ) (vs whole : List ℕ) (rows : List Linear) → reached_in (n - at) vs rows ≡ whole → n ≤ at → vs ≡ whole
walks_all n at vs whole rows e h =
    let none : n - at ≡ 0 = omega arith in
    sym (none_left vs rows) ∙ ap (λ k. reached_in k vs rows) (sym none) ∙ e
