-- The variables that bear on a row are closed: a hypothesis with one of them has no others.
use Rattle.std.proofs.Common.{◌≡◌, ℕ, zero, suc, ◌+◌, ◌<◌, ◌≤◌, Bool, true, false, cond, ◌||◌, ◌==◌, ◌⊎◌, inl, inr, List, [], ◌∷◌, ◌++◌, length, refl, sym, ◌∙◌, ap, subst, arith}
use Rattle.std.proofs.lemmas.List.{length-append}
use Rattle.std.proofs.lemmas.List.Folds.{list_any-append}
use Rattle.xan_lin.specs.Linear.{Linear}
use Rattle.xan_lin.specs.declared.term.Term.{Term}
use Rattle.proof_lines.specs.Variables.{is_among, with_terms}
use Rattle.proof_lines.specs.Cells.{AreDifferent, are_among}
use Rattle.proof_lines.proofs.TermVariables.{different-with_terms}
use Rattle.proof_lines.proofs.Proper.{both, join, placed-with_terms, with_terms-placed}
use Rattle.index_sorts.specs.Known.{no_terms}
use Rattle.linear_solver.specs.Cone.{touches, reached, reached_in, cone}
use Rattle.linear_solver.specs.Region.{AreClosed}
use Rattle.linear_solver.proofs.ConeWalks.{Grows, row-grows, walk-grows, walks-grow, nothing_more, stays}

first : (a b : Bool) → a ≡ true → (a || b) ≡ true
first true b e = refl
first false b e = cc

among-grown : (old new : List ℕ) (ts : List Term) → Grows old new → are_among old ts ≡ true → are_among new ts ≡ true
among-grown old new [] g h = refl
among-grown old new (t ∷ ts) g h =
    let parts = both (is_among t.var old) (are_among old ts) h in
    join (is_among t.var new) (are_among new ts)
    (ap (is_among t.var) g.is ∙ list_any-append (λ w. w == t.var) old g.more ∙ first (is_among t.var old) (is_among t.var g.more) parts.0)
    (among-grown old new ts g parts.1)

-- ---- how many rows have no other variables

one_if : Bool → ℕ
one_if true = 1
one_if false = 0

inside : List ℕ → List Linear → ℕ
inside vs [] = 0
inside vs (row ∷ rows) = one_if (are_among vs row.terms) + inside vs rows

one-more : (a b : Bool) → (a ≡ true → b ≡ true) → one_if a ≤ one_if b
unfolding one_if
one-more true true h = omega arith
one-more true false h = let e = h refl in cc
one-more false true h = omega arith
one-more false false h = omega arith

inside-grown : (old new : List ℕ) (rows : List Linear) → Grows old new → inside old rows ≤ inside new rows
unfolding inside
inside-grown old new [] g = omega arith
inside-grown old new (row ∷ rows) g =
    let here = one-more (are_among old row.terms) (are_among new row.terms) (among-grown old new row.terms g) in
    let later = inside-grown old new rows g in
    omega arith

one_at : (a b : Bool) → a ≡ false → b ≡ true → one_if a < one_if b
unfolding one_if
one_at true b e f = cc
one_at false true e f = omega arith
one_at false false e f = cc

-- a row that is walked over: it changes nothing, or it had others and has none then
passes : (vs : List ℕ) (ts : List Term) (b : Bool)
    → (cond b (with_terms vs ts) vs ≡ vs) ⊎ ((are_among vs ts ≡ false) × (are_among (cond b (with_terms vs ts) vs) ts ≡ true))
passes vs ts false = inl refl
passes vs ts true = go (are_among vs ts) refl
  where
    go : (b : Bool) → are_among vs ts ≡ b → (with_terms vs ts ≡ vs) ⊎ ((are_among vs ts ≡ false) × (are_among (with_terms vs ts) ts ≡ true))
    go true e = inl (with_terms-placed vs ts e)
    go false e = inr (e, placed-with_terms vs ts)

walk_counts : (vs : List ℕ) (rows : List Linear) → (reached vs rows ≡ vs) ⊎ (inside vs rows < inside (reached vs rows) rows)
unfolding reached inside
walk_counts vs [] = inl refl
walk_counts vs (row ∷ rows) =
    go (passes vs row.terms (touches vs row.terms)) (walk_counts vs rows)
  where
    step : (cond (touches vs row.terms) (with_terms vs row.terms) vs) ≡ vs → (reached vs rows ≡ vs) ⊎ (inside vs rows < inside (reached vs rows) rows)
        → (reached (cond (touches vs row.terms) (with_terms vs row.terms) vs) rows ≡ vs) ⊎ (one_if (are_among vs row.terms) + inside vs rows < one_if (are_among (reached (cond (touches vs row.terms) (with_terms vs row.terms) vs) rows) row.terms) + inside (reached (cond (touches vs row.terms) (with_terms vs row.terms) vs) rows) rows)
    step e (inl f) = inl (ap (λ ws. reached ws rows) e ∙ f)
    step e (inr h) =
        let out : reached (cond (touches vs row.terms) (with_terms vs row.terms) vs) rows ≡ reached vs rows = ap (λ ws. reached ws rows) e in
        let here = one-more (are_among vs row.terms) (are_among (reached vs rows) row.terms) (among-grown vs (reached vs rows) row.terms (walk-grows vs rows)) in
        inr (subst (λ (ws : List ℕ). one_if (are_among vs row.terms) + inside vs rows < one_if (are_among ws row.terms) + inside ws rows) (sym out) (omega arith))

    go : ((cond (touches vs row.terms) (with_terms vs row.terms) vs) ≡ vs) ⊎ ((are_among vs row.terms ≡ false) × (are_among (cond (touches vs row.terms) (with_terms vs row.terms) vs) row.terms ≡ true)) → (reached vs rows ≡ vs) ⊎ (inside vs rows < inside (reached vs rows) rows)
        → (reached (cond (touches vs row.terms) (with_terms vs row.terms) vs) rows ≡ vs) ⊎ (one_if (are_among vs row.terms) + inside vs rows < one_if (are_among (reached (cond (touches vs row.terms) (with_terms vs row.terms) vs) rows) row.terms) + inside (reached (cond (touches vs row.terms) (with_terms vs row.terms) vs) rows) rows)
    go (inl e) later = step e later
    go (inr p) later =
        let grown = walk-grows (cond (touches vs row.terms) (with_terms vs row.terms) vs) rows in
        let here = one_at (are_among vs row.terms) (are_among (reached (cond (touches vs row.terms) (with_terms vs row.terms) vs) rows) row.terms) p.0 (among-grown (cond (touches vs row.terms) (with_terms vs row.terms) vs) (reached (cond (touches vs row.terms) (with_terms vs row.terms) vs) rows) row.terms grown p.1) in
        let all = inside-grown vs (reached (cond (touches vs row.terms) (with_terms vs row.terms) vs) rows) rows (walk-grows vs (row ∷ rows)) in
        inr (omega arith)

-- so many walks: the last finds nothing, or as many rows have no other variables
walks_count : (n : ℕ) (vs : List ℕ) (rows : List Linear) → (reached (reached_in n vs rows) rows ≡ reached_in n vs rows) ⊎ (inside vs rows + n ≤ inside (reached_in n vs rows) rows)
unfolding reached_in
walks_count zero vs rows = inr (omega arith)
walks_count (suc n) vs rows = go (walk_counts vs rows) (walks_count n (reached vs rows) rows)
  where
    go : (reached vs rows ≡ vs) ⊎ (inside vs rows < inside (reached vs rows) rows)
        → (reached (reached_in n (reached vs rows) rows) rows ≡ reached_in n (reached vs rows) rows) ⊎ (inside (reached vs rows) rows + n ≤ inside (reached_in n (reached vs rows) rows) rows)
        → (reached (reached_in n (reached vs rows) rows) rows ≡ reached_in n (reached vs rows) rows) ⊎ (inside vs rows + suc n ≤ inside (reached_in n (reached vs rows) rows) rows)
    go more (inl f) = inl f
    go (inl e) (inr h) =
        let out : reached_in n (reached vs rows) rows ≡ vs = ap (λ ws. reached_in n ws rows) e ∙ stays n vs rows e in
        inl (ap (λ ws. reached ws rows) out ∙ e ∙ sym out)
    go (inr k) (inr h) = inr (omega arith)

-- ---- rows that have no other variables

abbrev pub Closed : List ℕ → List Linear → Type 0
Closed vs [] = Unit {0}
Closed vs (row ∷ rows) = (touches vs row.terms ≡ true → are_among vs row.terms ≡ true) × Closed vs rows

between : (old middle new : List ℕ) → Grows old middle → Grows middle new → new ≡ old → middle ≡ old
between old middle new g h e = nothing_more old middle g (lengths (ap length g.is) (ap length h.is) (ap length e))
  where
    lengths : length middle ≡ length (old ++ g.more) → length new ≡ length (middle ++ h.more) → length new ≡ length old → length middle ≡ length old
    lengths a b c = omega (arith, a, b, c, length-append old g.more, length-append middle h.more)

closed_fixed : (vs : List ℕ) (rows : List Linear) → reached vs rows ≡ vs → Closed vs rows
unfolding reached
closed_fixed vs [] e = tt
closed_fixed vs (row ∷ rows) e =
    let next = cond (touches vs row.terms) (with_terms vs row.terms) vs in
    let same : next ≡ vs = between vs next (reached next rows) (row-grows vs row.terms) (walk-grows next rows) e in (
      λ t. (let all : with_terms vs row.terms ≡ vs = ap (λ b. cond b (with_terms vs row.terms) vs) (sym t) ∙ same in
          ap (λ ws. are_among ws row.terms) (sym all) ∙ placed-with_terms vs row.terms),
      closed_fixed vs rows (ap (λ ws. reached ws rows) (sym same) ∙ e),
    )

inside-most : (vs : List ℕ) (rows : List Linear) → inside vs rows ≤ length rows
unfolding inside one_if
inside-most vs [] = omega arith
inside-most vs (row ∷ rows) = go (are_among vs row.terms) (inside-most vs rows)
  where
    go : (b : Bool) → inside vs rows ≤ length rows → one_if b + inside vs rows ≤ length (row ∷ rows)
    go true h = omega arith
    go false h = omega arith

closed_all : (vs : List ℕ) (rows : List Linear) → length rows ≤ inside vs rows → Closed vs rows
unfolding inside one_if
closed_all vs [] h = tt
closed_all vs (row ∷ rows) h = go (are_among vs row.terms) refl h (inside-most vs rows) (closed_all vs rows)
  where
    go : (b : Bool) → are_among vs row.terms ≡ b → length (row ∷ rows) ≤ one_if b + inside vs rows → inside vs rows ≤ length rows → (length rows ≤ inside vs rows → Closed vs rows)
        → Closed vs (row ∷ rows)
    go true e h most later = ((λ t. e), later (omega arith))
    go false e h most later = absurd (omega arith)

pub cone-closed : (hyps : List Linear) (start : Linear) → Closed (cone hyps start) hyps
unfolding cone
cone-closed hyps start = go (walks_count (length hyps) (with_terms [] start.terms) hyps)
  where
    go : (reached (reached_in (length hyps) (with_terms [] start.terms) hyps) hyps ≡ reached_in (length hyps) (with_terms [] start.terms) hyps)
        ⊎ (inside (with_terms [] start.terms) hyps + length hyps ≤ inside (reached_in (length hyps) (with_terms [] start.terms) hyps) hyps)
        → Closed (reached_in (length hyps) (with_terms [] start.terms) hyps) hyps
    go (inl e) = closed_fixed (reached_in (length hyps) (with_terms [] start.terms) hyps) hyps e
    go (inr h) = closed_all (reached_in (length hyps) (with_terms [] start.terms) hyps) hyps (omega arith)

-- the row's own variables are among them
pub cone-start : (hyps : List Linear) (start : Linear) → are_among (cone hyps start) start.terms ≡ true
unfolding cone
cone-start hyps start =
    among-grown (with_terms [] start.terms) (reached_in (length hyps) (with_terms [] start.terms) hyps) start.terms (walks-grow (length hyps) (with_terms [] start.terms) hyps)
    (placed-with_terms [] start.terms)

-- a row with one of the variables, or with none at all, has no others
bears-closed : (vs : List ℕ) (rows : List Linear) → Closed vs rows → AreClosed vs rows
bears-closed vs [] c = tt
bears-closed vs (row ∷ rows) c = ((λ h. go row.terms h c.0), bears-closed vs rows c.1)
  where
    go : (ts : List Term) → (no_terms ts || touches vs ts) ≡ true → (touches vs ts ≡ true → are_among vs ts ≡ true) → are_among vs ts ≡ true
    go [] h k = refl
    go (t ∷ ts) h k = k h

pub cone-closes : (hyps : List Linear) (start : Linear) → AreClosed (cone hyps start) hyps
cone-closes hyps start = bears-closed (cone hyps start) hyps (cone-closed hyps start)

-- ---- the variables are different

reached-different : (vs : List ℕ) (rows : List Linear) → AreDifferent vs → AreDifferent (reached vs rows)
unfolding reached
reached-different vs [] d = d
reached-different vs (row ∷ rows) d = reached-different (cond (touches vs row.terms) (with_terms vs row.terms) vs) rows (go (touches vs row.terms))
  where
    go : (b : Bool) → AreDifferent (cond b (with_terms vs row.terms) vs)
    go true = different-with_terms vs row.terms d
    go false = d

walks-different : (n : ℕ) (vs : List ℕ) (rows : List Linear) → AreDifferent vs → AreDifferent (reached_in n vs rows)
unfolding reached_in
walks-different zero vs rows d = d
walks-different (suc n) vs rows d = walks-different n (reached vs rows) rows (reached-different vs rows d)

pub cone-different : (hyps : List Linear) (start : Linear) → AreDifferent (cone hyps start)
unfolding cone
cone-different hyps start = walks-different (length hyps) (with_terms [] start.terms) hyps (different-with_terms [] start.terms tt)
