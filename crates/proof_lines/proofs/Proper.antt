-- Rows whose variables have columns: with more columns, and what is made of them.
use Rattle.std.proofs.Common.{◌≡◌, ◌≢◌, ℕ, zero, suc, ◌*◌, ◌/◌, ◌%◌, ◌<◌, ◌≤◌, ℤ, pos, negsuc, ◌+ℤ◌, ◌*ℤ◌, ◌&&◌, ◌||◌, ◌==◌, Bool, true, false, cond, List, [], ◌∷◌, ◌++◌, length, map, Some, slice_get, refl, sym, ◌∙◌, ap, subst, arith}
use Rattle.std.proofs.lemmas.Int.{ints}
use Rattle.std.proofs.lemmas.Bool.Decides.{Decides-int_eq}
use Rattle.std.proofs.lemmas.List.Folds.{list_any-append}
use Rattle.xan_lin.specs.Terms.{IsRising, with_multiple, plus_term, sum_terms, scaled_terms, coefficient_of}
use Rattle.xan_lin.specs.Linear.{Linear}
use Rattle.xan_lin.specs.declared.term.Term.{Term}
use Rattle.xan_lin.proofs.TermSums.{Lt, Gt, Eq, order, plus-front, plus-behind, plus-same, IsRising-sum}
use Rattle.xan_lin.proofs.ScaledTerms.{IsRising-scaled}
use Rattle.proof_lines.specs.Rows.{combination_of, floor_over, is_multiple, divides, divided_term, cut_of}
use Rattle.proof_lines.specs.Variables.{is_among, with_variable, with_terms}
use Rattle.proof_lines.specs.Check.{is_positive}
use Rattle.proof_lines.specs.Cells.{dense, are_among, IsProper, AreProper}
use Rattle.proof_lines.proofs.Different.{with_variable-among, equals_itself, same_number}
use Rattle.proof_lines.proofs.TermVariables.{with_terms-none, with_terms-cons, length-with_terms}
use Rattle.xan_lin.proofs.Coefficients.{coefficient-none, coefficient-other}
use Rattle.proof_lines.proofs.Dense.{dense-with}

pub both : (a b : Bool) → (a && b) ≡ true → (a ≡ true) × (b ≡ true)
both true b e = (refl, e)
both false b e = cc

pub join : (a b : Bool) → a ≡ true → b ≡ true → (a && b) ≡ true
join true b e f = f
join false b e f = e

-- ---- more columns

first : (a b : Bool) → a ≡ true → (a || b) ≡ true
first true b e = refl
first false b e = cc

among-more : (v : ℕ) (columns more : List ℕ) → is_among v columns ≡ true → is_among v (columns ++ more) ≡ true
among-more v columns more h = list_any-append (λ w. w == v) columns more ∙ first (is_among v columns) (is_among v more) h

among-with : (v w : ℕ) (columns : List ℕ) → is_among v columns ≡ true → is_among v (with_variable columns w) ≡ true
among-with v w columns h = go (is_among w columns)
  where
    go : (b : Bool) → is_among v (cond b columns (columns ++ w ∷ [])) ≡ true
    go true = h
    go false = among-more v columns (w ∷ []) h

second : (a b : Bool) → b ≡ true → (a || b) ≡ true
second true b e = refl
second false b e = e

among-itself : (v : ℕ) (columns : List ℕ) → is_among v (with_variable columns v) ≡ true
among-itself v columns = go (is_among v columns) refl
  where
    go : (b : Bool) → is_among v columns ≡ b → is_among v (cond b columns (columns ++ v ∷ [])) ≡ true
    go true e = e
    go false e = list_any-append (λ w. w == v) columns (v ∷ []) ∙ second (is_among v columns) (is_among v (v ∷ [])) (first (v == v) false (equals_itself v))

pub among-with_terms : (v : ℕ) (columns : List ℕ) (ts : List Term) → is_among v columns ≡ true → is_among v (with_terms columns ts) ≡ true
among-with_terms v columns [] h = ap (is_among v) (with_terms-none columns) ∙ h
among-with_terms v columns (t ∷ ts) h = ap (is_among v) (with_terms-cons columns t ts) ∙ among-with_terms v (with_variable columns t.var) ts (among-with v t.var columns h)

-- the terms' own variables have columns then
pub placed-with_terms : (columns : List ℕ) (ts : List Term) → are_among (with_terms columns ts) ts ≡ true
placed-with_terms columns [] = refl
placed-with_terms columns (t ∷ ts) =
    join (is_among t.var (with_terms columns (t ∷ ts))) (are_among (with_terms columns (t ∷ ts)) ts)
    (ap (is_among t.var) (with_terms-cons columns t ts) ∙ among-with_terms t.var (with_variable columns t.var) ts (among-itself t.var columns))
    (ap (λ vs. are_among vs ts) (with_terms-cons columns t ts) ∙ placed-with_terms (with_variable columns t.var) ts)

pub placed-more : (columns : List ℕ) (ts us : List Term) → are_among columns us ≡ true → are_among (with_terms columns ts) us ≡ true
placed-more columns ts [] h = refl
placed-more columns ts (u ∷ us) h =
    let parts = both (is_among u.var columns) (are_among columns us) h in
    join (is_among u.var (with_terms columns ts)) (are_among (with_terms columns ts) us) (among-with_terms u.var columns ts parts.0) (placed-more columns ts us parts.1)

-- terms whose variables have columns bring no new ones
pub with_terms-placed : (columns : List ℕ) (ts : List Term) → are_among columns ts ≡ true → with_terms columns ts ≡ columns
with_terms-placed columns [] h = with_terms-none columns
with_terms-placed columns (t ∷ ts) h =
    let parts = both (is_among t.var columns) (are_among columns ts) h in
    with_terms-cons columns t ts ∙ ap (λ vs. with_terms vs ts) (with_variable-among columns t.var parts.0) ∙ with_terms-placed columns ts parts.1

-- a variable without a column has the coefficient 0
coefficient-unplaced : (columns : List ℕ) (v : ℕ) (ts : List Term) → are_among columns ts ≡ true → is_among v columns ≡ false → coefficient_of v ts ≡ pos 0
coefficient-unplaced columns v [] h e = coefficient-none v
coefficient-unplaced columns v (t ∷ ts) h e =
    let parts = both (is_among t.var columns) (are_among columns ts) h in
    coefficient-other v t ts (go (t.var == v) refl parts.0) ∙ coefficient-unplaced columns v ts parts.1 e
  where
    go : (b : Bool) → (t.var == v) ≡ b → is_among t.var columns ≡ true → b ≡ false
    go false s k = refl
    go true s k = let there = ap (λ w. is_among w columns) (sym (same_number t.var v s)) ∙ k in cc

dense-one : (columns : List ℕ) (v : ℕ) (row : Linear) → length (with_variable columns v) ≤ 64 → are_among columns row.terms ≡ true
    → dense columns row ≡ dense (with_variable columns v) row
dense-one columns v row few h = go (is_among v columns) refl
  where
    go : (b : Bool) → is_among v columns ≡ b → dense columns row ≡ dense (with_variable columns v) row
    go true e = ap (λ vs. dense vs row) (sym (with_variable-among columns v e))
    go false e = dense-with columns v row few (coefficient-unplaced columns v row.terms h e)

placed-one : (columns : List ℕ) (v : ℕ) (us : List Term) → are_among columns us ≡ true → are_among (with_variable columns v) us ≡ true
placed-one columns v [] h = refl
placed-one columns v (u ∷ us) h =
    let parts = both (is_among u.var columns) (are_among columns us) h in
    join (is_among u.var (with_variable columns v)) (are_among (with_variable columns v) us) (among-with u.var v columns parts.0) (placed-one columns v us parts.1)

-- the cells of a row stay, where more variables get columns
pub dense-more : (columns : List ℕ) (ts : List Term) (row : Linear) → length (with_terms columns ts) ≤ 64 → are_among columns row.terms ≡ true
    → dense columns row ≡ dense (with_terms columns ts) row
dense-more columns [] row few h = ap (λ vs. dense vs row) (sym (with_terms-none columns))
dense-more columns (t ∷ ts) row few h =
    let later = with_terms-cons columns t ts in
    let few_later : length (with_terms (with_variable columns t.var) ts) ≤ 64 = omega (arith, ap length later) in
    dense-one columns t.var row (omega (arith, length-with_terms (with_variable columns t.var) ts)) h
    ∙ dense-more (with_variable columns t.var) ts row few_later (placed-one columns t.var row.terms h)
    ∙ ap (λ vs. dense vs row) (sym later)

pub dense_rows-more : (columns : List ℕ) (ts : List Term) (rows : List Linear) → length (with_terms columns ts) ≤ 64 → AreProper columns rows
    → map (dense columns) rows ≡ map (dense (with_terms columns ts)) rows
dense_rows-more columns ts [] few p = refl
dense_rows-more columns ts (row ∷ rows) few p =
    ap (λ cells. cells ∷ map (dense columns) rows) (dense-more columns ts row few p.0.placed)
    ∙ ap (λ all. dense (with_terms columns ts) row ∷ all) (dense_rows-more columns ts rows few p.1)

pub proper-more : (columns : List ℕ) (ts : List Term) (rows : List Linear) → AreProper columns rows → AreProper (with_terms columns ts) rows
proper-more columns ts [] p = tt
proper-more columns ts (row ∷ rows) p = (record { rising = p.0.rising; placed = placed-more columns ts row.terms p.0.placed }, proper-more columns ts rows p.1)

pub proper-push : (columns : List ℕ) (rows : List Linear) (row : Linear) → AreProper columns rows → IsProper columns row → AreProper columns (rows ++ row ∷ [])
proper-push columns [] row p q = (q, tt)
proper-push columns (r ∷ rows) row p q = (p.0, proper-push columns rows row p.1 q)

pub proper-at : (columns : List ℕ) (rows : List Linear) (k : ℕ) (row : Linear) → AreProper columns rows → slice_get rows k ≡ Some row → IsProper columns row
proper-at columns [] k row p e = cc
proper-at columns (r ∷ rows) zero row p e = let same : r ≡ row = cc in subst (IsProper columns) same p.0
proper-at columns (r ∷ rows) (suc k) row p e = proper-at columns rows k row p.1 e

-- ---- sums and multiples

placed-multiple : (columns : List ℕ) (var : ℕ) (coef : ℤ) (us : List Term) → is_among var columns ≡ true → are_among columns us ≡ true
    → are_among columns (with_multiple var coef us) ≡ true
placed-multiple columns var (pos zero) us h k = k
placed-multiple columns var (pos (suc n)) us h k = join (is_among var columns) (are_among columns us) h k
placed-multiple columns var (negsuc n) us h k = join (is_among var columns) (are_among columns us) h k

placed-plus : (columns : List ℕ) (t : Term) (us : List Term) → is_among t.var columns ≡ true → are_among columns us ≡ true → are_among columns (plus_term t us) ≡ true
unfolding plus_term
placed-plus columns t [] h k = placed-multiple columns t.var t.coef [] h k
placed-plus columns t (u ∷ us) h k =
    let parts = both (is_among u.var columns) (are_among columns us) k in
    elim (order t.var u.var) [
      | Lt e ↦ ap (are_among columns) (plus-front t u us e) ∙ placed-multiple columns t.var t.coef (u ∷ us) h k
      | Gt e ↦ ap (are_among columns) (plus-behind t u us e) ∙ join (is_among u.var columns) (are_among columns (plus_term t us)) parts.0 (placed-plus columns t us h parts.1)
      | Eq e ↦ ap (are_among columns) (plus-same t u us e) ∙ placed-multiple columns u.var (t.coef +ℤ u.coef) us parts.0 parts.1
    ]

placed-sum : (columns : List ℕ) (ts us : List Term) → are_among columns ts ≡ true → are_among columns us ≡ true → are_among columns (sum_terms ts us) ≡ true
unfolding sum_terms
placed-sum columns [] us h k = k
placed-sum columns (t ∷ ts) us h k =
    let parts = both (is_among t.var columns) (are_among columns ts) h in
    placed-plus columns t (sum_terms ts us) parts.0 (placed-sum columns ts us parts.1 k)

placed-scaled : (columns : List ℕ) (ts : List Term) (by : ℤ) → are_among columns ts ≡ true → are_among columns (scaled_terms ts by) ≡ true
unfolding scaled_terms
placed-scaled columns [] by h = refl
placed-scaled columns (t ∷ ts) by h =
    let parts = both (is_among t.var columns) (are_among columns ts) h in
    placed-multiple columns t.var (t.coef *ℤ by) (scaled_terms ts by) parts.0 (placed-scaled columns ts by parts.1)

pub proper-combination : (columns : List ℕ) (a b : ℤ) (x y : Linear) → IsProper columns x → IsProper columns y → IsProper columns (combination_of a x b y)
proper-combination columns a b x y p q = record {
  rising = IsRising-sum 0 (scaled_terms x.terms a) (scaled_terms y.terms b) (IsRising-scaled 0 x.terms a p.rising) (IsRising-scaled 0 y.terms b q.rising);
  placed = placed-sum columns (scaled_terms x.terms a) (scaled_terms y.terms b) (placed-scaled columns x.terms a p.placed) (placed-scaled columns y.terms b q.placed);
}

-- ---- quotients

-- a multiple that is not 0 has a quotient that is not 0
quotient-nonzero : (c by : ℤ) → is_multiple by c ≡ true → is_positive by ≡ true → c ≢ pos 0 → floor_over c by ≢ pos 0
quotient-nonzero (pos a) (pos b) m h n e =
    let divided : pos (a % b) ≡ pos 0 = (Decides-int_eq (pos (a % b)) (pos 0)).0 m in
    n (ap pos (vanishes a b (above a b h) divided e))
  where
    above : (a b : ℕ) → is_positive (pos b) ≡ true → 0 < b
    above a b h = grind (arith, ints)

    vanishes : (a b : ℕ) → 0 < b → pos (a % b) ≡ pos 0 → pos (a / b) ≡ pos 0 → a ≡ 0
    vanishes a b h d e =
        let r : a % b ≡ 0 = cc in
        let q : a / b ≡ 0 = cc in
        omega (arith, ap (λ k. b * k) q)
quotient-nonzero (negsuc a) (pos b) m h n e = cc
quotient-nonzero (pos a) (negsuc b) m h n e = cc
quotient-nonzero (negsuc a) (negsuc b) m h n e = cc

divided-rising : (low : ℕ) (ts : List Term) (by : ℤ) → is_positive by ≡ true → divides by ts ≡ true → IsRising low ts → IsRising low (map (divided_term by) ts)
divided-rising low [] by h d r = tt
divided-rising low (t ∷ ts) by h d r =
    let parts = both (is_multiple by t.coef) (divides by ts) d in
    (r.0, quotient-nonzero t.coef by parts.0 h r.1, divided-rising (suc t.var) ts by h parts.1 r.2)

placed-divided : (columns : List ℕ) (ts : List Term) (by : ℤ) → are_among columns (map (divided_term by) ts) ≡ are_among columns ts
placed-divided columns [] by = refl
placed-divided columns (t ∷ ts) by = ap (λ b. is_among t.var columns && b) (placed-divided columns ts by)

pub proper-cut : (columns : List ℕ) (x : Linear) (by : ℤ) → is_positive by ≡ true → divides by x.terms ≡ true → IsProper columns x → IsProper columns (cut_of x by)
proper-cut columns x by h d p = record {
  rising = divided-rising 0 x.terms by h d p.rising;
  placed = placed-divided columns x.terms by ∙ p.placed;
}
