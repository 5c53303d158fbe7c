-- A test of all cells of a row is the test of its coefficients and its constant.
use Rattle.std.proofs.Common.{◌≡◌, ℕ, zero, suc, ◌+◌, ◌-◌, ◌≤◌, ℤ, pos, ◌+ℤ◌, ◌&&◌, ◌||◌, ◌==◌, Bool, true, false, List, [], ◌∷◌, ◌++◌, length, take, get_or, refl, sym, ◌∙◌, ap, arith}
use Rattle.std.specs.List.{list_all}
use Rattle.std.proofs.Math.Seq.{take-append_seam, get_or-append_seam}
use Rattle.std.proofs.lemmas.List.Folds.{list_all-append}
use Rattle.xan_lin.specs.Terms.{IsRising, coefficient_of}
use Rattle.xan_lin.specs.Linear.{Linear}
use Rattle.xan_lin.specs.declared.term.Term.{Term}
use Rattle.xan_lin.proofs.Ring.{add_none}
use Rattle.proof_lines.specs.Variables.{is_among}
use Rattle.proof_lines.specs.Cells.{cells_of, dense, are_among, IsProper}
use Rattle.proof_lines.proofs.Different.{same_number}
use Rattle.xan_lin.proofs.Coefficients.{coefficient-none, coefficient-same, coefficient-other, coefficient-below}

-- ---- the cells of the columns, without the constant

column_cells : List ℕ → ℕ → List Term → List ℤ
column_cells [] zero ts = []
column_cells [] (suc free) ts = pos 0 ∷ column_cells [] free ts
column_cells (v ∷ columns) free ts = coefficient_of v ts ∷ column_cells columns free ts

cells-split : (columns : List ℕ) (free : ℕ) (row : Linear) → cells_of columns free row ≡ column_cells columns free row.terms ++ row.constant ∷ []
unfolding cells_of column_cells
cells-split [] zero row = refl
cells-split [] (suc free) row = ap (λ cells. pos 0 ∷ cells) (cells-split [] free row)
cells-split (v ∷ columns) free row = ap (λ cells. coefficient_of v row.terms ∷ cells) (cells-split columns free row)

length-column_cells : (columns : List ℕ) (free : ℕ) (ts : List Term) → length (column_cells columns free ts) ≡ length columns + free
unfolding column_cells
length-column_cells [] zero ts = omega arith
length-column_cells [] (suc free) ts = omega (arith, length-column_cells [] free ts)
length-column_cells (v ∷ columns) free ts = omega (arith, length-column_cells columns free ts)

take_columns : (cells : List ℤ) (c : ℤ) → length cells ≡ 64 → take 64 (cells ++ c ∷ []) ≡ cells
take_columns cells c h = ap (λ n. take n (cells ++ c ∷ [])) (sym h) ∙ take-append_seam cells (c ∷ [])

get_constant : (cells : List ℤ) (c : ℤ) → length cells ≡ 64 → get_or (cells ++ c ∷ []) 64 (pos 0) ≡ c
get_constant cells c h = ap (λ n. get_or (cells ++ c ∷ []) n (pos 0)) (sym h) ∙ get_or-append_seam cells c [] (pos 0)

full : (columns : List ℕ) (ts : List Term) → length columns ≤ 64 → length (column_cells columns (64 - length columns) ts) ≡ 64
full columns ts h = length-column_cells columns (64 - length columns) ts ∙ (let all : length columns + (64 - length columns) ≡ 64 = omega arith in all)

-- ---- a test that 0 passes

abbrev all_columns : (ℤ → Bool) → List ℕ → List Term → Bool
all_columns p columns ts = list_all (λ v. p (coefficient_of v ts)) columns

column_cells-pass : (p : ℤ → Bool) (columns : List ℕ) (free : ℕ) (ts : List Term) → p (pos 0) ≡ true → list_all p (column_cells columns free ts) ≡ all_columns p columns ts
unfolding column_cells
column_cells-pass p [] zero ts z = refl
column_cells-pass p [] (suc free) ts z = ap (λ b. b && list_all p (column_cells [] free ts)) z ∙ column_cells-pass p [] free ts z
column_cells-pass p (v ∷ columns) free ts z = ap (λ b. p (coefficient_of v ts) && b) (column_cells-pass p columns free ts z)

both : (a b : Bool) → (a && b) ≡ true → (a ≡ true) × (b ≡ true)
both true b e = (refl, e)
both false b e = cc

join : (a b : Bool) → a ≡ true → b ≡ true → (a && b) ≡ true
join true b e f = f
join false b e f = e

-- the coefficient of a variable in front of others is that of its term
coefficient-first : (t : Term) (ts : List Term) (v : ℕ) → (t.var == v) ≡ true → IsRising (suc t.var) ts → coefficient_of v (t ∷ ts) ≡ t.coef
coefficient-first t ts v e r =
    let same = same_number t.var v e in
    coefficient-same v t ts e ∙ ap (λ n. t.coef +ℤ n) (coefficient-below v (suc t.var) ts (omega arith) r) ∙ sym (add_none t.coef)

rest-none : (t : Term) (ts : List Term) (v : ℕ) → (t.var == v) ≡ true → IsRising (suc t.var) ts → coefficient_of v ts ≡ pos 0
rest-none t ts v e r = let same = same_number t.var v e in coefficient-below v (suc t.var) ts (omega arith) r

-- where the columns pass with a term, they do without it
without : (p : ℤ → Bool) (columns : List ℕ) (t : Term) (ts : List Term) → p (pos 0) ≡ true → IsRising (suc t.var) ts
    → all_columns p columns (t ∷ ts) ≡ true → all_columns p columns ts ≡ true
without p [] t ts z r h = refl
without p (v ∷ columns) t ts z r h =
    let parts = both (p (coefficient_of v (t ∷ ts))) (all_columns p columns (t ∷ ts)) h in
    join (p (coefficient_of v ts)) (all_columns p columns ts) (go (t.var == v) refl parts.0) (without p columns t ts z r parts.1)
  where
    go : (b : Bool) → (t.var == v) ≡ b → p (coefficient_of v (t ∷ ts)) ≡ true → p (coefficient_of v ts) ≡ true
    go true e k = ap p (rest-none t ts v e r) ∙ z
    go false e k = ap p (sym (coefficient-other v t ts e)) ∙ k

-- and the column of the term passes
at_term : (p : ℤ → Bool) (columns : List ℕ) (t : Term) (ts : List Term) → IsRising (suc t.var) ts → is_among t.var columns ≡ true
    → all_columns p columns (t ∷ ts) ≡ true → p t.coef ≡ true
at_term p [] t ts r among h = cc
at_term p (v ∷ columns) t ts r among h =
    let parts = both (p (coefficient_of v (t ∷ ts))) (all_columns p columns (t ∷ ts)) h in
    go (v == t.var) refl among parts.0 (λ a. at_term p columns t ts r a parts.1)
  where
    go : (b : Bool) → (v == t.var) ≡ b → (b || is_among t.var columns) ≡ true → p (coefficient_of v (t ∷ ts)) ≡ true
        → (is_among t.var columns ≡ true → p t.coef ≡ true) → p t.coef ≡ true
    go true e a k more =
        let same = same_number v t.var e in
        let turned : (t.var == v) ≡ true = ap (λ w. w == v) (sym same) ∙ ap (λ w. v == w) same ∙ e in
        ap p (sym (coefficient-first t ts v turned r)) ∙ k
    go false e a k more = more a

passes_from : (p : ℤ → Bool) (columns : List ℕ) (low : ℕ) (ts : List Term) → p (pos 0) ≡ true → IsRising low ts → are_among columns ts ≡ true
    → all_columns p columns ts ≡ true → list_all (λ t. p t.coef) ts ≡ true
passes_from p columns low [] z r among h = refl
passes_from p columns low (t ∷ ts) z r among h =
    let parts = both (is_among t.var columns) (are_among columns ts) among in
    join (p t.coef) (list_all (λ u. p u.coef) ts) (at_term p columns t ts r.2 parts.0 h)
    (passes_from p columns (suc t.var) ts z r.2 parts.1 (without p columns t ts z r.2 h))

-- where the columns pass without a term and it does, they pass with it
with_one : (p : ℤ → Bool) (columns : List ℕ) (t : Term) (ts : List Term) → IsRising (suc t.var) ts → p t.coef ≡ true
    → all_columns p columns ts ≡ true → all_columns p columns (t ∷ ts) ≡ true
with_one p [] t ts r one h = refl
with_one p (v ∷ columns) t ts r one h =
    let parts = both (p (coefficient_of v ts)) (all_columns p columns ts) h in
    join (p (coefficient_of v (t ∷ ts))) (all_columns p columns (t ∷ ts)) (go (t.var == v) refl parts.0) (with_one p columns t ts r one parts.1)
  where
    go : (b : Bool) → (t.var == v) ≡ b → p (coefficient_of v ts) ≡ true → p (coefficient_of v (t ∷ ts)) ≡ true
    go true e k = ap p (coefficient-first t ts v e r) ∙ one
    go false e k = ap p (coefficient-other v t ts e) ∙ k

nothing-passes : (p : ℤ → Bool) (columns : List ℕ) → p (pos 0) ≡ true → all_columns p columns [] ≡ true
nothing-passes p [] z = refl
nothing-passes p (v ∷ columns) z = join (p (coefficient_of v [])) (all_columns p columns []) (ap p (coefficient-none v) ∙ z) (nothing-passes p columns z)

passes_to : (p : ℤ → Bool) (columns : List ℕ) (low : ℕ) (ts : List Term) → p (pos 0) ≡ true → IsRising low ts
    → list_all (λ t. p t.coef) ts ≡ true → all_columns p columns ts ≡ true
passes_to p columns low [] z r h = nothing-passes p columns z
passes_to p columns low (t ∷ ts) z r h =
    let parts = both (p t.coef) (list_all (λ u. p u.coef) ts) h in
    with_one p columns t ts r.2 parts.0 (passes_to p columns (suc t.var) ts z r.2 parts.1)

same_truth : (a b : Bool) → (a ≡ true → b ≡ true) → (b ≡ true → a ≡ true) → a ≡ b
same_truth true b f g = sym (f refl)
same_truth false true f g = g refl
same_truth false false f g = refl

pub columns-pass : (p : ℤ → Bool) (columns : List ℕ) (row : Linear) → p (pos 0) ≡ true → length columns ≤ 64 → IsProper columns row
    → list_all p (take 64 (dense columns row)) ≡ list_all (λ t. p t.coef) row.terms
columns-pass p columns row z few proper =
    let cells = column_cells columns (64 - length columns) row.terms in
    ap (λ xs. list_all p (take 64 xs)) (cells-split columns (64 - length columns) row)
    ∙ ap (λ xs. list_all p xs) (take_columns cells row.constant (full columns row.terms few))
    ∙ column_cells-pass p columns (64 - length columns) row.terms z
    ∙ same_truth (all_columns p columns row.terms) (list_all (λ t. p t.coef) row.terms)
    (passes_from p columns 0 row.terms z proper.rising proper.placed) (passes_to p columns 0 row.terms z proper.rising)

pub dense-constant : (columns : List ℕ) (row : Linear) → length columns ≤ 64 → get_or (dense columns row) 64 (pos 0) ≡ row.constant
dense-constant columns row few =
    ap (λ xs. get_or xs 64 (pos 0)) (cells-split columns (64 - length columns) row)
    ∙ get_constant (column_cells columns (64 - length columns) row.terms) row.constant (full columns row.terms few)

last-pass : (a b c : Bool) → b ≡ c → (a && (b && true)) ≡ (a && c)
last-pass true true c e = e
last-pass true false c e = e
last-pass false b c e = refl

pub cells-pass : (p : ℤ → Bool) (columns : List ℕ) (row : Linear) → p (pos 0) ≡ true → length columns ≤ 64 → IsProper columns row
    → list_all p (dense columns row) ≡ (list_all (λ t. p t.coef) row.terms && p row.constant)
cells-pass p columns row z few proper =
    let cells = column_cells columns (64 - length columns) row.terms in
    ap (λ xs. list_all p xs) (cells-split columns (64 - length columns) row)
    ∙ list_all-append p cells (row.constant ∷ [])
    ∙ last-pass (list_all p cells) (p row.constant) (p row.constant) refl
    ∙ ap (λ b. b && p row.constant) (column_cells-pass p columns (64 - length columns) row.terms z
    ∙ same_truth (all_columns p columns row.terms) (list_all (λ t. p t.coef) row.terms)
    (passes_from p columns 0 row.terms z proper.rising proper.placed) (passes_to p columns 0 row.terms z proper.rising))
