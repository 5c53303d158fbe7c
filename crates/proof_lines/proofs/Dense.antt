-- The cells of a row: with one more column, and with one more term.
use Rattle.std.proofs.Common.{◌≡◌, ℕ, zero, suc, ◌+◌, ◌-◌, ◌≤◌, pos, ◌+ℤ◌, ◌==◌, ◌||◌, Bool, true, false, List, [], ◌∷◌, ◌++◌, length, set, Some, slice_get, refl, sym, ◌∙◌, ap, arith}
use Rattle.std.proofs.lemmas.List.{length-append}
use Rattle.std.proofs.lemmas.Bool.Decides.{nat_tests}
use Rattle.xan_lin.specs.Terms.{coefficient_of}
use Rattle.xan_lin.specs.Linear.{Linear}
use Rattle.xan_lin.specs.declared.term.Term.{Term}
use Rattle.xan_lin.proofs.Ring.{add_none, zero-add_ℤ}
use Rattle.proof_lines.specs.Variables.{is_among, with_variable}
use Rattle.proof_lines.specs.Cells.{AreDifferent, cells_of, dense}
use Rattle.proof_lines.proofs.Different.{equals_itself, among_at, with_variable-among, with_variable-new}
use Rattle.xan_lin.proofs.Coefficients.{coefficient-none, coefficient-append, coefficient-same, coefficient-other}

pub length-cells : (columns : List ℕ) (free : ℕ) (row : Linear) → length (cells_of columns free row) ≡ length columns + free + 1
unfolding cells_of
length-cells [] zero row = omega arith
length-cells [] (suc free) row = omega (arith, length-cells [] free row)
length-cells (v ∷ columns) free row = omega (arith, length-cells columns free row)

-- ---- one more column

pub cells-grow : (columns : List ℕ) (v free : ℕ) (row : Linear) → coefficient_of v row.terms ≡ pos 0
    → cells_of columns (suc free) row ≡ cells_of (columns ++ v ∷ []) free row
unfolding cells_of
cells-grow [] v free row h = ap (λ n. n ∷ cells_of [] free row) (sym h)
cells-grow (w ∷ columns) v free row h = ap (λ cells. coefficient_of w row.terms ∷ cells) (cells-grow columns v free row h)

pub dense-with : (columns : List ℕ) (v : ℕ) (row : Linear) → length (with_variable columns v) ≤ 64 → coefficient_of v row.terms ≡ pos 0
    → dense columns row ≡ dense (with_variable columns v) row
dense-with columns v row few h = go (is_among v columns) refl
  where
    go : (b : Bool) → is_among v columns ≡ b → dense columns row ≡ dense (with_variable columns v) row
    go true e = ap (λ vs. dense vs row) (sym (with_variable-among columns v e))
    go false e =
        let new = with_variable-new columns v e in
        let more : length (with_variable columns v) ≡ length columns + 1 = ap length new ∙ length-append columns (v ∷ []) in
        let left : 64 - length columns ≡ suc (64 - length (with_variable columns v)) = omega arith in
        ap (λ free. cells_of columns free row) left
        ∙ cells-grow columns v (64 - length (with_variable columns v)) row h
        ∙ ap (λ vs. cells_of vs (64 - length (with_variable columns v)) row) (sym new)

-- ---- one more term

abbrev pub with_term : Linear → Term → Linear
with_term row t = record { terms = row.terms ++ t ∷ []; constant = row.constant }

coefficient-push_same : (v : ℕ) (ts : List Term) (t : Term) → (t.var == v) ≡ true → coefficient_of v ts ≡ pos 0 → coefficient_of v (ts ++ t ∷ []) ≡ t.coef
coefficient-push_same v ts t e h =
    coefficient-append v ts (t ∷ [])
    ∙ ap (λ n. n +ℤ coefficient_of v (t ∷ [])) h
    ∙ zero-add_ℤ (coefficient_of v (t ∷ []))
    ∙ coefficient-same v t [] e
    ∙ ap (λ n. t.coef +ℤ n) (coefficient-none v)
    ∙ sym (add_none t.coef)

coefficient-push_other : (v : ℕ) (ts : List Term) (t : Term) → (t.var == v) ≡ false → coefficient_of v (ts ++ t ∷ []) ≡ coefficient_of v ts
coefficient-push_other v ts t e =
    coefficient-append v ts (t ∷ [])
    ∙ ap (λ n. coefficient_of v ts +ℤ n) (coefficient-other v t [] e ∙ coefficient-none v)
    ∙ sym (add_none (coefficient_of v ts))

apart : (a b : Bool) → (a || b) ≡ false → (a ≡ false) × (b ≡ false)
apart true b e = cc
apart false b e = (refl, e)

turned : (v w : ℕ) → (v == w) ≡ false → (w == v) ≡ false
turned v w e = grind (arith, nat_tests)

cells-without : (columns : List ℕ) (free : ℕ) (row : Linear) (t : Term) → is_among t.var columns ≡ false
    → cells_of columns free (with_term row t) ≡ cells_of columns free row
unfolding cells_of
cells-without [] zero row t h = refl
cells-without [] (suc free) row t h = ap (λ cells. pos 0 ∷ cells) (cells-without [] free row t h)
cells-without (w ∷ columns) free row t h =
    let parts = apart (w == t.var) (is_among t.var columns) h in
    ap (λ n. n ∷ cells_of columns free (with_term row t)) (coefficient-push_other w row.terms t (turned w t.var parts.0))
    ∙ ap (λ cells. coefficient_of w row.terms ∷ cells) (cells-without columns free row t parts.1)

other_at : (v w k : ℕ) (columns : List ℕ) → is_among w columns ≡ false → slice_get columns k ≡ Some v → (v == w) ≡ false
other_at v w k columns h e = go (v == w) refl
  where
    go : (b : Bool) → (v == w) ≡ b → b ≡ false
    go false s = refl
    go true s =
        let same : v ≡ w = grind (arith, nat_tests) in
        let there = among_at w k columns (e ∙ ap Some same) in
        cc

pub cells-set : (columns : List ℕ) (free k : ℕ) (row : Linear) (t : Term) → AreDifferent columns → slice_get columns k ≡ Some t.var
    → coefficient_of t.var row.terms ≡ pos 0 → set (cells_of columns free row) k t.coef ≡ cells_of columns free (with_term row t)
unfolding cells_of
cells-set [] free k row t d e h = cc
cells-set (w ∷ columns) free zero row t d e h =
    let same : w ≡ t.var = cc in
    let nowhere : is_among t.var columns ≡ false = ap (λ v. is_among v columns) (sym same) ∙ d.0 in
    ap (λ n. n ∷ cells_of columns free row)
    (sym (coefficient-push_same t.var row.terms t (equals_itself t.var) h) ∙ ap (λ v. coefficient_of v (row.terms ++ t ∷ [])) (sym same))
    ∙ ap (λ cells. coefficient_of w (row.terms ++ t ∷ []) ∷ cells) (sym (cells-without columns free row t nowhere))
cells-set (w ∷ columns) free (suc k) row t d e h =
    ap (λ n. n ∷ set (cells_of columns free row) k t.coef) (sym (coefficient-push_other w row.terms t (other_at t.var w k columns d.0 e)))
    ∙ ap (λ cells. coefficient_of w (row.terms ++ t ∷ []) ∷ cells) (cells-set columns free k row t d.1 e h)
