-- Cells that are written over from the front, one column after another, and then the constant.
use Rattle.std.proofs.Common.{◌≡◌, ℕ, zero, suc, ◌+◌, ◌-◌, ◌<◌, ◌≤◌, ℤ, pos, ◌&&◌, Bool, true, false, List, [], ◌∷◌, ◌++◌, length, drop, map, replicate, set, get_or, Some, slice_get, Result, refl, sym, ◌∙◌, ap, subst, arith}
use Rattle.std.specs.List.{list_all}
use Rattle.std.proofs.lemmas.List.{append_assoc, length-append, length-replicate, replicate-append-replicate, set_at, drop_more}
use Rattle.std.proofs.lemmas.Grind.{replicate_next}
use Rattle.xan_lin.specs.Linear.{Linear}
use Rattle.proof_lines.specs.declared.bad_line.Why.{Why}
use Rattle.proof_lines.specs.Cells.{cells_of, dense, IsBlankBehind, AreBlankBehind, GivesRow}
use Rattle.proof_lines.proofs.Dense.{length-cells}
use Rattle.proof_lines.proofs.CellTests.{dense-constant}

-- in front of what is left of the old cells stands what was written
pub record Filled (cells old front : List ℤ) (at : ℕ) : Type 0 where
  pub cells_are : cells ≡ front ++ drop at old
  pub count : length front ≡ at

pub filled_more : (cells new old front more : List ℤ) (at : ℕ) (cell : ℤ) → Filled cells old front at → at < length old → more ≡ front ++ cell ∷ []
    → new ≡ set cells at cell → Filled new old more (at + 1)
filled_more cells new old front more at cell f h grown change = record {
  cells_are = change
      ∙ ap (λ xs. set xs at cell) (f.cells_are ∙ ap (λ xs. front ++ xs) (drop_more old at (pos 0) h))
      ∙ set_at front (get_or old at (pos 0)) (drop (at + 1) old) cell at f.count
      ∙ sym (append_assoc front (cell ∷ []) (drop (at + 1) old))
      ∙ ap (λ xs. xs ++ drop (at + 1) old) (sym grown);
  count = ap length grown ∙ length-append front (cell ∷ []) ∙ ap (λ n. n + 1) f.count;
}

pub filled_all : (cells new old front : List ℤ) (at : ℕ) (constant : ℤ) → Filled cells old front at → IsBlankBehind at old → at ≤ 64 → new ≡ set cells 64 constant
    → new ≡ front ++ (replicate (64 - at) (pos 0) ++ constant ∷ [])
filled_all cells new old front at constant f blank h change =
    let zeros = replicate (64 - at) (pos 0) in
    let count = f.count in
    let long : length (front ++ zeros) ≡ 64 = length-append front zeros ∙ ap (λ n. length front + n) (length-replicate (64 - at) (pos 0)) ∙ omega arith in
    change
    ∙ ap (λ xs. set xs 64 constant)
    (f.cells_are ∙ ap (λ xs. front ++ xs) blank.blank ∙ sym (append_assoc front zeros (get_or old 64 (pos 0) ∷ [])))
    ∙ set_at (front ++ zeros) (get_or old 64 (pos 0)) [] constant 64 long
    ∙ append_assoc front zeros (constant ∷ [])

-- ---- the row of a constant alone

abbrev pub Clearing : List ℤ → List ℤ → ℕ → Type 0
Clearing cells old at = Filled cells old (replicate at (pos 0)) at

pub clears_none : (old : List ℤ) → Clearing old old 0
clears_none old = record { cells_are = refl; count = refl }

pub clears_more : (cells new old : List ℤ) (at used : ℕ) → Clearing cells old at → IsBlankBehind used old → used ≤ 64 → at < used → new ≡ set cells at (pos 0)
    → Clearing new old (at + 1)
clears_more cells new old at used f blank few h change =
    let width = blank.width in
    filled_more cells new old (replicate at (pos 0)) (replicate (at + 1) (pos 0)) at (pos 0) f (omega arith) (replicate_next at (pos 0)) change

pub clears_all : (cells new old : List ℤ) (at used : ℕ) (constant : ℤ) → Clearing cells old at → IsBlankBehind used old → used ≤ 64 → used ≤ at → at ≤ used
    → new ≡ set cells 64 constant → new ≡ replicate 64 (pos 0) ++ constant ∷ []
clears_all cells new old at used constant f blank few h k change =
    let same : at ≡ used = omega arith in
    let all : used + (64 - used) ≡ 64 = omega arith in
    filled_all cells new old (replicate used (pos 0)) used constant (subst (λ (n : ℕ). Clearing cells old n) same f) blank few change
    ∙ sym (append_assoc (replicate used (pos 0)) (replicate (64 - used) (pos 0)) (constant ∷ []))
    ∙ ap (λ xs. xs ++ constant ∷ []) (replicate-append-replicate used (64 - used) (pos 0) ∙ ap (λ n. replicate n (pos 0)) all)

pub false_inside : (a b c : Bool) → b ≡ false → (a && (b && c)) ≡ false
false_inside true true c e = cc
false_inside true false c e = refl
false_inside false b c e = refl

-- a test that 0 passes
pub zeros-pass : (p : ℤ → Bool) (n : ℕ) → p (pos 0) ≡ true → list_all p (replicate n (pos 0)) ≡ true
zeros-pass p zero h = refl
zeros-pass p (suc n) h = ap (λ b. b && list_all p (replicate n (pos 0))) h ∙ zeros-pass p n h

-- ---- rows in cells are blank behind the columns in use

pub cells-free : (free : ℕ) (row : Linear) → cells_of [] free row ≡ replicate free (pos 0) ++ row.constant ∷ []
unfolding cells_of
cells-free zero row = refl
cells-free (suc free) row = ap (λ cells. pos 0 ∷ cells) (cells-free free row)

cells-behind : (columns : List ℕ) (free : ℕ) (row : Linear) → drop (length columns) (cells_of columns free row) ≡ cells_of [] free row
unfolding cells_of
cells-behind [] zero row = refl
cells-behind [] (suc free) row = refl
cells-behind (v ∷ columns) free row = cells-behind columns free row

blank-dense : (columns : List ℕ) (row : Linear) → length columns ≤ 64 → IsBlankBehind (length columns) (dense columns row)
blank-dense columns row few = record {
  width = length-cells columns (64 - length columns) row ∙ (let all : length columns + (64 - length columns) + 1 ≡ 65 = omega arith in all);
  blank = cells-behind columns (64 - length columns) row ∙ cells-free (64 - length columns) row
      ∙ ap (λ n. replicate (64 - length columns) (pos 0) ++ n ∷ []) (sym (dense-constant columns row few));
}

-- the cells of a row that was given are blank behind the columns that are then in use
pub blank-given : (before after : List ℕ) (cells : List ℤ) (answer : Result Linear Why) → GivesRow before after cells answer → IsBlankBehind (length after) cells
blank-given before after cells answer g = subst (λ (xs : List ℤ). IsBlankBehind (length after) xs) (sym g.cells_are) (blank-dense after g.row g.few)

-- so are cells of 0
pub blank-zeros : (columns : List ℕ) (cells : List ℤ) → columns ≡ [] → cells ≡ replicate 65 (pos 0) → IsBlankBehind (length columns) cells
blank-zeros columns cells none is =
    subst (λ (vs : List ℕ). IsBlankBehind (length vs) cells) (sym none)
    (subst (λ (xs : List ℤ). IsBlankBehind 0 xs) (sym is) (record { width = refl; blank = refl }))

pub blank-rows : (columns : List ℕ) (rows : List Linear) → length columns ≤ 64 → AreBlankBehind (length columns) (map (dense columns) rows)
blank-rows columns [] few = tt
blank-rows columns (row ∷ rows) few = (blank-dense columns row few, blank-rows columns rows few)

pub blank-cells : (columns : List ℕ) (cells : List (List ℤ)) (rows : List Linear) → cells ≡ map (dense columns) rows → length columns ≤ 64
    → AreBlankBehind (length columns) cells
blank-cells columns cells rows e few = subst (λ (all : List (List ℤ)). AreBlankBehind (length columns) all) (sym e) (blank-rows columns rows few)

pub blank_at : (used i : ℕ) (rows : List (List ℤ)) (cells : List ℤ) → AreBlankBehind used rows → slice_get rows i ≡ Some cells → IsBlankBehind used cells
blank_at used i [] cells b e = cc
blank_at used zero (row ∷ rows) cells b e =
    let same : row ≡ cells = cc in
    subst (λ (xs : List ℤ). IsBlankBehind used xs) same b.0
blank_at used (suc i) (row ∷ rows) cells b e = blank_at used i rows cells b.1 e
