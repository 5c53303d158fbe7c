-- How far the quotient of a row has come, one column after another.
use Rattle.std.proofs.Common.{◌≡◌, ℕ, zero, suc, ◌+◌, ◌-◌, ◌<◌, ◌≤◌, ℤ, pos, ◌&&◌, Bool, true, false, List, [], ◌∷◌, ◌++◌, length, take, drop, map, replicate, set, get_or, refl, sym, ◌∙◌, ap, subst, arith}
use Rattle.std.specs.List.{list_all}
use Rattle.std.proofs.Math.Seq.{take-append_seam}
use Rattle.std.proofs.lemmas.List.{append_assoc, length-append, length-replicate, length-take-le, take-append-drop, take_more, map-append, get_or-take}
use Rattle.std.proofs.lemmas.List.Folds.{list_all-append}
use Rattle.proof_lines.specs.Rows.{floor_over, is_multiple}
use Rattle.proof_lines.specs.Check.{is_positive}
use Rattle.proof_lines.specs.Cells.{IsBlankBehind}
use Rattle.proof_lines.proofs.FilledCells.{Filled, filled_more, filled_all, zeros-pass}
use Rattle.proof_lines.proofs.Proper.{join}
use Rattle.proof_lines.proofs.Quotients.{floor-zero, multiple-zero}

abbrev pub floors : ℤ → List ℤ → List ℤ
floors by row = map (λ cell. floor_over cell by) row

pub record Cutting (cells old row : List ℤ) (by : ℤ) (at : ℕ) : Type 0 where
  pub filled : Filled cells old (floors by (take at row)) at
  pub whole : list_all (is_multiple by) (take at row) ≡ true

pub cuts_none : (old row : List ℤ) (by : ℤ) → Cutting old old row by 0
cuts_none old row by = record { filled = record { cells_are = refl; count = refl }; whole = refl }

pub cuts_more : (cells new old row : List ℤ) (by cell : ℤ) (at used : ℕ) → Cutting cells old row by at → IsBlankBehind used old → IsBlankBehind used row → used ≤ 64 → at < used
    → cell ≡ floor_over (get_or row at (pos 0)) by → is_multiple by (get_or row at (pos 0)) ≡ true → new ≡ set cells at cell → Cutting new old row by (at + 1)
cuts_more cells new old row by cell at used c o r few h e w change =
    let width = r.width in
    let old_width = o.width in
    let below : at < length old = omega arith in
    let more : take (at + 1) row ≡ take at row ++ get_or row at (pos 0) ∷ [] = take_more row at (pos 0) (omega arith) in
    record {
      filled = filled_more cells new old (floors by (take at row)) (floors by (take (at + 1) row)) at cell c.filled below
          (ap (floors by) more ∙ map-append (λ n. floor_over n by) (take at row) (get_or row at (pos 0) ∷ [])
          ∙ ap (λ n. floors by (take at row) ++ n ∷ []) (sym e)) change;
      whole = ap (λ xs. list_all (is_multiple by) xs) more ∙ list_all-append (is_multiple by) (take at row) (get_or row at (pos 0) ∷ [])
          ∙ join (list_all (is_multiple by) (take at row)) (is_multiple by (get_or row at (pos 0)) && true) c.whole (ap (λ t. t && true) w);
    }

-- the row by its columns in use
row-whole : (row : List ℤ) (used : ℕ) → IsBlankBehind used row
    → row ≡ take used row ++ (replicate (64 - used) (pos 0) ++ get_or row 64 (pos 0) ∷ [])
row-whole row used r = sym (take-append-drop used row) ∙ ap (λ xs. take used row ++ xs) r.blank

columns-whole : (row : List ℤ) (used : ℕ) → IsBlankBehind used row → used ≤ 64 → take 64 row ≡ take used row ++ replicate (64 - used) (pos 0)
columns-whole row used r few =
    let width = r.width in
    let zeros = replicate (64 - used) (pos 0) in
    let front = take used row ++ zeros in
    let long : length front ≡ 64 = length-append (take used row) zeros ∙ ap (λ n. n + length zeros) (length-take-le used row (omega arith))
    ∙ ap (λ n. used + n) (length-replicate (64 - used) (pos 0)) ∙ omega arith in
    ap (take 64) (row-whole row used r ∙ sym (append_assoc (take used row) zeros (get_or row 64 (pos 0) ∷ [])))
    ∙ ap (λ n. take n (front ++ get_or row 64 (pos 0) ∷ [])) (sym long)
    ∙ take-append_seam front (get_or row 64 (pos 0) ∷ [])

fails_at : (p : ℤ → Bool) (xs : List ℤ) (i : ℕ) → i < length xs → p (get_or xs i (pos 0)) ≡ false → list_all p xs ≡ false
fails_at p [] i h e = absurd (omega (arith, h))
fails_at p (x ∷ xs) zero h e = ap (λ b. b && list_all p xs) e
fails_at p (x ∷ xs) (suc i) h e = go (p x) (fails_at p xs i (omega (arith, h)) e)
  where
    go : (b : Bool) → list_all p xs ≡ false → (b && list_all p xs) ≡ false
    go true f = f
    go false f = refl

left_false : (a b : Bool) → a ≡ false → (a && b) ≡ false
left_false true b e = cc
left_false false b e = refl

pub cuts_past : (row : List ℤ) (by : ℤ) (at used : ℕ) → IsBlankBehind used row → used ≤ 64 → at < used
    → is_multiple by (get_or row at (pos 0)) ≡ false → list_all (is_multiple by) (take 64 row) ≡ false
cuts_past row by at used r few h w =
    let width = r.width in
    let more : take (at + 1) row ≡ take at row ++ get_or row at (pos 0) ∷ [] = take_more row at (pos 0) (omega arith) in
    let later = drop (at + 1) (take 64 row) in
    ap (λ xs. list_all (is_multiple by) xs) (columns-whole row used r few)
    ∙ list_all-append (is_multiple by) (take used row) (replicate (64 - used) (pos 0))
    ∙ left_false (list_all (is_multiple by) (take used row)) (list_all (is_multiple by) (replicate (64 - used) (pos 0)))
    (fails_at (is_multiple by) (take used row) at (omega (arith, length-take-le used row (omega arith))) (ap (is_multiple by) (get_or-take used row at (pos 0) h) ∙ w))

floors-zeros : (by x : ℤ) (n : ℕ) → is_positive by ≡ true → floors by (replicate n (pos 0) ++ x ∷ []) ≡ replicate n (pos 0) ++ floor_over x by ∷ []
floors-zeros by x zero h = refl
floors-zeros by x (suc n) h = ap (λ cell. cell ∷ floors by (replicate n (pos 0) ++ x ∷ [])) (floor-zero by h) ∙ ap (λ cells. pos 0 ∷ cells) (floors-zeros by x n h)

pub cuts_all : (cells new old row : List ℤ) (by constant : ℤ) (at used : ℕ) → Cutting cells old row by at → IsBlankBehind used old → IsBlankBehind used row → used ≤ 64 → used ≤ at → at ≤ used
    → is_positive by ≡ true → constant ≡ floor_over (get_or row 64 (pos 0)) by → new ≡ set cells 64 constant
    → (new ≡ floors by row) × (list_all (is_multiple by) (take 64 row) ≡ true)
cuts_all cells new old row by constant at used c o r few h k positive e change =
    let same : at ≡ used = omega arith in
    let zeros = replicate (64 - used) (pos 0) in (
      filled_all cells new old (floors by (take at row)) at constant c.filled (subst (λ (n : ℕ). IsBlankBehind n old) (sym same) o) (omega arith) change
          ∙ ap (λ n. floors by (take n row) ++ (replicate (64 - n) (pos 0) ++ constant ∷ [])) same
          ∙ ap (λ n. floors by (take used row) ++ (zeros ++ n ∷ [])) e
          ∙ ap (λ xs. floors by (take used row) ++ xs) (sym (floors-zeros by (get_or row 64 (pos 0)) (64 - used) positive))
          ∙ sym (map-append (λ n. floor_over n by) (take used row) (zeros ++ get_or row 64 (pos 0) ∷ []))
          ∙ ap (floors by) (sym (row-whole row used r)),
      ap (λ xs. list_all (is_multiple by) xs) (columns-whole row used r few)
          ∙ list_all-append (is_multiple by) (take used row) zeros
          ∙ join (list_all (is_multiple by) (take used row)) (list_all (is_multiple by) zeros)
          (ap (λ n. list_all (is_multiple by) (take n row)) (sym same) ∙ c.whole) (zeros-pass (is_multiple by) (64 - used) (multiple-zero by positive)),
    )
