-- How far the sum of two rows has come, one column after another.
use Rattle.std.proofs.Common.{◌≡◌, ℕ, zero, suc, ◌+◌, ◌-◌, ◌<◌, ◌≤◌, ℤ, pos, ◌+ℤ◌, ◌*ℤ◌, ◌&&◌, true, false, List, [], ◌∷◌, ◌++◌, length, take, drop, replicate, set, get_or, refl, sym, ◌∙◌, ap, subst, arith}
use Rattle.std.specs.List.{list_all}
use Rattle.std.proofs.lemmas.List.{append_assoc, length-take-le, take-append-drop, take_more}
use Rattle.std.proofs.lemmas.List.Folds.{list_all-append}
use Rattle.xan_lin.specs.Linear.{is_within}
use Rattle.proof_lines.specs.Cells.{IsBlankBehind, combined_cells}
use Rattle.proof_lines.proofs.FilledCells.{Filled, filled_more, filled_all, false_inside, zeros-pass}
use Rattle.proof_lines.proofs.Proper.{join}
use Rattle.proof_lines.proofs.Quotients.{no_sum}

-- the sum of the columns so far
abbrev pub sum_to : ℕ → List ℤ → List ℤ → ℤ → ℤ → List ℤ
sum_to at left right a b = combined_cells a (take at left) b (take at right)

abbrev pub sum_at : ℕ → List ℤ → List ℤ → ℤ → ℤ → ℤ
sum_at at left right a b = (get_or left at (pos 0) *ℤ a) +ℤ (get_or right at (pos 0) *ℤ b)

pub record Combining (cells old left right : List ℤ) (a b : ℤ) (at : ℕ) : Type 0 where
  pub filled : Filled cells old (sum_to at left right a b) at
  pub small : list_all is_within (sum_to at left right a b) ≡ true

combined-append : (a b : ℤ) (xs ys us vs : List ℤ) → length xs ≡ length ys
    → combined_cells a (xs ++ us) b (ys ++ vs) ≡ combined_cells a xs b ys ++ combined_cells a us b vs
unfolding combined_cells
combined-append a b [] [] us vs h = refl
combined-append a b [] (y ∷ ys) us vs h = absurd (omega (arith, h))
combined-append a b (x ∷ xs) [] us vs h = absurd (omega (arith, h))
combined-append a b (x ∷ xs) (y ∷ ys) us vs h =
    ap (λ cells. ((x *ℤ a) +ℤ (y *ℤ b)) ∷ cells) (combined-append a b xs ys us vs (omega (arith, h)))

length-combined : (a b : ℤ) (xs ys : List ℤ) → length xs ≡ length ys → length (combined_cells a xs b ys) ≡ length xs
unfolding combined_cells
length-combined a b [] ys h = refl
length-combined a b (x ∷ xs) [] h = absurd (omega (arith, h))
length-combined a b (x ∷ xs) (y ∷ ys) h = omega (arith, length-combined a b xs ys (omega (arith, h)))

combined-one : (a b x y : ℤ) → combined_cells a (x ∷ []) b (y ∷ []) ≡ ((x *ℤ a) +ℤ (y *ℤ b)) ∷ []
unfolding combined_cells
combined-one a b x y = refl

combined-none : (a b : ℤ) → combined_cells a [] b [] ≡ []
unfolding combined_cells
combined-none a b = refl

combined-blank : (a b x y : ℤ) (n : ℕ)
    → combined_cells a (replicate n (pos 0) ++ x ∷ []) b (replicate n (pos 0) ++ y ∷ []) ≡ replicate n (pos 0) ++ ((x *ℤ a) +ℤ (y *ℤ b)) ∷ []
unfolding combined_cells
combined-blank a b x y zero = refl
combined-blank a b x y (suc n) =
    ap (λ cell. cell ∷ combined_cells a (replicate n (pos 0) ++ x ∷ []) b (replicate n (pos 0) ++ y ∷ [])) (no_sum a b)
    ∙ ap (λ cells. pos 0 ∷ cells) (combined-blank a b x y n)

-- ---- the columns

sum-more : (left right : List ℤ) (a b : ℤ) (at : ℕ) → at < length left → at < length right → length left ≡ length right
    → sum_to (at + 1) left right a b ≡ sum_to at left right a b ++ sum_at at left right a b ∷ []
sum-more left right a b at h k e =
    ap (λ xs. combined_cells a xs b (take (at + 1) right)) (take_more left at (pos 0) h)
    ∙ ap (λ ys. combined_cells a (take at left ++ get_or left at (pos 0) ∷ []) b ys) (take_more right at (pos 0) k)
    ∙ combined-append a b (take at left) (take at right) (get_or left at (pos 0) ∷ []) (get_or right at (pos 0) ∷ [])
    (length-take-le at left (omega arith) ∙ sym (length-take-le at right (omega arith)))
    ∙ ap (λ cells. sum_to at left right a b ++ cells) (combined-one a b (get_or left at (pos 0)) (get_or right at (pos 0)))

length-sum : (left right : List ℤ) (a b : ℤ) (at : ℕ) → at ≤ length left → at ≤ length right → length (sum_to at left right a b) ≡ at
length-sum left right a b at h k =
    length-combined a b (take at left) (take at right) (length-take-le at left h ∙ sym (length-take-le at right k)) ∙ length-take-le at left h

sum-split : (left right : List ℤ) (a b : ℤ) (at : ℕ) → at ≤ length left → at ≤ length right
    → combined_cells a left b right ≡ sum_to at left right a b ++ combined_cells a (drop at left) b (drop at right)
sum-split left right a b at h k =
    ap (λ xs. combined_cells a xs b right) (sym (take-append-drop at left))
    ∙ ap (λ ys. combined_cells a (take at left ++ drop at left) b ys) (sym (take-append-drop at right))
    ∙ combined-append a b (take at left) (take at right) (drop at left) (drop at right) (length-take-le at left h ∙ sym (length-take-le at right k))

pub combines_none : (old left right : List ℤ) (a b : ℤ) → Combining old old left right a b 0
combines_none old left right a b = record {
  filled = record { cells_are = ap (λ front. front ++ old) (sym (combined-none a b)); count = ap length (combined-none a b) };
  small = ap (λ cells. list_all is_within cells) (combined-none a b);
}

pub combines_more : (cells new old left right : List ℤ) (a b cell : ℤ) (at used : ℕ) → Combining cells old left right a b at
    → IsBlankBehind used old → IsBlankBehind used left → IsBlankBehind used right → used ≤ 64 → at < used
    → cell ≡ sum_at at left right a b → is_within cell ≡ true → new ≡ set cells at cell → Combining new old left right a b (at + 1)
combines_more cells new old left right a b cell at used c o l r few h e w change =
    let width = o.width in
    let below : at < length old = omega arith in
    let left_width = l.width in
    let right_width = r.width in
    let more : sum_to (at + 1) left right a b ≡ sum_to at left right a b ++ cell ∷ [] =
    sum-more left right a b at (omega arith) (omega arith) (left_width ∙ sym right_width) ∙ ap (λ n. sum_to at left right a b ++ n ∷ []) (sym e) in
    record {
      filled = filled_more cells new old (sum_to at left right a b) (sum_to (at + 1) left right a b) at cell c.filled below more change;
      small = ap (λ xs. list_all is_within xs) more ∙ list_all-append is_within (sum_to at left right a b) (cell ∷ [])
          ∙ join (list_all is_within (sum_to at left right a b)) (is_within cell && true) c.small (ap (λ t. t && true) w);
    }

pub combines_past : (cells old left right : List ℤ) (a b : ℤ) (at used : ℕ) → Combining cells old left right a b at
    → IsBlankBehind used old → IsBlankBehind used left → IsBlankBehind used right → used ≤ 64 → at < used
    → is_within (sum_at at left right a b) ≡ false → list_all is_within (combined_cells a left b right) ≡ false
combines_past cells old left right a b at used c o l r few h w =
    let left_width = l.width in
    let right_width = r.width in
    let later = combined_cells a (drop (at + 1) left) b (drop (at + 1) right) in
    ap (λ xs. list_all is_within xs)
    (sum-split left right a b (at + 1) (omega arith) (omega arith)
    ∙ ap (λ xs. xs ++ later) (sum-more left right a b at (omega arith) (omega arith) (left_width ∙ sym right_width))
    ∙ append_assoc (sum_to at left right a b) (sum_at at left right a b ∷ []) later)
    ∙ list_all-append is_within (sum_to at left right a b) (sum_at at left right a b ∷ later)
    ∙ false_inside (list_all is_within (sum_to at left right a b)) (is_within (sum_at at left right a b)) (list_all is_within later) w

-- ---- the constant

sum-whole : (left right : List ℤ) (a b : ℤ) (used : ℕ) → IsBlankBehind used left → IsBlankBehind used right → used ≤ 64
    → combined_cells a left b right ≡ sum_to used left right a b ++ (replicate (64 - used) (pos 0) ++ sum_at 64 left right a b ∷ [])
sum-whole left right a b used l r few =
    let left_width = l.width in
    let right_width = r.width in
    sum-split left right a b used (omega arith) (omega arith)
    ∙ ap (λ xs. sum_to used left right a b ++ combined_cells a xs b (drop used right)) l.blank
    ∙ ap (λ ys. sum_to used left right a b ++ combined_cells a (replicate (64 - used) (pos 0) ++ get_or left 64 (pos 0) ∷ []) b ys) r.blank
    ∙ ap (λ xs. sum_to used left right a b ++ xs) (combined-blank a b (get_or left 64 (pos 0)) (get_or right 64 (pos 0)) (64 - used))

pub constant_past : (left right : List ℤ) (a b : ℤ) (used : ℕ) → IsBlankBehind used left → IsBlankBehind used right → used ≤ 64
    → is_within (sum_at 64 left right a b) ≡ false → list_all is_within (combined_cells a left b right) ≡ false
constant_past left right a b used l r few w =
    let front = sum_to used left right a b ++ replicate (64 - used) (pos 0) in
    ap (λ xs. list_all is_within xs)
    (sum-whole left right a b used l r few ∙ sym (append_assoc (sum_to used left right a b) (replicate (64 - used) (pos 0)) (sum_at 64 left right a b ∷ [])))
    ∙ list_all-append is_within front (sum_at 64 left right a b ∷ [])
    ∙ false_inside (list_all is_within front) (is_within (sum_at 64 left right a b)) true w

pub combines_all : (cells new old left right : List ℤ) (a b constant : ℤ) (at used : ℕ) → Combining cells old left right a b at
    → IsBlankBehind used old → IsBlankBehind used left → IsBlankBehind used right → used ≤ 64 → used ≤ at → at ≤ used
    → constant ≡ sum_at 64 left right a b → is_within constant ≡ true → new ≡ set cells 64 constant
    → (new ≡ combined_cells a left b right) × (list_all is_within new ≡ true)
combines_all cells new old left right a b constant at used c o l r few h k e w change =
    let same : at ≡ used = omega arith in
    let front = sum_to at left right a b in
    let is : new ≡ front ++ (replicate (64 - at) (pos 0) ++ constant ∷ []) =
    filled_all cells new old front at constant c.filled (subst (λ (n : ℕ). IsBlankBehind n old) (sym same) o) (omega arith) change in (
      is ∙ ap (λ n. sum_to n left right a b ++ (replicate (64 - n) (pos 0) ++ constant ∷ [])) same
          ∙ ap (λ n. sum_to used left right a b ++ (replicate (64 - used) (pos 0) ++ n ∷ [])) e ∙ sym (sum-whole left right a b used l r few),
      ap (λ xs. list_all is_within xs) is ∙ list_all-append is_within front (replicate (64 - at) (pos 0) ++ constant ∷ [])
          ∙ join (list_all is_within front) (list_all is_within (replicate (64 - at) (pos 0) ++ constant ∷ [])) c.small
          (list_all-append is_within (replicate (64 - at) (pos 0)) (constant ∷ [])
          ∙ join (list_all is_within (replicate (64 - at) (pos 0))) (is_within constant && true) (zeros-pass is_within (64 - at) refl) (ap (λ t. t && true) w)),
    )
