-- Sums of cells, one after another.
use Rattle.std.proofs.Common.{◌≡◌, ℕ, suc, ◌+◌, ◌<◌, ◌≤◌, ℤ, pos, ◌+ℤ◌, ◌*ℤ◌, ◌&&◌, Bool, true, false, List, [], ◌∷◌, ◌++◌, length, drop, get_or, refl, sym, ◌∙◌, ap, arith}
use Rattle.std.specs.List.{list_all}
use Rattle.std.proofs.lemmas.List.{append_assoc, append-nil, length-append, drop_more, drop_all}
use Rattle.std.proofs.lemmas.List.Folds.{list_all-append}
use Rattle.xan_lin.specs.Linear.{is_within}
use Rattle.std.proofs.lemmas.Bool.Decides.{Decides-int_eq}
use Rattle.proof_lines.specs.Cells.{combined_cells, is_zero}
use Rattle.proof_lines.proofs.Proper.{both, join}
use Rattle.proof_lines.proofs.Quotients.{no_sum}

-- so many cells are summed
pub record Adding (made : List ℤ) (a : ℤ) (left : List ℤ) (b : ℤ) (right : List ℤ) (at : ℕ) : Type 0 where
  pub same : made ++ combined_cells a (drop at left) b (drop at right) ≡ combined_cells a left b right
  pub small : list_all is_within made ≡ true
  pub count : length made ≡ at

combined-cons : (a b x y : ℤ) (xs ys : List ℤ) → combined_cells a (x ∷ xs) b (y ∷ ys) ≡ ((x *ℤ a) +ℤ (y *ℤ b)) ∷ combined_cells a xs b ys
unfolding combined_cells
combined-cons a b x y xs ys = refl

combined-none : (a b : ℤ) (ys : List ℤ) → combined_cells a [] b ys ≡ []
unfolding combined_cells
combined-none a b ys = refl

pub adds_none : (made : List ℤ) (a : ℤ) (left : List ℤ) (b : ℤ) (right : List ℤ) → made ≡ [] → Adding made a left b right 0
adds_none made a left b right e = record {
  same = ap (λ xs. xs ++ combined_cells a left b right) e;
  small = ap (list_all is_within) e;
  count = ap length e;
}

abbrev pub sum_at : ℤ → List ℤ → ℤ → List ℤ → ℕ → ℤ
sum_at a left b right at = (get_or left at (pos 0) *ℤ a) +ℤ (get_or right at (pos 0) *ℤ b)

split : (a : ℤ) (left : List ℤ) (b : ℤ) (right : List ℤ) (at : ℕ) → at < length left → length left ≡ length right
    → combined_cells a (drop at left) b (drop at right) ≡ sum_at a left b right at ∷ combined_cells a (drop (at + 1) left) b (drop (at + 1) right)
split a left b right at h alike =
    ap (λ xs. combined_cells a xs b (drop at right)) (drop_more left at (pos 0) h)
    ∙ ap (λ ys. combined_cells a (get_or left at (pos 0) ∷ drop (at + 1) left) b ys) (drop_more right at (pos 0) (omega arith))
    ∙ combined-cons a b (get_or left at (pos 0)) (get_or right at (pos 0)) (drop (at + 1) left) (drop (at + 1) right)

pub adds_more : (made new : List ℤ) (a : ℤ) (left : List ℤ) (b : ℤ) (right : List ℤ) (at : ℕ) → Adding made a left b right at → at < length left → length left ≡ length right
    → new ≡ made ++ sum_at a left b right at ∷ [] → is_within (sum_at a left b right at) ≡ true → Adding new a left b right (at + 1)
adds_more made new a left b right at m h alike change small = record {
  same = ap (λ xs. xs ++ combined_cells a (drop (at + 1) left) b (drop (at + 1) right)) change
      ∙ append_assoc made (sum_at a left b right at ∷ []) (combined_cells a (drop (at + 1) left) b (drop (at + 1) right))
      ∙ ap (λ xs. made ++ xs) (sym (split a left b right at h alike)) ∙ m.same;
  small = ap (list_all is_within) change ∙ list_all-append is_within made (sum_at a left b right at ∷ [])
      ∙ join (list_all is_within made) (is_within (sum_at a left b right at) && true) m.small (join (is_within (sum_at a left b right at)) true small refl);
  count = ap length change ∙ length-append made (sum_at a left b right at ∷ []) ∙ ap (λ n. n + 1) m.count;
}

second_false : (a b : Bool) → b ≡ false → (a && b) ≡ false
second_false true b e = e
second_false false b e = refl

pub adds_past : (made : List ℤ) (a : ℤ) (left : List ℤ) (b : ℤ) (right : List ℤ) (at : ℕ) → Adding made a left b right at → at < length left → length left ≡ length right
    → is_within (sum_at a left b right at) ≡ false → list_all is_within (combined_cells a left b right) ≡ false
adds_past made a left b right at m h alike large =
    ap (list_all is_within) (sym m.same ∙ ap (λ xs. made ++ xs) (split a left b right at h alike))
    ∙ list_all-append is_within made (sum_at a left b right at ∷ combined_cells a (drop (at + 1) left) b (drop (at + 1) right))
    ∙ second_false (list_all is_within made) _ (ap (λ c. c && list_all is_within (combined_cells a (drop (at + 1) left) b (drop (at + 1) right))) large)

pub adds_all : (made : List ℤ) (a : ℤ) (left : List ℤ) (b : ℤ) (right : List ℤ) (at : ℕ) → Adding made a left b right at → length left ≤ at
    → (made ≡ combined_cells a left b right) × (list_all is_within made ≡ true)
adds_all made a left b right at m h = (
  sym (append-nil made) ∙ ap (λ xs. made ++ xs) (sym (ap (λ xs. combined_cells a xs b (drop at right)) (drop_all at left h) ∙ combined-none a b (drop at right))) ∙ m.same,
  m.small,
)

-- ---- behind the first

shifted : (a x : ℤ) (left : List ℤ) (b y : ℤ) (right : List ℤ) (at : ℕ) → sum_at a (x ∷ left) b (y ∷ right) (at + 1) ≡ sum_at a left b right at
shifted a x left b y right at = let next : at + 1 ≡ suc at = omega arith in ap (λ n. sum_at a (x ∷ left) b (y ∷ right) n) next

pub adds_next : (made new : List ℤ) (a x : ℤ) (left : List ℤ) (b y : ℤ) (right : List ℤ) (at : ℕ) → Adding made a (x ∷ left) b (y ∷ right) (at + 1) → at < length left → length left ≡ length right
    → new ≡ made ++ sum_at a left b right at ∷ [] → is_within (sum_at a left b right at) ≡ true → Adding new a (x ∷ left) b (y ∷ right) (at + 1 + 1)
adds_next made new a x left b y right at m h alike change small =
    let same = shifted a x left b y right at in
    adds_more made new a (x ∷ left) b (y ∷ right) (at + 1) m (omega arith) (omega (arith, alike)) (change ∙ ap (λ n. made ++ n ∷ []) (sym same)) (ap is_within same ∙ small)

pub adds_past_next : (made : List ℤ) (a x : ℤ) (left : List ℤ) (b y : ℤ) (right : List ℤ) (at : ℕ) → Adding made a (x ∷ left) b (y ∷ right) (at + 1) → at < length left → length left ≡ length right
    → is_within (sum_at a left b right at) ≡ false → list_all is_within (combined_cells a (x ∷ left) b (y ∷ right)) ≡ false
adds_past_next made a x left b y right at m h alike large =
    adds_past made a (x ∷ left) b (y ∷ right) (at + 1) m (omega arith) (omega (arith, alike)) (ap is_within (shifted a x left b y right at) ∙ large)

pub adds_first : (none made : List ℤ) (a x : ℤ) (left : List ℤ) (b y : ℤ) (right : List ℤ) → none ≡ [] → length left ≡ length right → made ≡ none ++ ((x *ℤ a) +ℤ (y *ℤ b)) ∷ []
    → is_within ((x *ℤ a) +ℤ (y *ℤ b)) ≡ true → Adding made a (x ∷ left) b (y ∷ right) 1
adds_first none made a x left b y right e alike change small =
    adds_more none made a (x ∷ left) b (y ∷ right) 0 (adds_none none a (x ∷ left) b (y ∷ right) e) (omega arith) (omega (arith, alike)) change small

pub adds_past_first : (none : List ℤ) (a x : ℤ) (left : List ℤ) (b y : ℤ) (right : List ℤ) → none ≡ [] → length left ≡ length right
    → is_within ((x *ℤ a) +ℤ (y *ℤ b)) ≡ false → list_all is_within (combined_cells a (x ∷ left) b (y ∷ right)) ≡ false
adds_past_first none a x left b y right e alike large =
    adds_past none a (x ∷ left) b (y ∷ right) 0 (adds_none none a (x ∷ left) b (y ∷ right) e) (omega arith) (omega (arith, alike)) large

-- ---- of numbers that are 0

pub sum_none : (x y a b : ℤ) → (is_zero x && is_zero y) ≡ true → (x *ℤ a) +ℤ (y *ℤ b) ≡ pos 0
sum_none x y a b e =
    let zeros = both (is_zero x) (is_zero y) e in
    ap (λ n. (n *ℤ a) +ℤ (y *ℤ b)) ((Decides-int_eq x (pos 0)).0 zeros.0) ∙ ap (λ n. (pos 0 *ℤ a) +ℤ (n *ℤ b)) ((Decides-int_eq y (pos 0)).0 zeros.1) ∙ no_sum a b
