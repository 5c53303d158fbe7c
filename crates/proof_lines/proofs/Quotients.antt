-- Floors of numbers and of cells.
use Rattle.std.proofs.Common.{◌≡◌, ℕ, zero, suc, ◌/◌, ◌%◌, ◌^◌, ◌<◌, ◌≤◌, ℤ, pos, negsuc, ◌+ℤ◌, ◌*ℤ◌, ◌==◌, Bool, true, false, nat_lt, List, [], ◌∷◌, map, unsigned_abs, refl, sym, ◌∙◌, ap, arith}
use Rattle.std.proofs.lemmas.Int.{ints}
use Rattle.std.proofs.lemmas.Bool.Decides.{nat_tests, Decides-int_eq}
use Rattle.xan_lin.specs.Terms.{IsRising, scaled_terms, coefficient_of}
use Rattle.xan_lin.specs.Linear.{Linear, is_within, all_within, are_within}
use Rattle.xan_lin.specs.declared.term.Term.{Term}
use Rattle.xan_lin.proofs.Ring.{add_none, zero-mul}
use Rattle.proof_lines.specs.Rows.{combination_of, floor_over, remainder, is_multiple, divided_term, cut_of}
use Rattle.proof_lines.specs.Check.{is_positive}
use Rattle.proof_lines.specs.Cells.{cells_of, combined_cells}
use Rattle.proof_lines.proofs.Different.{same_number}
use Rattle.xan_lin.proofs.Coefficients.{coefficient-none, coefficient-same, coefficient-other, coefficient-below, coefficient-sum, coefficient-scaled}
use Rattle.proof_lines.proofs.Proper.{both, join}

-- ---- numbers

above : (b : ℕ) → is_positive (pos b) ≡ true → 0 < b
above b h = grind (arith, ints)

no_part : (b : ℕ) → 0 < b → 0 / b ≡ 0
no_part b h = grind arith

no_rest : (b : ℕ) → 0 < b → 0 % b ≡ 0
no_rest b h = grind arith

pub floor-zero : (by : ℤ) → is_positive by ≡ true → floor_over (pos 0) by ≡ pos 0
floor-zero (pos b) h = ap pos (no_part b (above b h))
floor-zero (negsuc b) h = cc

pub multiple-zero : (by : ℤ) → is_positive by ≡ true → is_multiple by (pos 0) ≡ true
multiple-zero (pos b) h = (Decides-int_eq (pos (0 % b)) (pos 0)).1 (ap pos (no_rest b (above b h)))
multiple-zero (negsuc b) h = cc

part_of : (a b : ℕ) → 0 < b → a / b ≤ a
part_of a b h = grind arith

smaller : (m n : ℕ) → nat_lt m (2 ^ 62) ≡ true → n ≤ m → nat_lt n (2 ^ 62) ≡ true
smaller m n h le = grind (arith, nat_tests)

pub within-floor : (c by : ℤ) → is_positive by ≡ true → is_within c ≡ true → is_within (floor_over c by) ≡ true
within-floor (pos a) (pos b) h w = smaller a (a / b) w (part_of a b (above b h))
within-floor (negsuc a) (pos b) h w =
    let part = part_of a b (above b h) in
    smaller (unsigned_abs (negsuc a)) (unsigned_abs (negsuc (a / b))) w (omega arith)
within-floor (pos a) (negsuc b) h w = cc
within-floor (negsuc a) (negsuc b) h w = cc

all_within-floor : (ts : List Term) (by : ℤ) → is_positive by ≡ true → all_within ts ≡ true → all_within (map (divided_term by) ts) ≡ true
all_within-floor [] by h w = refl
all_within-floor (t ∷ ts) by h w =
    let parts = both (is_within t.coef) (all_within ts) w in
    join (is_within (floor_over t.coef by)) (all_within (map (divided_term by) ts)) (within-floor t.coef by h parts.0) (all_within-floor ts by h parts.1)

pub cut-small : (x : Linear) (by : ℤ) → is_positive by ≡ true → are_within x.terms x.constant ≡ true → are_within (cut_of x by).terms (cut_of x by).constant ≡ true
cut-small x by h w =
    let parts = both (all_within x.terms) (is_within x.constant) w in
    join (all_within (map (divided_term by) x.terms)) (is_within (floor_over x.constant by)) (all_within-floor x.terms by h parts.0) (within-floor x.constant by h parts.1)

-- ---- coefficients

coefficient-divided : (low v : ℕ) (ts : List Term) (by : ℤ) → is_positive by ≡ true → IsRising low ts
    → coefficient_of v (map (divided_term by) ts) ≡ floor_over (coefficient_of v ts) by
coefficient-divided low v [] by h r = coefficient-none v ∙ sym (floor-zero by h) ∙ ap (λ n. floor_over n by) (sym (coefficient-none v))
coefficient-divided low v (t ∷ ts) by h r = go (t.var == v) refl (coefficient-divided (suc t.var) v ts by h r.2)
  where
    go : (b : Bool) → (t.var == v) ≡ b → coefficient_of v (map (divided_term by) ts) ≡ floor_over (coefficient_of v ts) by
        → coefficient_of v (map (divided_term by) (t ∷ ts)) ≡ floor_over (coefficient_of v (t ∷ ts)) by
    go true e later =
        let same = same_number t.var v e in
        let none : coefficient_of v ts ≡ pos 0 = coefficient-below v (suc t.var) ts (omega arith) r.2 in
        coefficient-same v (divided_term by t) (map (divided_term by) ts) e
        ∙ ap (λ n. floor_over t.coef by +ℤ n) (later ∙ ap (λ n. floor_over n by) none ∙ floor-zero by h)
        ∙ sym (add_none (floor_over t.coef by))
        ∙ ap (λ n. floor_over n by) (add_none t.coef ∙ ap (λ n. t.coef +ℤ n) (sym none) ∙ sym (coefficient-same v t ts e))
    go false e later =
        coefficient-other v (divided_term by t) (map (divided_term by) ts) e ∙ later ∙ ap (λ n. floor_over n by) (sym (coefficient-other v t ts e))

-- ---- cells

pub cells-cut : (columns : List ℕ) (free : ℕ) (x : Linear) (by : ℤ) → is_positive by ≡ true → IsRising 0 x.terms
    → map (λ cell. floor_over cell by) (cells_of columns free x) ≡ cells_of columns free (cut_of x by)
unfolding cells_of
cells-cut [] zero x by h r = refl
cells-cut [] (suc free) x by h r =
    ap (λ n. n ∷ map (λ cell. floor_over cell by) (cells_of [] free x)) (floor-zero by h) ∙ ap (λ cells. pos 0 ∷ cells) (cells-cut [] free x by h r)
cells-cut (v ∷ columns) free x by h r =
    ap (λ n. n ∷ map (λ cell. floor_over cell by) (cells_of columns free x)) (sym (coefficient-divided 0 v x.terms by h r))
    ∙ ap (λ cells. coefficient_of v (cut_of x by).terms ∷ cells) (cells-cut columns free x by h r)

pub no_sum : (a b : ℤ) → (pos 0 *ℤ a) +ℤ (pos 0 *ℤ b) ≡ pos 0
no_sum a b = ap (λ n. n +ℤ (pos 0 *ℤ b)) (zero-mul a) ∙ ap (λ n. pos 0 +ℤ n) (zero-mul b)

pub cells-combination : (columns : List ℕ) (free : ℕ) (a b : ℤ) (x y : Linear)
    → combined_cells a (cells_of columns free x) b (cells_of columns free y) ≡ cells_of columns free (combination_of a x b y)
unfolding cells_of combined_cells
cells-combination [] zero a b x y = refl
cells-combination [] (suc free) a b x y =
    ap (λ n. n ∷ combined_cells a (cells_of [] free x) b (cells_of [] free y)) (no_sum a b) ∙ ap (λ cells. pos 0 ∷ cells) (cells-combination [] free a b x y)
cells-combination (v ∷ columns) free a b x y =
    ap (λ n. n ∷ combined_cells a (cells_of columns free x) b (cells_of columns free y))
    (ap (λ n. n +ℤ (coefficient_of v y.terms *ℤ b)) (sym (coefficient-scaled v x.terms a))
    ∙ ap (λ n. coefficient_of v (scaled_terms x.terms a) +ℤ n) (sym (coefficient-scaled v y.terms b)) ∙ sym (coefficient-sum v (scaled_terms x.terms a) (scaled_terms y.terms b)))
    ∙ ap (λ cells. coefficient_of v (combination_of a x b y).terms ∷ cells) (cells-combination columns free a b x y)

-- ---- quotients without a rest

-- a number over a divisor: what it is, and what is left
pub floor-rest : (n : ℤ) (d : ℕ) → 0 < d → n ≡ (floor_over n (pos d) *ℤ pos d) +ℤ remainder n (pos d)
floor-rest (pos a) d h = omega (arith, ints)
floor-rest (negsuc a) d h = omega (arith, ints)

no_more : (n m r : ℤ) → n ≡ m +ℤ r → m ≡ n → r ≡ pos 0
no_more n m r e f = omega (arith, ints)

all_of_it : (n m r : ℤ) → n ≡ m +ℤ r → r ≡ pos 0 → m ≡ n
all_of_it n m r e f = omega (arith, ints)

pub whole_quotient : (n by : ℤ) → is_positive by ≡ true → floor_over n by *ℤ by ≡ n → is_multiple by n ≡ true
whole_quotient n (pos b) h e =
    (Decides-int_eq (remainder n (pos b)) (pos 0)).1
    (no_more n (floor_over n (pos b) *ℤ pos b) (remainder n (pos b)) (floor-rest n b (above b h)) e)
whole_quotient n (negsuc b) h e = cc

pub part_quotient : (n by : ℤ) → is_positive by ≡ true → (floor_over n by *ℤ by ≡ n → ⊥) → is_multiple by n ≡ false
part_quotient n (pos b) h e = go (is_multiple (pos b) n) refl
  where
    go : (found : Bool) → is_multiple (pos b) n ≡ found → found ≡ false
    go true m = absurd (e (all_of_it n (floor_over n (pos b) *ℤ pos b) (remainder n (pos b)) (floor-rest n b (above b h))
        ((Decides-int_eq (remainder n (pos b)) (pos 0)).0 m)))
    go false m = refl
part_quotient n (negsuc b) h e = cc
