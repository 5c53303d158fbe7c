-- Coefficients that are 0 stay 0 in quotients and sums, and a variable goes out of the sum of two rows in which its coefficients have different signs.
use Rattle.std.proofs.Common.{◌≡◌, ℕ, suc, ◌*◌, ◌/◌, ℤ, pos, negsuc, neg_ℤ, ◌+ℤ◌, ◌*ℤ◌, ◌==◌, Bool, true, false, cond, int_lt, unsigned_abs, List, [], ◌∷◌, map, refl, sym, ◌∙◌, ap, arith}
use Rattle.std.specs.Int.{◌∣◌}
use Rattle.std.proofs.lemmas.Int.{ints}
use Rattle.std.proofs.Math.Nat.{mod-add-div', mul_comm, mul_assoc}
use Rattle.std.proofs.lemmas.Nat.Gcd.{mod-eq-zero_of_dvd}
use Rattle.xan_lin.specs.Terms.{IsRising, sum_terms, scaled_terms, coefficient_of}
use Rattle.xan_lin.specs.Linear.{Linear}
use Rattle.xan_lin.specs.declared.term.Term.{Term}
use Rattle.xan_lin.proofs.Ring.{zero-mul, neg-mul, add_none}
use Rattle.xan_lin.proofs.TermSums.{IsRising-sum}
use Rattle.xan_lin.proofs.ScaledTerms.{IsRising-scaled}
use Rattle.xan_lin.proofs.Coefficients.{coefficient-none, coefficient-same, coefficient-other, coefficient-below, coefficient-sum, coefficient-scaled}
use Rattle.proof_lines.specs.Rows.{floor_over, divides, divided_term}
use Rattle.proof_lines.specs.Check.{is_positive}
use Rattle.proof_lines.specs.Variables.{with_terms}
use Rattle.proof_lines.proofs.Different.{same_number}
use Rattle.proof_lines.proofs.Proper.{placed-with_terms, proper-cut}
use Rattle.proof_lines.proofs.Quotients.{floor-zero}
use Rattle.solver_rows.specs.Divisors.{gcd}
use Rattle.solver_rows.specs.SystemRows.{coefficient, first_by, second_by}
use Rattle.solver_rows.proofs.Euclid.{gcd_is}

-- the terms rise, and the variable has no coefficient in them
pub record Lacks (v : ℕ) (ts : List Term) : Type 0 where
  pub rising : IsRising 0 ts
  pub none : coefficient v ts ≡ pos 0

-- ---- the first coefficient of a variable in rising terms is all of it

coefficient-is : (low v : ℕ) (ts : List Term) → IsRising low ts → coefficient v ts ≡ coefficient_of v ts
unfolding coefficient
coefficient-is low v [] r = sym (coefficient-none v)
coefficient-is low v (t ∷ ts) r = go (t.var == v) refl (coefficient-is (suc t.var) v ts r.2)
  where
    go : (b : Bool) → (t.var == v) ≡ b → coefficient v ts ≡ coefficient_of v ts → cond b t.coef (coefficient v ts) ≡ coefficient_of v (t ∷ ts)
    go true e later =
        let same = same_number t.var v e in
        let none : coefficient_of v ts ≡ pos 0 = coefficient-below v (suc t.var) ts (omega arith) r.2 in
        add_none t.coef ∙ ap (λ n. t.coef +ℤ n) (sym none) ∙ sym (coefficient-same v t ts e)
    go false e later = later ∙ sym (coefficient-other v t ts e)

-- ---- quotients

pub rising-cut : (x : Linear) (by : ℤ) → is_positive by ≡ true → divides by x.terms ≡ true → IsRising 0 x.terms → IsRising 0 (map (divided_term by) x.terms)
rising-cut x by h d r = (proper-cut (with_terms [] x.terms) x by h d (record { rising = r; placed = placed-with_terms [] x.terms })).rising

divided-none : (v : ℕ) (ts : List Term) (by : ℤ) → is_positive by ≡ true → coefficient v ts ≡ pos 0 → coefficient v (map (divided_term by) ts) ≡ pos 0
unfolding coefficient
divided-none v [] by h e = refl
divided-none v (t ∷ ts) by h e = go (t.var == v) e (divided-none v ts by h)
  where
    go : (b : Bool) → cond b t.coef (coefficient v ts) ≡ pos 0 → (coefficient v ts ≡ pos 0 → coefficient v (map (divided_term by) ts) ≡ pos 0)
        → cond b (floor_over t.coef by) (coefficient v (map (divided_term by) ts)) ≡ pos 0
    go true f later = ap (λ n. floor_over n by) f ∙ floor-zero by h
    go false f later = later f

pub lacks-cut : (v : ℕ) (x : Linear) (by : ℤ) → is_positive by ≡ true → divides by x.terms ≡ true → Lacks v x.terms → Lacks v (map (divided_term by) x.terms)
lacks-cut v x by h d l = record { rising = rising-cut x by h d l.rising; none = divided-none v x.terms by h l.none }

-- ---- sums

pub rising-sum : (a b : ℤ) (ts us : List Term) → IsRising 0 ts → IsRising 0 us → IsRising 0 (sum_terms (scaled_terms ts a) (scaled_terms us b))
rising-sum a b ts us r s = IsRising-sum 0 (scaled_terms ts a) (scaled_terms us b) (IsRising-scaled 0 ts a r) (IsRising-scaled 0 us b s)

sum-coefficient : (v : ℕ) (a b : ℤ) (ts us : List Term) → IsRising 0 ts → IsRising 0 us
    → coefficient v (sum_terms (scaled_terms ts a) (scaled_terms us b)) ≡ (coefficient v ts *ℤ a) +ℤ (coefficient v us *ℤ b)
sum-coefficient v a b ts us r s =
    coefficient-is 0 v (sum_terms (scaled_terms ts a) (scaled_terms us b)) (rising-sum a b ts us r s)
    ∙ coefficient-sum v (scaled_terms ts a) (scaled_terms us b)
    ∙ ap (λ n. n +ℤ coefficient_of v (scaled_terms us b)) (coefficient-scaled v ts a ∙ ap (λ n. n *ℤ a) (sym (coefficient-is 0 v ts r)))
    ∙ ap (λ n. (coefficient v ts *ℤ a) +ℤ n) (coefficient-scaled v us b ∙ ap (λ n. n *ℤ b) (sym (coefficient-is 0 v us s)))

pub lacks-sum : (v : ℕ) (a b : ℤ) (ts us : List Term) → Lacks v ts → Lacks v us → Lacks v (sum_terms (scaled_terms ts a) (scaled_terms us b))
lacks-sum v a b ts us l m = record {
  rising = rising-sum a b ts us l.rising m.rising;
  none = sum-coefficient v a b ts us l.rising m.rising
      ∙ ap (λ n. (n *ℤ a) +ℤ (coefficient v us *ℤ b)) l.none
      ∙ ap (λ n. (pos 0 *ℤ a) +ℤ (n *ℤ b)) m.none
      ∙ ap (λ n. n +ℤ (pos 0 *ℤ b)) (zero-mul a)
      ∙ ap (λ n. pos 0 +ℤ n) (zero-mul b);
}

-- ---- a variable goes out

whole_part : (a g : ℕ) → g ∣ a → a ≡ a / g * g
whole_part a g v =
    let parts = mod-add-div' a g in
    let rest = mod-eq-zero_of_dvd g v in
    omega arith

turned : (x y g : ℕ) → (x * g) * y ≡ (y * g) * x
turned x y g = mul_assoc x g y ∙ ap (λ n. x * n) (mul_comm g y) ∙ mul_comm x (y * g)

exchanged : (a b g : ℕ) → g ∣ a → g ∣ b → a * (b / g) ≡ b * (a / g)
exchanged a b g h k =
    ap (λ n. n * (b / g)) (whole_part a g h) ∙ turned (a / g) (b / g) g ∙ ap (λ n. n * (a / g)) (sym (whole_part b g k))

no_rest_ℤ : (x : ℤ) → x +ℤ neg_ℤ x ≡ pos 0
no_rest_ℤ x = omega (arith, ints)

opposites : (a b q p : ℕ) → a * q ≡ suc b * p → (pos a *ℤ pos q) +ℤ (negsuc b *ℤ pos p) ≡ pos 0
opposites a b q p e =
    ap (λ n. pos n +ℤ (negsuc b *ℤ pos p)) e ∙ ap (λ n. pos (suc b * p) +ℤ n) (neg-mul (pos (suc b)) (pos p)) ∙ no_rest_ℤ (pos (suc b * p))

cancels : (c d : ℤ) → int_lt (pos 0) c ≡ true → int_lt d (pos 0) ≡ true
    → (c *ℤ first_by (unsigned_abs c) (unsigned_abs d)) +ℤ (d *ℤ second_by (unsigned_abs c) (unsigned_abs d)) ≡ pos 0
cancels (pos a) (negsuc b) h k =
    let g = gcd a (suc b) in
    opposites a b (suc b / g) (a / g) (exchanged a (suc b) g (gcd_is a (suc b)).0 (gcd_is a (suc b)).1)
cancels (negsuc a) d h k = cc
cancels (pos a) (pos b) h k = absurd (not_below b k)
  where
    not_below : (b : ℕ) → int_lt (pos b) (pos 0) ≡ true → ⊥
    not_below b e = grind (arith, ints)

pub lacks-taken : (v : ℕ) (ts us : List Term) → IsRising 0 ts → IsRising 0 us → int_lt (pos 0) (coefficient v ts) ≡ true → int_lt (coefficient v us) (pos 0) ≡ true
    → (let a = unsigned_abs (coefficient v ts) in let b = unsigned_abs (coefficient v us) in
    Lacks v (sum_terms (scaled_terms ts (first_by a b)) (scaled_terms us (second_by a b))))
lacks-taken v ts us r s h k =
    let a = unsigned_abs (coefficient v ts) in
    let b = unsigned_abs (coefficient v us) in
    record {
      rising = rising-sum (first_by a b) (second_by a b) ts us r s;
      none = sum-coefficient v (first_by a b) (second_by a b) ts us r s ∙ cancels (coefficient v ts) (coefficient v us) h k;
    }
