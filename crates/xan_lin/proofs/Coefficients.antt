-- The coefficient of a variable in sums, multiples and quotients of terms.
use Rattle.std.proofs.Common.{◌≡◌, ℕ, zero, suc, ◌<◌, ◌≤◌, ℤ, pos, negsuc, ◌+ℤ◌, ◌*ℤ◌, ◌==◌, Bool, true, false, cond, List, [], ◌∷◌, ◌++◌, refl, sym, ◌∙◌, ap, arith}
use Rattle.std.proofs.lemmas.Bool.Decides.{nat_tests}
use Rattle.xan_lin.specs.Terms.{IsRising, with_multiple, plus_term, sum_terms, scaled_terms, coefficient_of}
use Rattle.xan_lin.specs.declared.term.Term.{Term}
use Rattle.xan_lin.proofs.Ring.{add-mul, zero-mul, add_assoc_ℤ, add_turn, zero-add_ℤ}
use Rattle.xan_lin.proofs.TermSums.{Lt, Gt, Eq, order, plus-front, plus-behind, plus-same}

pub coefficient-none : (v : ℕ) → coefficient_of v [] ≡ pos 0
unfolding coefficient_of
coefficient-none v = refl

pub coefficient-cons : (v : ℕ) (t : Term) (ts : List Term) → coefficient_of v (t ∷ ts) ≡ cond (t.var == v) (t.coef +ℤ coefficient_of v ts) (coefficient_of v ts)
unfolding coefficient_of
coefficient-cons v t ts = refl

-- what one term adds
abbrev pub share : ℕ → Term → ℤ
share v t = cond (t.var == v) t.coef (pos 0)

shared : (b : Bool) (c n : ℤ) → cond b (c +ℤ n) n ≡ cond b c (pos 0) +ℤ n
shared true c n = refl
shared false c n = sym (zero-add_ℤ n)

pub coefficient-share : (v : ℕ) (t : Term) (ts : List Term) → coefficient_of v (t ∷ ts) ≡ share v t +ℤ coefficient_of v ts
coefficient-share v t ts = coefficient-cons v t ts ∙ shared (t.var == v) t.coef (coefficient_of v ts)

pub coefficient-append : (v : ℕ) (ts us : List Term) → coefficient_of v (ts ++ us) ≡ coefficient_of v ts +ℤ coefficient_of v us
coefficient-append v [] us = sym (zero-add_ℤ (coefficient_of v us)) ∙ ap (λ n. n +ℤ coefficient_of v us) (sym (coefficient-none v))
coefficient-append v (t ∷ ts) us =
    coefficient-share v t (ts ++ us)
    ∙ ap (λ n. share v t +ℤ n) (coefficient-append v ts us)
    ∙ sym (add_assoc_ℤ (share v t) (coefficient_of v ts) (coefficient_of v us))
    ∙ ap (λ n. n +ℤ coefficient_of v us) (sym (coefficient-share v t ts))

pub coefficient-same : (v : ℕ) (t : Term) (ts : List Term) → (t.var == v) ≡ true → coefficient_of v (t ∷ ts) ≡ t.coef +ℤ coefficient_of v ts
coefficient-same v t ts e = coefficient-cons v t ts ∙ ap (λ b. cond b (t.coef +ℤ coefficient_of v ts) (coefficient_of v ts)) e

pub coefficient-other : (v : ℕ) (t : Term) (ts : List Term) → (t.var == v) ≡ false → coefficient_of v (t ∷ ts) ≡ coefficient_of v ts
coefficient-other v t ts e = coefficient-cons v t ts ∙ ap (λ b. cond b (t.coef +ℤ coefficient_of v ts) (coefficient_of v ts)) e

apart : (v w : ℕ) → v < w → (w == v) ≡ false
apart v w h = grind (arith, nat_tests)

-- below the terms' variables
pub coefficient-below : (v low : ℕ) (ts : List Term) → v < low → IsRising low ts → coefficient_of v ts ≡ pos 0
coefficient-below v low [] h r = coefficient-none v
coefficient-below v low (t ∷ ts) h r = coefficient-other v t ts (apart v t.var (omega (arith, r.0))) ∙ coefficient-below v (suc t.var) ts (omega (arith, r.0)) r.2

rising-at : (low : ℕ) (ts us : List Term) (t : Term) → IsRising low (ts ++ t ∷ us) → low ≤ t.var
rising-at low [] us t r = r.0
rising-at low (s ∷ ts) us t r = omega (arith, r.0, rising-at (suc s.var) ts us t r.2)

apart_less : (v w : ℕ) → w < v → (w == v) ≡ false
apart_less v w h = grind (arith, nat_tests)

-- in front of the term of the variable
pub coefficient-front : (low : ℕ) (ts us : List Term) (t : Term) → IsRising low (ts ++ t ∷ us) → coefficient_of t.var ts ≡ pos 0
coefficient-front low [] us t r = coefficient-none t.var
coefficient-front low (s ∷ ts) us t r =
    coefficient-other t.var s ts (apart_less t.var s.var (rising-at (suc s.var) ts us t r.2)) ∙ coefficient-front (suc s.var) ts us t r.2

-- ---- sums

coefficient-multiple : (v var : ℕ) (coef : ℤ) (us : List Term) → coefficient_of v (with_multiple var coef us) ≡ cond (var == v) coef (pos 0) +ℤ coefficient_of v us
coefficient-multiple v var (pos zero) us = sym (nothing (var == v) (coefficient_of v us))
  where
    nothing : (b : Bool) (n : ℤ) → cond b (pos 0) (pos 0) +ℤ n ≡ n
    nothing true n = zero-add_ℤ n
    nothing false n = zero-add_ℤ n
coefficient-multiple v var (pos (suc n)) us = coefficient-share v (record { var = var; coef = pos (suc n) }) us
coefficient-multiple v var (negsuc n) us = coefficient-share v (record { var = var; coef = negsuc n }) us

pub coefficient-plus : (v : ℕ) (t : Term) (us : List Term) → coefficient_of v (plus_term t us) ≡ share v t +ℤ coefficient_of v us
unfolding plus_term
coefficient-plus v t [] = coefficient-multiple v t.var t.coef []
coefficient-plus v t (u ∷ us) =
    elim (order t.var u.var) [
      | Lt h ↦ ap (λ xs. coefficient_of v xs) (plus-front t u us h) ∙ coefficient-multiple v t.var t.coef (u ∷ us)
      | Gt h ↦ ap (λ xs. coefficient_of v xs) (plus-behind t u us h)
          ∙ coefficient-share v u (plus_term t us)
          ∙ ap (λ n. share v u +ℤ n) (coefficient-plus v t us)
          ∙ add_turn (share v u) (share v t) (coefficient_of v us)
          ∙ ap (λ n. share v t +ℤ n) (sym (coefficient-share v u us))
      | Eq h ↦ ap (λ xs. coefficient_of v xs) (plus-same t u us h)
          ∙ coefficient-multiple v u.var (t.coef +ℤ u.coef) us
          ∙ ap (λ n. n +ℤ coefficient_of v us) (both (u.var == v) t.coef u.coef)
          ∙ add_assoc_ℤ (cond (u.var == v) t.coef (pos 0)) (share v u) (coefficient_of v us)
          ∙ ap (λ w. cond (w == v) t.coef (pos 0) +ℤ (share v u +ℤ coefficient_of v us)) (sym h)
          ∙ ap (λ n. share v t +ℤ n) (sym (coefficient-share v u us))
    ]
  where
    both : (b : Bool) (c d : ℤ) → cond b (c +ℤ d) (pos 0) ≡ cond b c (pos 0) +ℤ cond b d (pos 0)
    both true c d = refl
    both false c d = refl

pub coefficient-sum : (v : ℕ) (ts us : List Term) → coefficient_of v (sum_terms ts us) ≡ coefficient_of v ts +ℤ coefficient_of v us
unfolding sum_terms
coefficient-sum v [] us = sym (zero-add_ℤ (coefficient_of v us)) ∙ ap (λ n. n +ℤ coefficient_of v us) (sym (coefficient-none v))
coefficient-sum v (t ∷ ts) us =
    coefficient-plus v t (sum_terms ts us)
    ∙ ap (λ n. share v t +ℤ n) (coefficient-sum v ts us)
    ∙ sym (add_assoc_ℤ (share v t) (coefficient_of v ts) (coefficient_of v us))
    ∙ ap (λ n. n +ℤ coefficient_of v us) (sym (coefficient-share v t ts))

pub coefficient-scaled : (v : ℕ) (ts : List Term) (by : ℤ) → coefficient_of v (scaled_terms ts by) ≡ coefficient_of v ts *ℤ by
unfolding scaled_terms
coefficient-scaled v [] by = coefficient-none v ∙ sym (zero-mul by) ∙ ap (λ n. n *ℤ by) (sym (coefficient-none v))
coefficient-scaled v (t ∷ ts) by =
    coefficient-multiple v t.var (t.coef *ℤ by) (scaled_terms ts by)
    ∙ ap (λ n. cond (t.var == v) (t.coef *ℤ by) (pos 0) +ℤ n) (coefficient-scaled v ts by)
    ∙ ap (λ n. n +ℤ (coefficient_of v ts *ℤ by)) (scaled (t.var == v) t.coef by)
    ∙ sym (add-mul (share v t) (coefficient_of v ts) by)
    ∙ ap (λ n. n *ℤ by) (sym (coefficient-share v t ts))
  where
    scaled : (b : Bool) (c by : ℤ) → cond b (c *ℤ by) (pos 0) ≡ cond b c (pos 0) *ℤ by
    scaled true c by = refl
    scaled false c by = sym (zero-mul by)
