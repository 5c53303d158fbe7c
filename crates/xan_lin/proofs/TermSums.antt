-- Sums of rising terms: that they rise, and what the merge of two such lists is, term by term.
use Rattle.std.proofs.Common.{◌≡◌, ◌≢◌, ℕ, zero, suc, ◌^◌, ◌<◌, ◌≤◌, ℤ, pos, negsuc, ◌+ℤ◌, neg_ℤ, unsigned_abs, ◌&&◌, List, [], ◌∷◌, ◌++◌, Bool, true, false, nat_lt, cond, refl, sym, ◌∙◌, ap, subst, arith}
use Rattle.xan_lin.specs.Terms.{IsRising, with_multiple, plus_term, sum_terms, negated_terms}
use Rattle.xan_lin.specs.Linear.{is_within, all_within}
use Rattle.xan_lin.specs.declared.term.Term.{Term}
pub use Rattle.xan_seq.proofs.NumberTests.{Order, Lt, Gt, Eq, order}
use Rattle.xan_lin.proofs.Booleans.{less, not_less}

-- ---- terms that rise

pub IsRising-lower : (low high : ℕ) (ts : List Term) → low ≤ high → IsRising high ts → IsRising low ts
IsRising-lower low high [] le r = tt
IsRising-lower low high (t ∷ ts) le r = (omega (arith, r.0), r.1, r.2)

pub rises_as : (low : ℕ) (ts us : List Term) → ts ≡ us → IsRising low us → IsRising low ts
rises_as low ts us e r = subst (λ (xs : List Term). IsRising low xs) (sym e) r

negated_nonzero : (coef : ℤ) → coef ≢ pos 0 → neg_ℤ coef ≢ pos 0
negated_nonzero (pos zero) h e = h refl
negated_nonzero (pos (suc n)) h e = cc
negated_nonzero (negsuc n) h e = cc

pub IsRising-negated : (low : ℕ) (ts : List Term) → IsRising low ts → IsRising low (negated_terms ts)
IsRising-negated low [] r = tt
IsRising-negated low (t ∷ ts) r = (r.0, negated_nonzero t.coef r.1, IsRising-negated (suc t.var) ts r.2)

-- ---- their magnitudes

same_bound : (m n : ℕ) → m ≡ n → nat_lt m (2 ^ 62) ≡ nat_lt n (2 ^ 62)
same_bound m n e = ap (λ k. nat_lt k (2 ^ 62)) e

magnitude-negated : (coef : ℤ) → is_within (neg_ℤ coef) ≡ is_within coef
magnitude-negated (pos zero) = refl
magnitude-negated (pos (suc n)) = same_bound (unsigned_abs (negsuc n)) (suc n) (omega arith)
magnitude-negated (negsuc n) = same_bound (suc n) (unsigned_abs (negsuc n)) (omega arith)

pub all_within-negated : (ts : List Term) → all_within (negated_terms ts) ≡ all_within ts
all_within-negated [] = refl
all_within-negated (t ∷ ts) =
    ap (λ b. b && all_within (negated_terms ts)) (magnitude-negated t.coef) ∙ ap (λ b. is_within t.coef && b) (all_within-negated ts)

-- a multiple that is not 0 is there
pub with_multiple-nonzero : (var : ℕ) (coef : ℤ) (us : List Term) → coef ≢ pos 0
    → with_multiple var coef us ≡ (let t : Term = record { var = var; coef = coef } in t) ∷ us
with_multiple-nonzero var (pos zero) us h = absurd (h refl)
with_multiple-nonzero var (pos (suc n)) us h = refl
with_multiple-nonzero var (negsuc n) us h = refl

pub with_multiple-append : (var : ℕ) (coef : ℤ) (us : List Term) → with_multiple var coef [] ++ us ≡ with_multiple var coef us
with_multiple-append var (pos zero) us = refl
with_multiple-append var (pos (suc n)) us = refl
with_multiple-append var (negsuc n) us = refl

pub IsRising-with_multiple : (low var : ℕ) (coef : ℤ) (us : List Term) → low ≤ var → IsRising (suc var) us → IsRising low (with_multiple var coef us)
IsRising-with_multiple low var (pos zero) us le r = IsRising-lower low (suc var) us (omega arith) r
IsRising-with_multiple low var (pos (suc n)) us le r = (le, (λ e. cc), r)
IsRising-with_multiple low var (negsuc n) us le r = (le, (λ e. cc), r)

-- ---- one more term

choice : (b : Bool) (r : Bool) (xs ys : List Term) → b ≡ r → cond b xs ys ≡ cond r xs ys
choice b r xs ys e = ap (λ c. cond c xs ys) e

pub plus-front : (t u : Term) (us : List Term) → t.var < u.var → plus_term t (u ∷ us) ≡ with_multiple t.var t.coef (u ∷ us)
unfolding plus_term
plus-front t u us h = choice (nat_lt t.var u.var) true _ _ (less t.var u.var h)

pub plus-behind : (t u : Term) (us : List Term) → u.var < t.var → plus_term t (u ∷ us) ≡ u ∷ plus_term t us
unfolding plus_term
plus-behind t u us h =
    choice (nat_lt t.var u.var) false _ _ (not_less t.var u.var (omega arith)) ∙ choice (nat_lt u.var t.var) true _ _ (less u.var t.var h)

pub plus-same : (t u : Term) (us : List Term) → t.var ≡ u.var → plus_term t (u ∷ us) ≡ with_multiple u.var (t.coef +ℤ u.coef) us
unfolding plus_term
plus-same t u us h =
    choice (nat_lt t.var u.var) false _ _ (not_less t.var u.var (omega arith)) ∙ choice (nat_lt u.var t.var) false _ _ (not_less u.var t.var (omega arith))

-- before all others it is the first
pub plus-before : (t : Term) (us : List Term) → t.coef ≢ pos 0 → IsRising (suc t.var) us → plus_term t us ≡ t ∷ us
unfolding plus_term
plus-before t [] h r = with_multiple-nonzero t.var t.coef [] h
plus-before t (u ∷ us) h r = plus-front t u us (omega (arith, r.0)) ∙ with_multiple-nonzero t.var t.coef (u ∷ us) h

pub IsRising-plus : (low : ℕ) (t : Term) (us : List Term) → low ≤ t.var → IsRising low us → IsRising low (plus_term t us)
unfolding plus_term
IsRising-plus low t [] le r = IsRising-with_multiple low t.var t.coef [] le tt
IsRising-plus low t (u ∷ us) le r =
    elim (order t.var u.var) [
      | Lt h ↦ subst (λ (xs : List Term). IsRising low xs) (sym (plus-front t u us h)) (IsRising-with_multiple low t.var t.coef (u ∷ us) le (h, r.1, r.2))
      | Gt h ↦ subst (λ (xs : List Term). IsRising low xs) (sym (plus-behind t u us h)) (r.0, r.1, IsRising-plus (suc u.var) t us h r.2)
      | Eq h ↦ subst (λ (xs : List Term). IsRising low xs) (sym (plus-same t u us h)) (IsRising-with_multiple low u.var (t.coef +ℤ u.coef) us r.0 r.2)
    ]

-- ---- sums

pub IsRising-sum : (low : ℕ) (ts us : List Term) → IsRising low ts → IsRising low us → IsRising low (sum_terms ts us)
unfolding sum_terms
IsRising-sum low [] us r s = s
IsRising-sum low (t ∷ ts) us r s =
    IsRising-plus low t (sum_terms ts us) r.0 (IsRising-sum low ts us (IsRising-lower low (suc t.var) ts (omega (arith, r.0)) r.2) s)

-- a term before all others comes first
pub sum-before : (t : Term) (ts us : List Term) → t.coef ≢ pos 0 → IsRising (suc t.var) ts → IsRising (suc t.var) us
    → sum_terms (t ∷ ts) us ≡ t ∷ sum_terms ts us
unfolding sum_terms
sum-before t ts us h r s = plus-before t (sum_terms ts us) h (IsRising-sum (suc t.var) ts us r s)

pub sum-behind : (u : Term) (ts us : List Term) → IsRising (suc u.var) ts → sum_terms ts (u ∷ us) ≡ u ∷ sum_terms ts us
unfolding sum_terms
sum-behind u [] us r = refl
sum-behind u (t ∷ ts) us r =
    ap (λ xs. plus_term t xs) (sum-behind u ts us (IsRising-lower (suc u.var) (suc t.var) ts (omega (arith, r.0)) r.2))
    ∙ plus-behind t u (sum_terms ts us) (omega (arith, r.0))

-- two terms of one variable before all others
pub sum-same : (t u : Term) (ts us : List Term) → t.var ≡ u.var → IsRising (suc t.var) ts
    → sum_terms (t ∷ ts) (u ∷ us) ≡ with_multiple t.var (t.coef +ℤ u.coef) [] ++ sum_terms ts us
unfolding sum_terms
sum-same t u ts us e r =
    ap (λ xs. plus_term t xs) (sum-behind u ts us (IsRising-lower (suc u.var) (suc t.var) ts (omega arith) r))
    ∙ plus-same t u (sum_terms ts us) e
    ∙ ap (λ var. with_multiple var (t.coef +ℤ u.coef) (sum_terms ts us)) (sym e)
    ∙ sym (with_multiple-append t.var (t.coef +ℤ u.coef) (sum_terms ts us))

pub sum-none : (low : ℕ) (ts : List Term) → IsRising low ts → sum_terms ts [] ≡ ts
unfolding sum_terms
sum-none low [] r = refl
sum-none low (t ∷ ts) r = sum-before t ts [] r.1 r.2 tt ∙ ap (λ xs. t ∷ xs) (sum-none (suc t.var) ts r.2)

pub sum-empty : (us : List Term) → sum_terms [] us ≡ us
unfolding sum_terms
sum-empty us = refl
