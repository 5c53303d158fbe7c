-- The sum of two rows, variable by variable.
use Rattle.std.proofs.Common.{◌≡◌, ◌≢◌, ℕ, zero, suc, ℤ, pos, negsuc, ◌+ℤ◌, ◌*ℤ◌, ◌==◌, Bool, true, false, cond, List, [], ◌∷◌, refl, sym, ◌∙◌, ap, arith}
use Rattle.std.proofs.lemmas.Bool.Decides.{nat_tests}
use Rattle.std.proofs.lemmas.Int.{ints}
use Rattle.xan_lin.specs.Terms.{IsRising, with_multiple, sum_terms, scaled_terms}
use Rattle.xan_lin.specs.declared.term.Term.{Term}
use Rattle.xan_lin.proofs.Ring.{zero-mul, zero-add_ℤ}
use Rattle.xan_lin.proofs.TermSums.{IsRising-lower, with_multiple-nonzero, with_multiple-append, sum-before, sum-behind, sum-same}
use Rattle.proof_lines.proofs.Different.{same_number}
use Rattle.solver_rows.specs.Merging.{behind}

-- ---- the front of terms

scaled-none : (by : ℤ) → scaled_terms [] by ≡ []
unfolding scaled_terms
scaled-none by = refl

pub scaled-cons : (t : Term) (ts : List Term) (by : ℤ) → scaled_terms (t ∷ ts) by ≡ with_multiple t.var (t.coef *ℤ by) (scaled_terms ts by)
unfolding scaled_terms
scaled-cons t ts by = refl

pub no_multiple : (var : ℕ) (by : ℤ) (us : List Term) → us ≡ with_multiple var (pos 0 *ℤ by) us
no_multiple var by us = ap (λ n. with_multiple var n us) (sym (zero-mul by))

pub not_same : (m n : ℕ) → (m == n) ≡ false → m ≢ n
not_same m n e = grind (arith, nat_tests)

pub behind-rising : (var : ℕ) (ts : List Term) → IsRising var ts → IsRising (suc var) (behind var ts)
behind-rising var [] r = tt
behind-rising var (t ∷ ts) r = go (t.var == var) refl
  where
    go : (b : Bool) → (t.var == var) ≡ b → IsRising (suc var) (cond b ts (t ∷ ts))
    go true e = IsRising-lower (suc var) (suc t.var) ts (let same = same_number t.var var e in omega arith) r.2
    go false e = (let other = not_same t.var var e in let first = r.0 in omega arith, r.1, r.2)

-- ---- multiples of one variable before all others

add-zero_ℤ : (n : ℤ) → n ≡ n +ℤ pos 0
add-zero_ℤ n = omega (arith, ints)

zero-left : (var : ℕ) (n : ℤ) (ts us : List Term) → IsRising (suc var) ts → sum_terms ts (with_multiple var n us) ≡ with_multiple var n (sum_terms ts us)
zero-left var (pos zero) ts us r = refl
zero-left var (pos (suc k)) ts us r = sum-behind (record { var = var; coef = pos (suc k) }) ts us r
zero-left var (negsuc k) ts us r = sum-behind (record { var = var; coef = negsuc k }) ts us r

some-left : (var : ℕ) (m n : ℤ) (ts us : List Term) → m ≢ pos 0 → IsRising (suc var) ts → IsRising (suc var) us
    → sum_terms ((let t : Term = record { var = var; coef = m } in t) ∷ ts) (with_multiple var n us) ≡ with_multiple var (m +ℤ n) (sum_terms ts us)
some-left var m (pos zero) ts us h r s =
    sum-before (record { var = var; coef = m }) ts us h r s ∙ sym (with_multiple-nonzero var m (sum_terms ts us) h)
    ∙ ap (λ k. with_multiple var k (sum_terms ts us)) (add-zero_ℤ m)
some-left var m (pos (suc k)) ts us h r s =
    sum-same (record { var = var; coef = m }) (record { var = var; coef = pos (suc k) }) ts us refl r ∙ with_multiple-append var (m +ℤ pos (suc k)) (sum_terms ts us)
some-left var m (negsuc k) ts us h r s =
    sum-same (record { var = var; coef = m }) (record { var = var; coef = negsuc k }) ts us refl r ∙ with_multiple-append var (m +ℤ negsuc k) (sum_terms ts us)

pub sum-multiples : (var : ℕ) (m n : ℤ) (ts us : List Term) → IsRising (suc var) ts → IsRising (suc var) us
    → sum_terms (with_multiple var m ts) (with_multiple var n us) ≡ with_multiple var (m +ℤ n) (sum_terms ts us)
sum-multiples var (pos zero) n ts us r s = zero-left var n ts us r ∙ ap (λ k. with_multiple var k (sum_terms ts us)) (sym (zero-add_ℤ n))
sum-multiples var (pos (suc k)) n ts us r s = some-left var (pos (suc k)) n ts us (λ e. cc) r s
sum-multiples var (negsuc k) n ts us r s = some-left var (negsuc k) n ts us (λ e. cc) r s
