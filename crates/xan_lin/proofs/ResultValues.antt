-- The value of a sum, of terms with the other sign, and of a product by a number.
use Rattle.std.proofs.Common.{◌≡◌, ℕ, zero, suc, ℤ, pos, negsuc, ◌+ℤ◌, ◌-ℤ◌, ◌*ℤ◌, neg_ℤ, Ok, List, [], ◌∷◌, refl, sym, ◌∙◌, ap, arith}
use Rattle.std.proofs.lemmas.Int.{ints}
use Rattle.xan_lin.specs.Terms.{with_multiple, plus_term, sum_terms, negated_terms, scaled_terms}
use Rattle.xan_lin.specs.Linear.{Linear, form_of, sum_of, difference_of, excess_of, product_of, negated_row_of}
use Rattle.xan_lin.specs.Value.{value_at, value_of_terms, value_of}
use Rattle.xan_lin.specs.declared.term.Term.{Term}
use Rattle.xan_lin.proofs.Ring.{add_none, add-mul, zero-mul, neg-mul, mul_assoc, mul_comm, add_assoc_ℤ, add_turn, zero-add_ℤ, neg-add, add_pairs, sub_pairs, neg_less}
use Rattle.xan_lin.proofs.FormSizes.{sized-parts}
use Rattle.xan_lin.proofs.TermSums.{Lt, Gt, Eq, order, plus-front, plus-behind, plus-same}

value-with_multiple : (values : List ℤ) (var : ℕ) (coef : ℤ) (us : List Term)
    → value_of_terms values (with_multiple var coef us) ≡ (coef *ℤ value_at values var) +ℤ value_of_terms values us
unfolding value_of_terms
value-with_multiple values var (pos zero) us = sym (ap (λ n. n +ℤ value_of_terms values us) (zero-mul (value_at values var)) ∙ zero-add_ℤ (value_of_terms values us))
value-with_multiple values var (pos (suc n)) us = refl
value-with_multiple values var (negsuc n) us = refl

pub value-cons : (values : List ℤ) (t : Term) (us : List Term)
    → value_of_terms values (t ∷ us) ≡ (t.coef *ℤ value_at values t.var) +ℤ value_of_terms values us
unfolding value_of_terms
value-cons values t us = refl

value-plus : (values : List ℤ) (t : Term) (us : List Term)
    → value_of_terms values (plus_term t us) ≡ (t.coef *ℤ value_at values t.var) +ℤ value_of_terms values us
unfolding plus_term
value-plus values t [] = value-with_multiple values t.var t.coef []
value-plus values t (u ∷ us) =
    elim (order t.var u.var) [
      | Lt h ↦ ap (λ xs. value_of_terms values xs) (plus-front t u us h) ∙ value-with_multiple values t.var t.coef (u ∷ us)
      | Gt h ↦ ap (λ xs. value_of_terms values xs) (plus-behind t u us h)
          ∙ value-cons values u (plus_term t us)
          ∙ ap (λ n. (u.coef *ℤ value_at values u.var) +ℤ n) (value-plus values t us)
          ∙ add_turn (u.coef *ℤ value_at values u.var) (t.coef *ℤ value_at values t.var) (value_of_terms values us)
          ∙ ap (λ n. (t.coef *ℤ value_at values t.var) +ℤ n) (sym (value-cons values u us))
      | Eq h ↦ ap (λ xs. value_of_terms values xs) (plus-same t u us h)
          ∙ value-with_multiple values u.var (t.coef +ℤ u.coef) us
          ∙ ap (λ n. n +ℤ value_of_terms values us) (add-mul t.coef u.coef (value_at values u.var))
          ∙ add_assoc_ℤ (t.coef *ℤ value_at values u.var) (u.coef *ℤ value_at values u.var) (value_of_terms values us)
          ∙ ap (λ n. (t.coef *ℤ value_at values u.var) +ℤ n) (sym (value-cons values u us))
          ∙ ap (λ v. (t.coef *ℤ value_at values v) +ℤ value_of_terms values (u ∷ us)) (sym h)
    ]

pub value-sum : (values : List ℤ) (ts us : List Term)
    → value_of_terms values (sum_terms ts us) ≡ value_of_terms values ts +ℤ value_of_terms values us
unfolding sum_terms value_of_terms
value-sum values [] us = sym (zero-add_ℤ (value_of_terms values us))
value-sum values (t ∷ ts) us =
    value-plus values t (sum_terms ts us)
    ∙ ap (λ n. (t.coef *ℤ value_at values t.var) +ℤ n) (value-sum values ts us)
    ∙ sym (add_assoc_ℤ (t.coef *ℤ value_at values t.var) (value_of_terms values ts) (value_of_terms values us))

pub value-negated : (values : List ℤ) (ts : List Term) → value_of_terms values (negated_terms ts) ≡ neg_ℤ (value_of_terms values ts)
unfolding value_of_terms
value-negated values [] = refl
value-negated values (t ∷ ts) =
    ap (λ n. n +ℤ value_of_terms values (negated_terms ts)) (neg-mul t.coef (value_at values t.var))
    ∙ ap (λ n. neg_ℤ (t.coef *ℤ value_at values t.var) +ℤ n) (value-negated values ts)
    ∙ sym (neg-add (t.coef *ℤ value_at values t.var) (value_of_terms values ts))

-- (c by) a = (c a) by
turned : (c by a : ℤ) → (c *ℤ by) *ℤ a ≡ (c *ℤ a) *ℤ by
turned c by a = mul_assoc c by a ∙ ap (λ n. c *ℤ n) (mul_comm by a) ∙ sym (mul_assoc c a by)

pub value-scaled : (values : List ℤ) (ts : List Term) (by : ℤ) → value_of_terms values (scaled_terms ts by) ≡ value_of_terms values ts *ℤ by
unfolding scaled_terms value_of_terms
value-scaled values [] by = sym (zero-mul by)
value-scaled values (t ∷ ts) by =
    value-with_multiple values t.var (t.coef *ℤ by) (scaled_terms ts by)
    ∙ ap (λ n. n +ℤ value_of_terms values (scaled_terms ts by)) (turned t.coef by (value_at values t.var))
    ∙ ap (λ n. ((t.coef *ℤ value_at values t.var) *ℤ by) +ℤ n) (value-scaled values ts by)
    ∙ sym (add-mul (t.coef *ℤ value_at values t.var) (value_of_terms values ts) by)

-- ---- forms

pub value-none : (values : List ℤ) → value_of_terms values [] ≡ pos 0
unfolding value_of_terms
value-none values = refl

pub terms-value : (values : List ℤ) (ts : List Term) (constant : ℤ) (form : Linear) → form_of ts constant ≡ Ok form
    → value_of values form ≡ value_of_terms values ts +ℤ constant
terms-value values ts constant form h =
    ap (λ e. value_of values e) (sym (sized-parts (sum_terms ts []) constant form h))
    ∙ ap (λ n. n +ℤ constant) (value-sum values ts [] ∙ ap (λ n. value_of_terms values ts +ℤ n) (value-none values) ∙ sym (add_none (value_of_terms values ts)))

pub sum-value : (values : List ℤ) (e f sum : Linear) → sum_of e f ≡ Ok sum → value_of values sum ≡ value_of values e +ℤ value_of values f
sum-value values e f sum h =
    ap (λ form. value_of values form) (sym (sized-parts (sum_terms e.terms f.terms) (e.constant +ℤ f.constant) sum h))
    ∙ ap (λ n. n +ℤ (e.constant +ℤ f.constant)) (value-sum values e.terms f.terms)
    ∙ add_pairs (value_of_terms values e.terms) (value_of_terms values f.terms) e.constant f.constant

pub difference-value : (values : List ℤ) (e f difference : Linear) → difference_of e f ≡ Ok difference
    → value_of values difference ≡ value_of values e -ℤ value_of values f
difference-value values e f difference h =
    ap (λ form. value_of values form) (sym (sized-parts (sum_terms e.terms (negated_terms f.terms)) (e.constant -ℤ f.constant) difference h))
    ∙ ap (λ n. n +ℤ (e.constant -ℤ f.constant)) (value-sum values e.terms (negated_terms f.terms) ∙ ap (λ n. value_of_terms values e.terms +ℤ n) (value-negated values f.terms))
    ∙ sub_pairs (value_of_terms values e.terms) (value_of_terms values f.terms) e.constant f.constant

less_one : (a b : ℤ) → a +ℤ (b -ℤ pos 1) ≡ (a +ℤ b) -ℤ pos 1
less_one a b = omega (arith, ints)

pub excess-value : (values : List ℤ) (e f row : Linear) → excess_of e f ≡ Ok row → value_of values row ≡ (value_of values e -ℤ value_of values f) -ℤ pos 1
unfolding excess_of
excess-value values e f row h =
    ap (λ form. value_of values form) (sym (sized-parts (sum_terms e.terms (negated_terms f.terms)) ((e.constant -ℤ f.constant) -ℤ pos 1) row h))
    ∙ ap (λ n. n +ℤ ((e.constant -ℤ f.constant) -ℤ pos 1)) (value-sum values e.terms (negated_terms f.terms) ∙ ap (λ n. value_of_terms values e.terms +ℤ n) (value-negated values f.terms))
    ∙ less_one (value_of_terms values e.terms -ℤ value_of_terms values f.terms) (e.constant -ℤ f.constant)
    ∙ ap (λ n. n -ℤ pos 1) (sub_pairs (value_of_terms values e.terms) (value_of_terms values f.terms) e.constant f.constant)

pub product-value : (values : List ℤ) (e product : Linear) (by : ℤ) → product_of e by ≡ Ok product → value_of values product ≡ value_of values e *ℤ by
product-value values e product by h =
    ap (λ form. value_of values form) (sym (sized-parts (scaled_terms e.terms by) (e.constant *ℤ by) product h))
    ∙ ap (λ n. n +ℤ (e.constant *ℤ by)) (value-scaled values e.terms by)
    ∙ sym (add-mul (value_of_terms values e.terms) e.constant by)

pub negated_row-value : (values : List ℤ) (e row : Linear) → negated_row_of e ≡ Ok row → value_of values row ≡ neg_ℤ (value_of values e) -ℤ pos 1
negated_row-value values e row h =
    ap (λ form. value_of values form) (sym (sized-parts (negated_terms e.terms) (neg_ℤ e.constant -ℤ pos 1) row h))
    ∙ ap (λ n. n +ℤ (neg_ℤ e.constant -ℤ pos 1)) (value-negated values e.terms)
    ∙ neg_less (value_of_terms values e.terms) e.constant
