-- The value of a form in which the variables are replaced.
use Rattle.std.proofs.Common.{◌≡◌, ℕ, zero, suc, ◌+◌, ◌<◌, ℤ, pos, ◌+ℤ◌, ◌*ℤ◌, Ok, List, [], ◌∷◌, ◌++◌, get_or, sym, ◌∙◌, ap, arith}
use Rattle.std.specs.List.{All}
use Rattle.std.proofs.lemmas.List.Elements.{All-head, All-tail}
use Rattle.xan_lin.specs.Linear.{Linear, NamesBelow}
use Rattle.xan_lin.specs.Value.{value_at, value_of, value_of_terms}
use Rattle.xan_lin.specs.Subst.{replacement, multiple, multiples, replaced_terms, replaced_constant, subst_of, Gives, values_from, given_values}
use Rattle.xan_lin.specs.declared.term.Term.{Term}
use Rattle.xan_lin.proofs.Ring.{mul-add, zero-mul, mul_comm, mul_assoc, add_assoc_ℤ, add_pairs, zero-add_ℤ}
use Rattle.xan_lin.proofs.ResultValues.{value-cons, value-none, terms-value}
use Rattle.xan_lin.proofs.ReplacedTerms.{replaced-cons, replaced-none, constant-cons, constant-none}

value-append : (values : List ℤ) (xs ys : List Term) → value_of_terms values (xs ++ ys) ≡ value_of_terms values xs +ℤ value_of_terms values ys
value-append values [] ys = sym (ap (λ n. n +ℤ value_of_terms values ys) (value-none values) ∙ zero-add_ℤ (value_of_terms values ys))
value-append values (x ∷ xs) ys =
    value-cons values x (xs ++ ys)
    ∙ ap (λ n. (x.coef *ℤ value_at values x.var) +ℤ n) (value-append values xs ys)
    ∙ sym (add_assoc_ℤ (x.coef *ℤ value_at values x.var) (value_of_terms values xs) (value_of_terms values ys))
    ∙ ap (λ n. n +ℤ value_of_terms values ys) (sym (value-cons values x xs))

times-zero : (by : ℤ) → pos 0 ≡ by *ℤ pos 0
times-zero by = sym (mul_comm by (pos 0) ∙ zero-mul by)

value-multiples : (values : List ℤ) (by : ℤ) (ts : List Term) → value_of_terms values (multiples by ts) ≡ by *ℤ value_of_terms values ts
value-multiples values by [] = value-none values ∙ times-zero by ∙ ap (λ n. by *ℤ n) (sym (value-none values))
value-multiples values by (t ∷ ts) =
    value-cons values (multiple by t) (multiples by ts)
    ∙ ap (λ n. n +ℤ value_of_terms values (multiples by ts)) (mul_assoc by t.coef (value_at values t.var))
    ∙ ap (λ n. (by *ℤ (t.coef *ℤ value_at values t.var)) +ℤ n) (value-multiples values by ts)
    ∙ sym (mul-add by (t.coef *ℤ value_at values t.var) (value_of_terms values ts))
    ∙ ap (λ n. by *ℤ n) (sym (value-cons values t ts))

-- the terms and the constants that stand for terms
value-replaced : (assignment given : List ℤ) (values : List (ℕ × Linear)) (below : ℕ) (ts : List Term)
    → All (λ t. value_at given t.var ≡ value_of assignment (replacement values below t.var)) ts
    → value_of_terms assignment (replaced_terms values below ts) +ℤ replaced_constant values below ts ≡ value_of_terms given ts
value-replaced assignment given values below [] all =
    ap (λ xs. value_of_terms assignment xs +ℤ replaced_constant values below []) (replaced-none values below)
    ∙ ap (λ n. n +ℤ replaced_constant values below []) (value-none assignment)
    ∙ zero-add_ℤ (replaced_constant values below [])
    ∙ constant-none values below
    ∙ sym (value-none given)
value-replaced assignment given values below (t ∷ ts) all =
    let P : Term → Type 0 = λ u. value_at given u.var ≡ value_of assignment (replacement values below u.var) in
    let form = replacement values below t.var in
    let later = replaced_terms values below ts in
    let worth = value_of_terms assignment form.terms in
    ap (λ xs. value_of_terms assignment xs +ℤ replaced_constant values below (t ∷ ts)) (replaced-cons values below t ts)
    ∙ ap (λ n. n +ℤ replaced_constant values below (t ∷ ts))
    (value-append assignment (multiples t.coef form.terms) later ∙ ap (λ n. n +ℤ value_of_terms assignment later) (value-multiples assignment t.coef form.terms))
    ∙ ap (λ n. ((t.coef *ℤ worth) +ℤ value_of_terms assignment later) +ℤ n) (constant-cons values below t ts)
    ∙ add_pairs (t.coef *ℤ worth) (value_of_terms assignment later) (t.coef *ℤ form.constant) (replaced_constant values below ts)
    ∙ ap (λ n. ((t.coef *ℤ worth) +ℤ (t.coef *ℤ form.constant)) +ℤ n) (value-replaced assignment given values below ts (All-tail P t ts all))
    ∙ ap (λ n. n +ℤ value_of_terms given ts) (sym (mul-add t.coef worth form.constant))
    ∙ ap (λ n. (t.coef *ℤ n) +ℤ value_of_terms given ts) (sym (All-head P t ts all))
    ∙ sym (value-cons given t ts)

pub subst-value : (assignment given : List ℤ) (values : List (ℕ × Linear)) (below : ℕ) (e form : Linear) → Gives assignment values below e given
    → subst_of values below e ≡ Ok form → value_of assignment form ≡ value_of given e
subst-value assignment given values below e form gives is =
    terms-value assignment (replaced_terms values below e.terms) (replaced_constant values below e.terms +ℤ e.constant) form is
    ∙ sym (add_assoc_ℤ (value_of_terms assignment (replaced_terms values below e.terms)) (replaced_constant values below e.terms) e.constant)
    ∙ ap (λ n. n +ℤ e.constant) (value-replaced assignment given values below e.terms gives)

-- ---- the assignment that lists the values

shifted : (first k : ℕ) → suc first + k ≡ first + suc k
shifted first k = omega arith

value-from : (assignment : List ℤ) (values : List (ℕ × Linear)) (below first count k : ℕ) → k < count
    → value_at (values_from assignment values below first count) k ≡ value_of assignment (replacement values below (first + k))
unfolding values_from
value-from assignment values below first zero k h = absurd (omega arith)
value-from assignment values below first (suc count) zero h = ap (λ n. value_of assignment (replacement values below n)) (let e : first ≡ first + 0 = omega arith in e)
value-from assignment values below first (suc count) (suc k) h =
    value-from assignment values below (suc first) count k (omega arith) ∙ ap (λ n. value_of assignment (replacement values below n)) (shifted first k)

given-gives : (assignment : List ℤ) (values : List (ℕ × Linear)) (below vars : ℕ) (e : Linear) → NamesBelow vars e
    → Gives assignment values below e (given_values assignment values below vars)
given-gives assignment values below vars e named = λ k d h.
    value-from assignment values below 0 vars (get_or e.terms k d).var (named k d h)
    ∙ ap (λ n. value_of assignment (replacement values below n)) (let z : 0 + (get_or e.terms k d).var ≡ (get_or e.terms k d).var = omega arith in z)

pub subst-given_value : (assignment : List ℤ) (values : List (ℕ × Linear)) (below vars : ℕ) (e form : Linear) → NamesBelow vars e
    → subst_of values below e ≡ Ok form → value_of assignment form ≡ value_of (given_values assignment values below vars) e
subst-given_value assignment values below vars e form named is =
    subst-value assignment (given_values assignment values below vars) values below e form (given-gives assignment values below vars e named) is
