-- The value of terms, one term after another.
use Rattle.std.proofs.lemmas.Int.{ints}
use Rattle.std.proofs.Common.{◌≡◌, Bool, true, ◌-ℤ◌, ℕ, ◌+◌, ◌<◌, ◌≤◌, ℤ, pos, ◌+ℤ◌, ◌*ℤ◌, List, length, drop, get_or, sym, ◌∙◌, ap, arith}
use Rattle.std.proofs.lemmas.List.{drop_more, drop_all}
use Rattle.xan_lin.specs.Terms.{no_term}
use Rattle.xan_lin.specs.Value.{value_at, value_of_terms}
use Rattle.xan_lin.specs.Wide.{IsSumOf, GrowsByOne}
use Rattle.xan_lin.specs.declared.wide.Wide.{Wide}
use Rattle.xan_lin.specs.declared.term.Term.{Term}
use Rattle.xan_lin.proofs.Ring.{add_assoc_ℤ, add_none}
use Rattle.xan_lin.proofs.ResultValues.{value-cons, value-none}

pub adds_value : (sum new target : ℤ) (at : ℕ) (values : List ℤ) (ts : List Term) → at < length ts
    → new ≡ sum +ℤ ((get_or ts at no_term).coef *ℤ value_at values (get_or ts at no_term).var)
    → sum +ℤ value_of_terms values (drop at ts) ≡ target → new +ℤ value_of_terms values (drop (at + 1) ts) ≡ target
adds_value sum new target at values ts h e same =
    let t = get_or ts at no_term in
    let rest = value_of_terms values (drop (at + 1) ts) in
    ap (λ n. n +ℤ rest) e
    ∙ add_assoc_ℤ sum (t.coef *ℤ value_at values t.var) rest
    ∙ ap (λ n. sum +ℤ n) (sym (ap (λ xs. value_of_terms values xs) (drop_more ts at no_term h) ∙ value-cons values t (drop (at + 1) ts)))
    ∙ same

pub values_added : (sum target : ℤ) (at : ℕ) (values : List ℤ) (ts : List Term) → length ts ≤ at → sum +ℤ value_of_terms values (drop at ts) ≡ target → sum ≡ target
values_added sum target at values ts h same =
    add_none sum ∙ ap (λ n. sum +ℤ n) (sym (ap (λ xs. value_of_terms values xs) (drop_all at ts h) ∙ value-none values)) ∙ same

pub one_more : (count : ℕ) (old new : Wide) → IsSumOf count old → GrowsByOne old new → IsSumOf (count + 1) new
one_more count old new s g = record { high = omega arith; low = omega arith }

-- a number less a word is 0 where it is the word
pub is_the_word : (answer : Bool) (value number less word : ℤ) → number ≡ value → less ≡ number -ℤ word → (answer ≡ true → less ≡ pos 0) × (less ≡ pos 0 → answer ≡ true)
    → (answer ≡ true → value ≡ word) × (value ≡ word → answer ≡ true)
is_the_word answer value number less word e f h = (λ b. (let none : less ≡ pos 0 = h.0 b in omega (arith, ints)), λ same. h.1 (omega (arith, ints)))
