-- What stands for terms, one term after another.
use Rattle.std.proofs.Common.{◌≡◌, ℕ, ◌+◌, ◌<◌, ◌≤◌, ℤ, pos, ◌+ℤ◌, ◌*ℤ◌, List, [], ◌∷◌, ◌++◌, length, drop, get_or, nat_lt, Bool, true, false, cond, Some, None, refl, sym, ◌∙◌, ap}
use Rattle.std.proofs.lemmas.List.{append_assoc, append-nil, drop_more, drop_all, length-append, length-map}
use Rattle.xan_lin.specs.Terms.{no_term}
use Rattle.xan_lin.specs.Linear.{Linear, variable_form}
use Rattle.xan_lin.specs.Subst.{listed, listed_or_own, zero_form, replacement, multiple, multiples, replaced_terms, replaced_constant}
use Rattle.xan_lin.specs.declared.term.Term.{Term}
use Rattle.xan_lin.proofs.Booleans.{less, not_less}
use Rattle.xan_lin.proofs.Ring.{add_assoc_ℤ, add_none}

-- ---- what stands for one variable

pub replacement-listed : (values : List (ℕ × Linear)) (below var : ℕ) (form : Linear) → Some form ≡ listed var values → form ≡ replacement values below var
unfolding replacement
replacement-listed values below var form e = ap (λ o. listed_or_own o below var) e

pub replacement-kept : (values : List (ℕ × Linear)) (below var : ℕ) → None ≡ listed var values → var < below → variable_form var ≡ replacement values below var
unfolding replacement
replacement-kept values below var e h =
    sym (ap (λ b. cond b (variable_form var) zero_form) (less var below h)) ∙ ap (λ o. listed_or_own o below var) e

pub replacement-zero : (values : List (ℕ × Linear)) (below var : ℕ) → None ≡ listed var values → below ≤ var → zero_form ≡ replacement values below var
unfolding replacement
replacement-zero values below var e h =
    sym (ap (λ b. cond b (variable_form var) zero_form) (not_less var below h)) ∙ ap (λ o. listed_or_own o below var) e

constant-own : (within : Bool) (var : ℕ) → pos 0 ≡ (cond within (variable_form var) zero_form).constant
constant-own true var = refl
constant-own false var = refl

-- a variable that is not listed brings no constant
pub constant-unlisted : (values : List (ℕ × Linear)) (below var : ℕ) → None ≡ listed var values → pos 0 ≡ (replacement values below var).constant
unfolding replacement
constant-unlisted values below var e = constant-own (nat_lt var below) var ∙ ap (λ o. (listed_or_own o below var).constant) e

-- ---- the terms

pub replaced-cons : (values : List (ℕ × Linear)) (below : ℕ) (t : Term) (ts : List Term)
    → replaced_terms values below (t ∷ ts) ≡ multiples t.coef (replacement values below t.var).terms ++ replaced_terms values below ts
unfolding replaced_terms
replaced-cons values below t ts = refl

pub replaced-none : (values : List (ℕ × Linear)) (below : ℕ) → replaced_terms values below [] ≡ []
unfolding replaced_terms
replaced-none values below = refl

pub one_replaced : (made new whole ts : List Term) (values : List (ℕ × Linear)) (below at : ℕ) → at < length ts
    → new ≡ made ++ multiples (get_or ts at no_term).coef (replacement values below (get_or ts at no_term).var).terms
    → made ++ replaced_terms values below (drop at ts) ≡ whole → new ++ replaced_terms values below (drop (at + 1) ts) ≡ whole
one_replaced made new whole ts values below at h e same =
    let t = get_or ts at no_term in
    let rest = replaced_terms values below (drop (at + 1) ts) in
    ap (λ xs. xs ++ rest) e
    ∙ append_assoc made (multiples t.coef (replacement values below t.var).terms) rest
    ∙ ap (λ xs. made ++ xs) (sym (ap (λ xs. replaced_terms values below xs) (drop_more ts at no_term h) ∙ replaced-cons values below t (drop (at + 1) ts)))
    ∙ same

pub all_replaced : (made whole ts : List Term) (values : List (ℕ × Linear)) (below at : ℕ) → length ts ≤ at
    → made ++ replaced_terms values below (drop at ts) ≡ whole → made ≡ whole
all_replaced made whole ts values below at h same =
    sym (append-nil made) ∙ ap (λ xs. made ++ xs) (sym (ap (λ xs. replaced_terms values below xs) (drop_all at ts h) ∙ replaced-none values below)) ∙ same

-- ---- how many there are

replaced-length : (values : List (ℕ × Linear)) (below : ℕ) (t : Term) (ts : List Term)
    → length (replaced_terms values below (t ∷ ts)) ≡ length (replacement values below t.var).terms + length (replaced_terms values below ts)
replaced-length values below t ts =
    let own = (replacement values below t.var).terms in
    ap length (replaced-cons values below t ts)
    ∙ length-append (multiples t.coef own) (replaced_terms values below ts)
    ∙ ap (λ n. n + length (replaced_terms values below ts)) (length-map own (multiple t.coef))

pub replaced-next : (ts : List Term) (values : List (ℕ × Linear)) (below at : ℕ) → at < length ts
    → length (replaced_terms values below (drop at ts))
    ≡ length (replacement values below (get_or ts at no_term).var).terms + length (replaced_terms values below (drop (at + 1) ts))
replaced-next ts values below at h =
    ap (λ xs. length (replaced_terms values below xs)) (drop_more ts at no_term h) ∙ replaced-length values below (get_or ts at no_term) (drop (at + 1) ts)

pub replaced-end : (ts : List Term) (values : List (ℕ × Linear)) (below at : ℕ) → length ts ≤ at → length (replaced_terms values below (drop at ts)) ≡ 0
replaced-end ts values below at h = ap length (ap (λ xs. replaced_terms values below xs) (drop_all at ts h) ∙ replaced-none values below)

-- ---- the constants

pub constant-cons : (values : List (ℕ × Linear)) (below : ℕ) (t : Term) (ts : List Term)
    → replaced_constant values below (t ∷ ts) ≡ (t.coef *ℤ (replacement values below t.var).constant) +ℤ replaced_constant values below ts
unfolding replaced_constant
constant-cons values below t ts = refl

pub constant-none : (values : List (ℕ × Linear)) (below : ℕ) → replaced_constant values below [] ≡ pos 0
unfolding replaced_constant
constant-none values below = refl

pub adds_constant : (sum new whole : ℤ) (ts : List Term) (values : List (ℕ × Linear)) (below at : ℕ) → at < length ts
    → new ≡ sum +ℤ ((get_or ts at no_term).coef *ℤ (replacement values below (get_or ts at no_term).var).constant)
    → sum +ℤ replaced_constant values below (drop at ts) ≡ whole → new +ℤ replaced_constant values below (drop (at + 1) ts) ≡ whole
adds_constant sum new whole ts values below at h e same =
    let t = get_or ts at no_term in
    let rest = replaced_constant values below (drop (at + 1) ts) in
    ap (λ n. n +ℤ rest) e
    ∙ add_assoc_ℤ sum (t.coef *ℤ (replacement values below t.var).constant) rest
    ∙ ap (λ n. sum +ℤ n) (sym (ap (λ xs. replaced_constant values below xs) (drop_more ts at no_term h) ∙ constant-cons values below t (drop (at + 1) ts)))
    ∙ same

pub constants_added : (sum whole : ℤ) (ts : List Term) (values : List (ℕ × Linear)) (below at : ℕ) → length ts ≤ at
    → sum +ℤ replaced_constant values below (drop at ts) ≡ whole → sum ≡ whole
constants_added sum whole ts values below at h same =
    add_none sum ∙ ap (λ n. sum +ℤ n) (sym (ap (λ xs. replaced_constant values below xs) (drop_all at ts h) ∙ constant-none values below)) ∙ same
