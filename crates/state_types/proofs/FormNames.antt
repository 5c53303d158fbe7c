-- Sums, differences and replaced forms name only variables of their parts.
use Rattle.std.proofs.Common.{◌≡◌, ℕ, zero, suc, ◌<◌, ◌≤◌, ◌==◌, ℤ, pos, negsuc, ◌+ℤ◌, List, [], ◌∷◌, Bool as Truth, true, false, cond, nat_lt, Option, Some, None, Ok, refl, subst, arith}
use Rattle.std.specs.List.{All}
use Rattle.std.proofs.lemmas.List.Elements.{All-nil, All-cons, All-head, All-tail, All-append, All-map}
use Rattle.xan_lin.specs.Linear.{Linear, NamesBelow, variable_form, difference_of}
use Rattle.xan_lin.specs.Subst.{listed, listed_or_own, replacement, multiple, multiples, replaced_terms, subst_of, zero_form}
use Rattle.xan_lin.specs.Terms.{with_multiple, plus_term, sum_terms, negated_term, negated_terms}
use Rattle.xan_lin.specs.declared.term.Term.{Term}
use Rattle.xan_lin.proofs.Booleans.{is_less}
use Rattle.xan_lin.proofs.FormSizes.{sized-parts}
use Rattle.state_types.specs.Naming.{ValuesBelow}

abbrev pub Below : ℕ → List Term → Type 0
Below n ts = All (λ t. t.var < n) ts

-- ---- sums

below-multiple : (n var : ℕ) (coef : ℤ) (us : List Term) → var < n → Below n us → Below n (with_multiple var coef us)
below-multiple n var (pos zero) us h all = all
below-multiple n var (pos (suc k)) us h all = All-cons (λ t. t.var < n) (record { var = var; coef = pos (suc k) }) us h all
below-multiple n var (negsuc k) us h all = All-cons (λ t. t.var < n) (record { var = var; coef = negsuc k }) us h all

chosen : (n : ℕ) (test : Truth) (xs ys : List Term) → Below n xs → Below n ys → Below n (cond test xs ys)
chosen n true xs ys h k = h
chosen n false xs ys h k = k

below-plus : (n : ℕ) (t : Term) (us : List Term) → t.var < n → Below n us → Below n (plus_term t us)
unfolding plus_term
below-plus n t [] h all = below-multiple n t.var t.coef [] h all
below-plus n t (u ∷ us) h all =
    let P : Term → Type 0 = λ v. v.var < n in
    let later = All-tail P u us all in
    let here = All-head P u us all in
    chosen n (nat_lt t.var u.var) (with_multiple t.var t.coef (u ∷ us)) _ (below-multiple n t.var t.coef (u ∷ us) h all)
    (chosen n (nat_lt u.var t.var) (u ∷ plus_term t us) (with_multiple u.var (t.coef +ℤ u.coef) us) (All-cons P u (plus_term t us) here (below-plus n t us h later))
    (below-multiple n u.var (t.coef +ℤ u.coef) us here later))

below-sum : (n : ℕ) (ts us : List Term) → Below n ts → Below n us → Below n (sum_terms ts us)
unfolding sum_terms
below-sum n [] us all more = more
below-sum n (t ∷ ts) us all more =
    let P : Term → Type 0 = λ v. v.var < n in
    below-plus n t (sum_terms ts us) (All-head P t ts all) (below-sum n ts us (All-tail P t ts all) more)

pub below-difference : (n : ℕ) (e f difference : Linear) → difference_of e f ≡ Ok difference → NamesBelow n e → NamesBelow n f → NamesBelow n difference
below-difference n e f difference is h k =
    let parts = sized-parts (sum_terms e.terms (negated_terms f.terms)) _ difference is in
    subst (λ g. NamesBelow n g) parts (below-sum n e.terms (negated_terms f.terms) h (All-map (λ t. t.var < n) negated_term f.terms k))

-- ---- replaced forms

pub below-zero : (n : ℕ) → NamesBelow n zero_form
below-zero n = All-nil (λ t. t.var < n)

pub below-variable : (n var : ℕ) → var < n → NamesBelow n (variable_form var)
below-variable n var h = All-cons (λ t. t.var < n) (record { var = var; coef = pos 1 }) [] h (All-nil (λ t. t.var < n))

own_by : (test : Truth) (n below var : ℕ) → below ≤ n → nat_lt var below ≡ test → NamesBelow n (cond test (variable_form var) zero_form)
own_by true n below var le e = (let h : var < below = is_less var below e in below-variable n var (omega arith))
own_by false n below var le e = below-zero n

below-own : (n below var : ℕ) (found : Option Linear) → below ≤ n → ((form : Linear) → found ≡ Some form → NamesBelow n form) → NamesBelow n (listed_or_own found below var)
below-own n below var (Some form) le named = named form refl
below-own n below var None le named = own_by (nat_lt var below) n below var le refl

listed_by : (test : Truth) (n var : ℕ) (v : ℕ × Linear) (vs : List (ℕ × Linear)) (form : Linear) → NamesBelow n v.1 → (listed var vs ≡ Some form → NamesBelow n form)
    → cond test (Some v.1) (listed var vs) ≡ Some form → NamesBelow n form
listed_by true n var v vs form here later e = (let same : v.1 ≡ form = cc in subst (λ f. NamesBelow n f) same here)
listed_by false n var v vs form here later e = later e

below-listed : (n var : ℕ) (values : List (ℕ × Linear)) (form : Linear) → ValuesBelow n values → listed var values ≡ Some form → NamesBelow n form
below-listed n var [] form all e = absurd (let bad : ⊥ = cc in bad)
below-listed n var (v ∷ vs) form all e =
    let P : ℕ × Linear → Type 0 = λ x. NamesBelow n x.1 in
    listed_by (v.0 == var) n var v vs form (All-head P v vs all) (below-listed n var vs form (All-tail P v vs all)) e

below-replacement : (n below var : ℕ) (values : List (ℕ × Linear)) → below ≤ n → ValuesBelow n values → NamesBelow n (replacement values below var)
unfolding replacement
below-replacement n below var values le all = below-own n below var (listed var values) le (λ form e. below-listed n var values form all e)

below-replaced : (n below : ℕ) (values : List (ℕ × Linear)) (ts : List Term) → below ≤ n → ValuesBelow n values → Below n (replaced_terms values below ts)
unfolding replaced_terms
below-replaced n below values [] le all = All-nil (λ t. t.var < n)
below-replaced n below values (t ∷ ts) le all =
    All-append (λ u. u.var < n) (multiples t.coef (replacement values below t.var).terms) (replaced_terms values below ts)
    (All-map (λ u. u.var < n) (multiple t.coef) (replacement values below t.var).terms (below-replacement n below t.var values le all)) (below-replaced n below values ts le all)

pub below-subst : (n below : ℕ) (values : List (ℕ × Linear)) (e form : Linear) → below ≤ n → ValuesBelow n values → subst_of values below e ≡ Ok form → NamesBelow n form
below-subst n below values e form le all is =
    let parts = sized-parts (sum_terms (replaced_terms values below e.terms) []) _ form is in
    subst (λ g. NamesBelow n g) parts (below-sum n (replaced_terms values below e.terms) [] (below-replaced n below values e.terms le all) (All-nil (λ t. t.var < n)))

pub below-more : (m n : ℕ) (form : Linear) → m ≤ n → NamesBelow m form → NamesBelow n form
below-more m n form le named = λ k d h. omega (arith, named k d h)
