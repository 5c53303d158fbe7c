-- What forms become: the same where what stands for their variables is the same, themselves where variables stay, and the form that stands for
-- a variable alone.
use Rattle.std.proofs.Common.{◌≡◌, ◌∙◌, ℕ, suc, ℤ, pos, ◌+ℤ◌, ◌*ℤ◌, List, [], ◌∷◌, ◌++◌, Ok, refl, ap, ap₂, arith, append-nil}
use Rattle.std.specs.List.{All}
use Rattle.std.proofs.lemmas.Int.{ints}
use Rattle.std.proofs.lemmas.List.Elements.{All-head, All-tail}
use Rattle.xan_lin.specs.Linear.{Linear, IsForm, all_within, is_within, variable_form, form_of, sized}
use Rattle.xan_lin.specs.Subst.{replacement, multiples, replaced_terms, replaced_constant, subst_of}
use Rattle.xan_lin.specs.Terms.{IsRising, plus_term, sum_terms}
use Rattle.xan_lin.specs.declared.term.Term.{Term}
use Rattle.xan_lin.proofs.Booleans.{both_true}
use Rattle.xan_lin.proofs.FormSizes.{sized-fits}
use Rattle.xan_lin.proofs.TermSums.{plus-before}

-- ---- the same

-- what stands for a variable is the same in both
abbrev pub StandsAlike : (values others : List (ℕ × Linear)) (a b : ℕ) → Term → Type 0
StandsAlike values others a b t = replacement values a t.var ≡ replacement others b t.var

module _ (values others : List (ℕ × Linear)) (a b : ℕ) where
  terms_alike : (ts : List Term) → All (StandsAlike values others a b) ts → replaced_terms values a ts ≡ replaced_terms others b ts
  unfolding replaced_terms
  terms_alike [] all = refl
  terms_alike (t ∷ ts) all =
      ap₂ (λ f more. multiples t.coef f.terms ++ more) (All-head (StandsAlike values others a b) t ts all)
      (terms_alike ts (All-tail (StandsAlike values others a b) t ts all))

  constant_alike : (ts : List Term) → All (StandsAlike values others a b) ts → replaced_constant values a ts ≡ replaced_constant others b ts
  unfolding replaced_constant
  constant_alike [] all = refl
  constant_alike (t ∷ ts) all =
      ap₂ (λ f more. (t.coef *ℤ f.constant) +ℤ more) (All-head (StandsAlike values others a b) t ts all)
      (constant_alike ts (All-tail (StandsAlike values others a b) t ts all))

  pub subst_alike : (e : Linear) → All (StandsAlike values others a b) e.terms → subst_of values a e ≡ subst_of others b e
  subst_alike e all =
      ap₂ (λ ts c. form_of ts (c +ℤ e.constant)) (terms_alike e.terms all) (constant_alike e.terms all)

-- ---- forms that are within the bounds

rising_sum : (low : ℕ) (ts : List Term) → IsRising low ts → sum_terms ts [] ≡ ts
unfolding sum_terms
rising_sum low [] rises = refl
rising_sum low (t ∷ ts) rises =
    (let later = rising_sum (suc t.var) ts rises.2 in
    ap (λ us. plus_term t us) later ∙ plus-before t ts rises.1 rises.2)

pub form_itself : (ts : List Term) (c : ℤ) (e : Linear) → IsForm e → ts ≡ e.terms → c ≡ e.constant → form_of ts c ≡ Ok e
form_itself ts c e is same constant =
    ap₂ (λ us d. sized (sum_terms us []) d) same constant
    ∙ ap (λ us. sized us e.constant) (rising_sum 0 e.terms is.rising)
    ∙ sized-fits e.terms e.constant is.few (both_true (all_within e.terms) (is_within e.constant) is.small is.small_constant)

-- ---- kept

one_times : (c : ℤ) → c *ℤ pos 1 ≡ c
one_times c = omega (arith, ints)

times_one : (c : ℤ) → pos 1 *ℤ c ≡ c
times_one c = omega (arith, ints)

-- the variable stays itself
abbrev pub StaysItself : (values : List (ℕ × Linear)) (below : ℕ) → Term → Type 0
StaysItself values below t = replacement values below t.var ≡ variable_form t.var

module _ (values : List (ℕ × Linear)) (below : ℕ) where
  terms_kept : (ts : List Term) → All (StaysItself values below) ts → replaced_terms values below ts ≡ ts
  unfolding replaced_terms
  terms_kept [] all = refl
  terms_kept (t ∷ ts) all =
      ap₂ (λ f more. multiples t.coef f.terms ++ more) (All-head (StaysItself values below) t ts all) (terms_kept ts (All-tail (StaysItself values below) t ts all))
      ∙ ap (λ c. (let u : Term = record { var = t.var; coef = c } in u) ∷ ts) (one_times t.coef)

  constant_kept : (ts : List Term) → All (StaysItself values below) ts → replaced_constant values below ts ≡ pos 0
  unfolding replaced_constant
  constant_kept [] all = refl
  constant_kept (t ∷ ts) all =
      ap₂ (λ f more. (t.coef *ℤ f.constant) +ℤ more) (All-head (StaysItself values below) t ts all) (constant_kept ts (All-tail (StaysItself values below) t ts all))
      ∙ nothing t.coef
    where
      nothing : (c : ℤ) → (c *ℤ pos 0) +ℤ pos 0 ≡ pos 0
      nothing c = omega (arith, ints)

  pub subst_kept : (e : Linear) → IsForm e → All (StaysItself values below) e.terms → subst_of values below e ≡ Ok e
  subst_kept e is all =
      form_itself (replaced_terms values below e.terms) (replaced_constant values below e.terms +ℤ e.constant) e is (terms_kept e.terms all)
      (ap (λ c. c +ℤ e.constant) (constant_kept e.terms all) ∙ first e.constant)
    where
      first : (c : ℤ) → pos 0 +ℤ c ≡ c
      first c = omega (arith, ints)

  -- ---- a variable alone

  ones : (ts : List Term) → multiples (pos 1) ts ≡ ts
  ones [] = refl
  ones (t ∷ ts) = ap₂ (λ c us. (let u : Term = record { var = t.var; coef = c } in u) ∷ us) (times_one t.coef) (ones ts)

  pub subst_alone : (var : ℕ) (e : Linear) → IsForm e → replacement values below var ≡ e → subst_of values below (variable_form var) ≡ Ok e
  unfolding replaced_terms replaced_constant
  subst_alone var e is there =
      form_itself (multiples (pos 1) (replacement values below var).terms ++ []) (((pos 1 *ℤ (replacement values below var).constant) +ℤ pos 0) +ℤ pos 0) e is
      (append-nil (multiples (pos 1) (replacement values below var).terms) ∙ ones (replacement values below var).terms ∙ ap (λ f. f.terms) there)
      (one (replacement values below var).constant ∙ ap (λ f. f.constant) there)
    where
      one : (c : ℤ) → ((pos 1 *ℤ c) +ℤ pos 0) +ℤ pos 0 ≡ c
      one c = omega (arith, ints)
