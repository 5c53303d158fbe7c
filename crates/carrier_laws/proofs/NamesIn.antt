-- Replaced forms name what stands for their variables.
use Rattle.std.proofs.Common.{◌≡◌, ℕ, zero, suc, ℤ, pos, negsuc, ◌+ℤ◌, List, [], ◌∷◌, ◌++◌, Bool as Truth, true, false, cond, nat_lt, Ok, subst}
use Rattle.std.specs.List.{All}
use Rattle.std.proofs.lemmas.List.Elements.{All-nil, All-cons}
use Rattle.xan_lin.specs.Linear.{Linear}
use Rattle.xan_lin.specs.Subst.{replacement, multiples, replaced_terms, subst_of}
use Rattle.xan_lin.specs.Terms.{with_multiple, plus_term, sum_terms}
use Rattle.xan_lin.specs.declared.term.Term.{Term}
use Rattle.xan_lin.proofs.FormSizes.{sized-parts}

module _ (P : ℕ → Type 0) where
  abbrev pub Names : List Term → Type 0
  Names [] = Unit {0}
  Names (t ∷ ts) = P t.var × Names ts

  in_multiple : (var : ℕ) (coef : ℤ) (us : List Term) → P var → Names us → Names (with_multiple var coef us)
  in_multiple var (pos zero) us h all = all
  in_multiple var (pos (suc k)) us h all = (h, all)
  in_multiple var (negsuc k) us h all = (h, all)

  chosen : (test : Truth) (xs ys : List Term) → Names xs → Names ys → Names (cond test xs ys)
  chosen true xs ys h k = h
  chosen false xs ys h k = k

  in_plus : (t : Term) (us : List Term) → P t.var → Names us → Names (plus_term t us)
  unfolding plus_term
  in_plus t [] h all = in_multiple t.var t.coef [] h all
  in_plus t (u ∷ us) h all =
      chosen (nat_lt t.var u.var) (with_multiple t.var t.coef (u ∷ us)) _ (in_multiple t.var t.coef (u ∷ us) h all)
      (chosen (nat_lt u.var t.var) (u ∷ plus_term t us) (with_multiple u.var (t.coef +ℤ u.coef) us) (all.0, in_plus t us h all.1) (in_multiple u.var (t.coef +ℤ u.coef) us all.0 all.1))

  in_sum : (ts us : List Term) → Names ts → Names us → Names (sum_terms ts us)
  unfolding sum_terms
  in_sum [] us all more = more
  in_sum (t ∷ ts) us all more = in_plus t (sum_terms ts us) all.0 (in_sum ts us all.1 more)

  in_both : (ts us : List Term) → Names ts → Names us → Names (ts ++ us)
  in_both [] us all more = more
  in_both (t ∷ ts) us all more = (all.0, in_both ts us all.1 more)

  in_multiples : (by : ℤ) (ts : List Term) → Names ts → Names (multiples by ts)
  in_multiples by [] all = tt
  in_multiples by (t ∷ ts) all = (all.0, in_multiples by ts all.1)

  -- what stands for each variable names such variables
  abbrev pub Stand : (values : List (ℕ × Linear)) (below : ℕ) → List Term → Type 0
  Stand values below [] = Unit {0}
  Stand values below (t ∷ ts) = Names (replacement values below t.var).terms × Stand values below ts

  in_replaced : (values : List (ℕ × Linear)) (below : ℕ) (ts : List Term) → Stand values below ts → Names (replaced_terms values below ts)
  unfolding replaced_terms
  in_replaced values below [] all = tt
  in_replaced values below (t ∷ ts) all =
      in_both (multiples t.coef (replacement values below t.var).terms) (replaced_terms values below ts) (in_multiples t.coef (replacement values below t.var).terms all.0) (in_replaced values below ts all.1)

  all_names : (ts : List Term) → Names ts → All (λ t. P t.var) ts
  all_names [] all = All-nil (λ (t : Term). P t.var)
  all_names (t ∷ ts) all = All-cons (λ (t : Term). P t.var) t ts all.0 (all_names ts all.1)

  pub in_subst : (values : List (ℕ × Linear)) (below : ℕ) (e form : Linear) → Stand values below e.terms → subst_of values below e ≡ Ok form → All (λ t. P t.var) form.terms
  in_subst values below e form all is =
      let parts = sized-parts (sum_terms (replaced_terms values below e.terms) []) _ form is in
      subst (λ (g : Linear). All (λ t. P t.var) g.terms) parts (all_names _ (in_sum (replaced_terms values below e.terms) [] (in_replaced values below e.terms all) tt))
