-- The tests of equal terms and forms say what they should.
use Rattle.std.proofs.Common.{◌≡◌, Bool, List, ◌==◌, sym, ◌∙◌, ap, subst}
use Rattle.std.specs.Ordering.{int_eq}
use Rattle.std.specs.Bool.{Decides}
use Rattle.std.specs.Cmp.Lexicographic.{pointwise, pointwise_decides}
use Rattle.std.proofs.lemmas.Bool.Decides.{Decides-eqb, Decides-int_eq}
use Rattle.xan_lin.specs.Linear.{Linear}
use Rattle.xan_lin.specs.Same.{same_term, same_form}
use Rattle.xan_lin.specs.declared.term.Term.{Term}
use Rattle.xan_lin.proofs.Booleans.{both, both_true}

Decides-same_term : (t u : Term) → Decides (same_term t u) (t ≡ u)
Decides-same_term t u = (
  λ e. (let parts = both (t.var == u.var) (int_eq t.coef u.coef) e in
      ap (λ v. let w : Term = record { var = v; coef = t.coef } in w) ((Decides-eqb t.var u.var).0 parts.0)
      ∙ ap (λ c. let w : Term = record { var = u.var; coef = c } in w) ((Decides-int_eq t.coef u.coef).0 parts.1)),
  λ e. both_true (t.var == u.var) (int_eq t.coef u.coef) ((Decides-eqb t.var u.var).1 (ap (λ w. w.var) e)) ((Decides-int_eq t.coef u.coef).1 (ap (λ w. w.coef) e)),
)

Decides-same_terms : (ts us : List Term) → Decides (pointwise same_term ts us) (ts ≡ us)
Decides-same_terms ts us = pointwise_decides Decides-same_term ts us

pub Decides-same_form : (e f : Linear) → Decides (same_form e f) (e ≡ f)
Decides-same_form e f = (
  λ h. (let parts = both (int_eq e.constant f.constant) (pointwise same_term e.terms f.terms) h in
      ap (λ ts. let g : Linear = record { terms = ts; constant = e.constant } in g) ((Decides-same_terms e.terms f.terms).0 parts.1)
      ∙ ap (λ c. let g : Linear = record { terms = f.terms; constant = c } in g) ((Decides-int_eq e.constant f.constant).0 parts.0)),
  λ h. both_true (int_eq e.constant f.constant) (pointwise same_term e.terms f.terms) ((Decides-int_eq e.constant f.constant).1 (ap (λ g. g.constant) h)) ((Decides-same_terms e.terms f.terms).1 (ap (λ g. g.terms) h)),
)

-- the same of an answer
pub answer_decides : (e f : Linear) (answer : Bool) → answer ≡ same_form e f → Decides answer (e ≡ f)
answer_decides e f answer h = subst (λ b. Decides b (e ≡ f)) (sym h) (Decides-same_form e f)
