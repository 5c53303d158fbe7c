-- Equal coefficients are the same terms.
use Rattle.std.proofs.Common.{◌≡◌, pos, true, List, ap}
use Rattle.xan_lin.specs.Linear.{Linear}
use Rattle.xan_lin.specs.declared.term.Term.{Term}
use Rattle.index_sorts.proofs.KnownRows.{Decides-same_form}
use Rattle.solver_rows.specs.SystemRows.{same_terms}

pub equal_terms : (ts us : List Term) → same_terms ts us ≡ true → ts ≡ us
equal_terms ts us e =
    let x : Linear = record { terms = ts; constant = pos 0 } in
    let y : Linear = record { terms = us; constant = pos 0 } in
    ap (λ f. f.terms) ((Decides-same_form x y).0 e)

pub terms_equal : (ts us : List Term) → ts ≡ us → same_terms ts us ≡ true
terms_equal ts us e =
    let x : Linear = record { terms = ts; constant = pos 0 } in
    let y : Linear = record { terms = us; constant = pos 0 } in
    (Decides-same_form x y).1 (ap (λ vs. let z : Linear = record { terms = vs; constant = pos 0 } in z) e)
