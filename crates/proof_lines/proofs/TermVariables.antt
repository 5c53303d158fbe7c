-- The variables of terms, one term after another.
use Rattle.std.proofs.Common.{◌≡◌, ℕ, ◌≤◌, Bool, true, false, cond, nat_lt, List, [], ◌∷◌, ◌++◌, length, refl, sym, ◌∙◌, ap, subst, arith}
use Rattle.std.proofs.lemmas.List.{length-append}
use Rattle.std.proofs.lemmas.Bool.Decides.{nat_tests}
use Rattle.xan_lin.specs.Linear.{Linear}
use Rattle.xan_lin.specs.declared.term.Term.{Term}
use Rattle.proof_lines.specs.Variables.{is_among, with_variable, with_terms, with_rows}
use Rattle.proof_lines.specs.Cells.{AreDifferent}
use Rattle.proof_lines.proofs.Different.{different-with}

pub with_terms-none : (vs : List ℕ) → with_terms vs [] ≡ vs
unfolding with_terms
with_terms-none vs = refl

pub with_terms-append : (vs : List ℕ) (ts us : List Term) → with_terms vs (ts ++ us) ≡ with_terms (with_terms vs ts) us
unfolding with_terms
with_terms-append vs [] us = refl
with_terms-append vs (t ∷ ts) us = with_terms-append (with_variable vs t.var) ts us

pub with_terms-one : (vs : List ℕ) (t : Term) → with_terms vs (t ∷ []) ≡ with_variable vs t.var
unfolding with_terms
with_terms-one vs t = refl

pub with_terms-cons : (vs : List ℕ) (t : Term) (ts : List Term) → with_terms vs (t ∷ ts) ≡ with_terms (with_variable vs t.var) ts
unfolding with_terms
with_terms-cons vs t ts = refl

pub with_rows-push : (vs : List ℕ) (rows : List Linear) (row : Linear) → with_rows vs (rows ++ row ∷ []) ≡ with_terms (with_rows vs rows) row.terms
unfolding with_rows
with_rows-push vs [] row = refl
with_rows-push vs (r ∷ rows) row = with_rows-push (with_terms vs r.terms) rows row

longer : (b : Bool) (vs : List ℕ) (v : ℕ) → length vs ≤ length (cond b vs (vs ++ v ∷ []))
longer true vs v = omega arith
longer false vs v = omega (arith, length-append vs (v ∷ []))

pub length-with_terms : (vs : List ℕ) (ts : List Term) → length vs ≤ length (with_terms vs ts)
length-with_terms vs [] = omega (arith, ap length (with_terms-none vs))
length-with_terms vs (t ∷ ts) =
    omega (arith, ap length (with_terms-cons vs t ts), length-with_terms (with_variable vs t.var) ts, longer (is_among t.var vs) vs t.var)

pub different-with_terms : (vs : List ℕ) (ts : List Term) → AreDifferent vs → AreDifferent (with_terms vs ts)
different-with_terms vs [] d = subst AreDifferent (sym (with_terms-none vs)) d
different-with_terms vs (t ∷ ts) d = subst AreDifferent (sym (with_terms-cons vs t ts)) (different-with_terms (with_variable vs t.var) ts (different-with vs t.var d))

-- where one term is too many, all are
pub too_many_at : (vs : List ℕ) (ts us : List Term) (t : Term) → nat_lt 64 (length (with_variable (with_terms vs ts) t.var)) ≡ true
    → nat_lt 64 (length (with_terms vs (ts ++ t ∷ us))) ≡ true
too_many_at vs ts us t h =
    let grows = length-with_terms (with_variable (with_terms vs ts) t.var) us in
    let same = ap length (with_terms-append vs ts (t ∷ us) ∙ with_terms-cons (with_terms vs ts) t us) in
    over (length (with_variable (with_terms vs ts) t.var)) (length (with_terms vs (ts ++ t ∷ us))) h (omega arith)
  where
    over : (m n : ℕ) → nat_lt 64 m ≡ true → m ≤ n → nat_lt 64 n ≡ true
    over m n h le = grind (arith, nat_tests)
