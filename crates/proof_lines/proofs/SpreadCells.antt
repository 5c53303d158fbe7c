-- How far the cells of a row have come, one term after another.
use Rattle.std.proofs.Common.{◌≡◌, ℕ, suc, ◌+◌, ◌-◌, ◌<◌, ◌≤◌, ℤ, pos, true, nat_lt, List, [], ◌∷◌, ◌++◌, length, take, drop, set, replicate, get_or, Some, slice_get, sym, ◌∙◌, ap, subst, arith}
use Rattle.std.proofs.lemmas.List.{take_more, take_all, drop_more, take-append-drop}
use Rattle.xan_lin.specs.Terms.{IsRising, coefficient_of, no_term}
use Rattle.xan_lin.specs.Linear.{Linear}
use Rattle.xan_lin.specs.declared.term.Term.{Term}
use Rattle.proof_lines.specs.Variables.{with_variable, with_terms}
use Rattle.proof_lines.specs.Cells.{AreDifferent, cells_of, dense}
use Rattle.proof_lines.proofs.TermVariables.{with_terms-none, with_terms-append, with_terms-one, too_many_at}
use Rattle.xan_lin.proofs.Coefficients.{coefficient-none, coefficient-front}
use Rattle.proof_lines.proofs.Dense.{dense-with, cells-set}
use Rattle.proof_lines.proofs.FilledCells.{cells-free}

-- the row of the first terms
abbrev pub front_row : List Term → ℤ → ℕ → Linear
front_row terms constant at = record { terms = take at terms; constant = constant }

pub record Spreading (before columns : List ℕ) (cells : List ℤ) (terms : List Term) (constant : ℤ) (at : ℕ) : Type 0 where
  pub columns_are : columns ≡ with_terms before (take at terms)
  pub cells_are : cells ≡ dense columns (front_row terms constant at)
  pub few : length columns ≤ 64
  pub different : AreDifferent columns

empty : (columns : List ℕ) (free : ℕ) (constant : ℤ)
    → cells_of columns free (record { terms = []; constant = constant }) ≡ cells_of [] (length columns + free) (record { terms = []; constant = constant })
unfolding cells_of
empty [] free constant = let none : free ≡ 0 + free = omega arith in ap (λ n. cells_of [] n (record { terms = []; constant = constant })) none
empty (v ∷ columns) free constant =
    let more : suc (length columns + free) ≡ length (v ∷ columns) + free = omega arith in
    ap (λ n. n ∷ cells_of columns free (record { terms = []; constant = constant })) (coefficient-none v)
    ∙ ap (λ cells. pos 0 ∷ cells) (empty columns free constant)
    ∙ ap (λ n. cells_of [] n (record { terms = []; constant = constant })) more

pub spreads_none : (before : List ℕ) (cells : List ℤ) (terms : List Term) (constant : ℤ) → length before ≤ 64 → AreDifferent before
    → cells ≡ replicate 64 (pos 0) ++ constant ∷ [] → Spreading before before cells terms constant 0
spreads_none before cells terms constant few different is = record {
  columns_are = sym (with_terms-none before);
  cells_are = is ∙ sym (cells-free 64 (record { terms = []; constant = constant }))
      ∙ (let all : 64 ≡ length before + (64 - length before) = omega arith in ap (λ n. cells_of [] n (record { terms = []; constant = constant })) all)
      ∙ sym (empty before (64 - length before) constant);
  few = few;
  different = different;
}

split : (terms : List Term) (at : ℕ) → at < length terms → take at terms ++ get_or terms at no_term ∷ drop (at + 1) terms ≡ terms
split terms at h = ap (λ ts. take at terms ++ ts) (sym (drop_more terms at no_term h)) ∙ take-append-drop at terms

pub spreads_more : (before columns new_columns : List ℕ) (cells new_cells : List ℤ) (terms : List Term) (constant : ℤ) (at k : ℕ)
    → Spreading before columns cells terms constant at → at < length terms → IsRising 0 terms
    → new_columns ≡ with_variable columns (get_or terms at no_term).var → slice_get new_columns k ≡ Some (get_or terms at no_term).var
    → length new_columns ≤ 64 → AreDifferent new_columns → new_cells ≡ set cells k (get_or terms at no_term).coef
    → Spreading before new_columns new_cells terms constant (at + 1)
spreads_more before columns new_columns cells new_cells terms constant at k s h rising new there few different change =
    let t : Term = get_or terms at no_term in
    let row : Linear = front_row terms constant at in
    let more : take (at + 1) terms ≡ take at terms ++ t ∷ [] = take_more terms at no_term h in
    let none : coefficient_of t.var row.terms ≡ pos 0 =
    coefficient-front 0 (take at terms) (drop (at + 1) terms) t (subst (λ (ts : List Term). IsRising 0 ts) (sym (split terms at h)) rising) in
    let few_with : length (with_variable columns t.var) ≤ 64 = omega (arith, ap length new) in
    record {
      columns_are = new ∙ ap (λ vs. with_variable vs t.var) s.columns_are ∙ sym (with_terms-one (with_terms before (take at terms)) t)
          ∙ sym (with_terms-append before (take at terms) (t ∷ [])) ∙ ap (λ ts. with_terms before ts) (sym more);
      cells_are = change
          ∙ ap (λ xs. set xs k t.coef) (s.cells_are ∙ dense-with columns t.var row few_with none ∙ ap (λ vs. dense vs row) (sym new))
          ∙ cells-set new_columns (64 - length new_columns) k row t different there none
          ∙ ap (λ ts. let front : Linear = record { terms = ts; constant = constant } in dense new_columns front) (sym more);
      few = few;
      different = different;
    }

pub spreads_past : (before columns : List ℕ) (cells : List ℤ) (terms : List Term) (constant : ℤ) (at : ℕ)
    → Spreading before columns cells terms constant at → at < length terms
    → nat_lt 64 (length (with_variable columns (get_or terms at no_term).var)) ≡ true → nat_lt 64 (length (with_terms before terms)) ≡ true
spreads_past before columns cells terms constant at s h past =
    let t : Term = get_or terms at no_term in
    ap (λ ts. nat_lt 64 (length (with_terms before ts))) (sym (split terms at h))
    ∙ too_many_at before (take at terms) (drop (at + 1) terms) t (ap (λ vs. nat_lt 64 (length (with_variable vs t.var))) (sym s.columns_are) ∙ past)

pub spreads_all : (before columns : List ℕ) (cells : List ℤ) (terms : List Term) (constant : ℤ) (at : ℕ)
    → Spreading before columns cells terms constant at → length terms ≤ at
    → (columns ≡ with_terms before terms) × (cells ≡ dense columns (record { terms = terms; constant = constant }))
spreads_all before columns cells terms constant at s h =
    let all : take at terms ≡ terms = take_all at terms h in (
      s.columns_are ∙ ap (λ ts. with_terms before ts) all,
      s.cells_are ∙ ap (λ ts. let row : Linear = record { terms = ts; constant = constant } in dense columns row) all,
    )
