-- What is read of a workspace: coefficients, and equal rows; and a row that goes to its place.
use Rattle.std.proofs.Common.{◌≡◌, ◌↔◌, ℕ, ◌+◌, ◌<◌, ◌≤◌, ℤ, pos, IsTrue, Bool, true, false, ◌&&◌, ◌||◌, int_lt, List, [], ◌∷◌, ◌++◌, length, drop, set, get_or, refl, sym, ◌∙◌, ap, subst, arith}
use Rattle.std.specs.List.{list_any}
use Rattle.std.proofs.lemmas.List.{drop_more, drop_all, get_or_default}
use Rattle.xan_lin.specs.declared.term.Term.{Term}
use Rattle.solver_rows.specs.SystemRows.{Row, linear_of, same_terms, coefficient, holds}
use Rattle.linear_solver.specs.Systems.{lesser, settle}
use Rattle.index_sorts.specs.Known.{no_terms}
use Rattle.linear_solver.specs.Choosing.{cannot_hold}
use Rattle.linear_solver.specs.Reducing.{AreDistinct, IsPlace}
use Rattle.solver_rows.specs.RowsInCells.{AreRising, sparse, linear_in}
use Rattle.linear_solver.specs.Region.{no_row, Work}
use Rattle.solver_rows.proofs.Sparse.{sparse-coefficient, sparse-equal}
use Rattle.solver_rows.proofs.SameTerms.{equal_terms, terms_equal}
use Rattle.linear_solver.proofs.Distinct.{settles_none, settles_new, settles_at}

-- ---- coefficients

pub coefficient_in : (vars read : List ℕ) (cells : List ℤ) (row : Row) (column : ℕ) → read ≡ vars → AreRising 0 read → column < length vars
    → linear_in vars (row.constant ∷ cells) ≡ linear_of row → get_or cells column (pos 0) ≡ coefficient (get_or vars column 0) row.terms
coefficient_in vars read cells row column same rising h linear =
    sparse-coefficient 0 vars cells column 0 (subst (λ (vs : List ℕ). AreRising 0 vs) same rising) h
    ∙ ap (λ x. coefficient (get_or vars column 0) x.terms) linear

-- ---- equal coefficients

tails : (vars : List ℕ) (xs : List ℤ) → length xs ≡ length vars + 1 → (linear_in vars xs).terms ≡ sparse vars (drop 1 xs)
tails vars [] e = absurd (omega arith)
tails vars (x ∷ xs) e = refl

tail-length : (xs : List ℤ) (n : ℕ) → length xs ≡ n + 1 → length (drop 1 xs) ≡ n
tail-length [] n e = absurd (omega arith)
tail-length (x ∷ xs) n e = omega arith

pub same_in : (vars read : List ℕ) (xs ys : List ℤ) (row : Row) (b : Bool) → read ≡ vars → AreRising 0 read → length xs ≡ length vars → length ys ≡ length vars + 1
    → linear_in vars (row.constant ∷ xs) ≡ linear_of row → (IsTrue b ↔ (xs ≡ drop 1 ys)) → b ≡ same_terms row.terms (linear_in vars ys).terms
same_in vars read xs ys row b same rising wide_x wide_y linear decides = go b decides (same_terms row.terms (linear_in vars ys).terms) refl
  where
    of_row : row.terms ≡ sparse vars xs
    of_row = ap (λ x. x.terms) (sym linear)

    go : (b : Bool) → (IsTrue b ↔ (xs ≡ drop 1 ys)) → (t : Bool) → same_terms row.terms (linear_in vars ys).terms ≡ t → b ≡ t
    go true d t e =
        sym (terms_equal row.terms (linear_in vars ys).terms (of_row ∙ ap (sparse vars) (d.0 refl) ∙ sym (tails vars ys wide_y))) ∙ e
    go false d true e =
        d.1 (sparse-equal 0 vars xs (drop 1 ys) (subst (λ (vs : List ℕ). AreRising 0 vs) same rising) wide_x (tail-length ys (length vars) wide_y)
        (sym of_row ∙ equal_terms row.terms (linear_in vars ys).terms e ∙ tails vars ys wide_y))
    go false d false e = refl

-- ---- the search for a row with these coefficients

pub is_place : (rows : List Row) (ts : List Term) (k : ℕ) (b : Bool) → k < length rows → b ≡ same_terms (get_or rows k no_row).terms ts → b ≡ true → IsPlace rows ts k
is_place rows ts k b h e t = (h, λ d. ap (λ r. same_terms r.terms ts) (get_or_default rows k d no_row h) ∙ sym e ∙ t)

any-cons : (p : Row → Bool) (rows : List Row) (k : ℕ) → k < length rows → p (get_or rows k no_row) ≡ false → list_any p (drop k rows) ≡ list_any p (drop (k + 1) rows)
any-cons p rows k h e = ap (list_any p) (drop_more rows k no_row h) ∙ ap (λ b. b || list_any p (drop (k + 1) rows)) e

pub not_here : (rows : List Row) (ts : List Term) (k : ℕ) (b : Bool) → k < length rows → b ≡ same_terms (get_or rows k no_row).terms ts → b ≡ false
    → list_any (λ r. same_terms r.terms ts) (drop k rows) ≡ list_any (λ r. same_terms r.terms ts) rows
    → list_any (λ r. same_terms r.terms ts) (drop (k + 1) rows) ≡ list_any (λ r. same_terms r.terms ts) rows
not_here rows ts k b h e f same = sym (any-cons (λ r. same_terms r.terms ts) rows k h (sym e ∙ f)) ∙ same

pub not_anywhere : (rows : List Row) (ts : List Term) (k : ℕ) → length rows ≤ k → list_any (λ r. same_terms r.terms ts) (drop k rows) ≡ list_any (λ r. same_terms r.terms ts) rows
    → list_any (λ r. same_terms r.terms ts) rows ≡ false
not_anywhere rows ts k h same = sym same ∙ ap (list_any (λ r. same_terms r.terms ts)) (drop_all k rows h)

-- ---- a row that goes to its place

pub holds_settled : (w : Work) (r : Row) (b : Bool) → b ≡ holds r → b ≡ true → w ≡ record w { made = settle w.made r }
holds_settled w r b e t = ap (λ rs. let v : Work = record w { made = rs } in v) (settles_none w.made r b e t)

pub put_settled : (w new : Work) (r : Row) (b : Bool) → b ≡ holds r → b ≡ false → list_any (λ s. same_terms s.terms r.terms) w.made ≡ false → new ≡ record w { made = w.made ++ r ∷ [] }
    → new ≡ record w { made = settle w.made r }
put_settled w new r b e f none change =
    change ∙ ap (λ rs. let v : Work = record w { made = rs } in v) (settles_new w.made w.made (w.made ++ r ∷ []) r r.terms b e f refl refl none refl)

pub set_settled : (w new : Work) (r : Row) (k : ℕ) (b : Bool) → b ≡ holds r → b ≡ false → IsPlace w.made r.terms k → AreDistinct w.made
    → new ≡ record w { made = set w.made k (lesser (get_or w.made k no_row) r) } → new ≡ record w { made = settle w.made r }
set_settled w new r k b e f p d change =
    change ∙ ap (λ rs. let v : Work = record w { made = rs } in v)
    (ap (λ s. set w.made k (lesser s r)) (get_or_default w.made k no_row r p.0)
    ∙ settles_at w.made w.made (set w.made k (lesser (get_or w.made k r) r)) r r.terms k b e f refl refl p d refl)

-- ---- a row that cannot hold

pub refutes_is : (row : Row) (c : ℤ) → no_terms row.terms ≡ true → c ≡ row.constant → int_lt c (pos 0) ≡ cannot_hold row
refutes_is row c none is = ap (λ n. int_lt n (pos 0)) is ∙ ap (λ b. b && int_lt row.constant (pos 0)) (sym none)

pub refutes_not : (row : Row) (b : Bool) → b ≡ no_terms row.terms → b ≡ false → b ≡ cannot_hold row
refutes_not row b is e = e ∙ ap (λ t. t && int_lt row.constant (pos 0)) (sym e ∙ is)
