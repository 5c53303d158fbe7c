-- What a combination and a cut give in cells is what they give.
use Rattle.std.proofs.Common.{◌≡◌, ℕ, zero, suc, ◌-◌, ◌≤◌, ℤ, pos, ◌&&◌, Bool, true, false, cond, nat_lt, int_lt, List, [], ◌∷◌, length, take, get_or, map, Option, Some, None, option_map, slice_get, Result, Ok, Err, refl, sym, ◌∙◌, ap, subst, arith}
use Rattle.std.specs.List.{list_all}
use Rattle.std.proofs.lemmas.Bool.Decides.{nat_tests, Decides-int_eq}
use Rattle.std.proofs.lemmas.Option.{slice_get-map}
use Rattle.xan_lin.specs.Terms.{IsRising}
use Rattle.xan_lin.specs.Linear.{Linear, is_within, are_within}
use Rattle.xan_lin.specs.declared.term.Term.{Term}
use Rattle.index_sorts.specs.Known.{no_terms}
use Rattle.proof_lines.specs.declared.line.Line.{Line}
use Rattle.proof_lines.specs.declared.line.Line.TheVariants.{Hyp, Goal, Comb, Cut}
use Rattle.proof_lines.specs.declared.bad_line.Why.{Why}
use Rattle.proof_lines.specs.declared.bad_line.Why.TheVariants as why
use Rattle.proof_lines.specs.Rows.{opposite_of, combination_of, cut_of, floor_over, is_multiple, divides, is_refutation}
use Rattle.proof_lines.specs.Variables.{with_terms}
use Rattle.proof_lines.specs.Check.{is_listed, with_row, bounded, is_positive, row_given, ends_refuted}
use Rattle.proof_lines.specs.Cells.{AreDifferent, dense, IsProper, AreProper, Stands, combined_cells, is_zero, with_cells, small_cells, combination_cells, cut_cells, cannot_hold, last_cannot_hold, GivesRow, Gives}
use Rattle.proof_lines.proofs.Proper.{both, with_terms-placed, proper-at, proper-combination, proper-cut}
use Rattle.proof_lines.proofs.Quotients.{multiple-zero, cut-small, cells-cut, cells-combination}
use Rattle.proof_lines.proofs.CellTests.{columns-pass, cells-pass, dense-constant}

abbrev answers : Type 0
answers = Result Linear Why

abbrev cells_given : Type 0
cells_given = Result (List ℤ) Why

few_enough : (n : ℕ) → n ≤ 64 → nat_lt 64 n ≡ false
few_enough n h = grind (arith, nat_tests)

bounded-fits : (seen : List ℕ) (row : Linear) → are_within row.terms row.constant ≡ true → length (with_terms seen row.terms) ≤ 64 → bounded seen row ≡ Ok row
bounded-fits seen row e h =
    ap (λ b. cond b (cond (nat_lt 64 (length (with_terms seen row.terms))) (let r : answers = Err why.Variables in r) (Ok row)) (Err why.TooLarge)) e
    ∙ ap (λ b. cond b (let r : answers = Err why.Variables in r) (Ok row)) (few_enough (length (with_terms seen row.terms)) h)

-- a row of variables with columns, by its cells
gives_proper : (columns : List ℕ) (row : Linear) → IsProper columns row → length columns ≤ 64 → AreDifferent columns → are_within row.terms row.constant ≡ true
    → GivesRow columns columns (dense columns row) (bounded columns row)
gives_proper columns row p few different e =
    let same = with_terms-placed columns row.terms p.placed in
    record {
      row = row;
      is = bounded-fits columns row e (omega (arith, ap length same));
      cells_are = refl;
      columns_are = sym same;
      few = few;
      different = different;
      rising = p.rising;
      small = e;
    }

gives_small : (columns : List ℕ) (cells : List ℤ) (row : Linear) → cells ≡ dense columns row → IsProper columns row → length columns ≤ 64 → AreDifferent columns
    → Gives columns columns (small_cells cells) (bounded columns row)
gives_small columns cells row is p few different =
    subst (λ (xs : List ℤ). Gives columns columns (small_cells xs) (bounded columns row)) (sym is)
    (subst (λ (b : Bool). Gives columns columns (cond b (Ok (dense columns row)) (Err why.TooLarge)) (bounded columns row)) (sym (cells-pass is_within columns row refl few p))
    (go (are_within row.terms row.constant) refl))
  where
    go : (b : Bool) → are_within row.terms row.constant ≡ b → Gives columns columns (cond b (Ok (dense columns row)) (Err why.TooLarge)) (bounded columns row)
    go true e = gives_proper columns row p few different e
    go false e = ap (λ b. cond b (cond (nat_lt 64 (length (with_terms columns row.terms))) (let r : answers = Err why.Variables in r) (Ok row)) (Err why.TooLarge)) e

-- ---- combinations

gives_sum : (columns : List ℕ) (a b : ℤ) (x y : Linear) (positive : Bool) → IsProper columns x → IsProper columns y → length columns ≤ 64 → AreDifferent columns
    → Gives columns columns (cond positive (small_cells (combined_cells a (dense columns x) b (dense columns y))) (Err why.Multiplier))
    (cond positive (bounded columns (combination_of a x b y)) (Err why.Multiplier))
gives_sum columns a b x y true p q few different =
    gives_small columns (combined_cells a (dense columns x) b (dense columns y)) (combination_of a x b y) (cells-combination columns (64 - length columns) a b x y)
    (proper-combination columns a b x y p q) few different
gives_sum columns a b x y false p q few different = refl

combine : (columns : List ℕ) (rows : List Linear) (a b : ℤ) (i j : ℕ) (ox oy : Option Linear) → AreProper columns rows → length columns ≤ 64 → AreDifferent columns
    → slice_get rows i ≡ ox → slice_get rows j ≡ oy
    → Gives columns columns
    (with_cells (option_map (dense columns) ox) (λ x. with_cells (option_map (dense columns) oy) (λ y.
    cond (is_positive a && is_positive b) (small_cells (combined_cells a x b y)) (Err why.Multiplier))))
    (with_row ox (λ x. with_row oy (λ y. cond (is_positive a && is_positive b) (bounded columns (combination_of a x b y)) (Err why.Multiplier))))
combine columns rows a b i j None oy p few different e f = refl
combine columns rows a b i j (Some x) None p few different e f = refl
combine columns rows a b i j (Some x) (Some y) p few different e f =
    gives_sum columns a b x y (is_positive a && is_positive b) (proper-at columns rows i x p e) (proper-at columns rows j y p f) few different

at_place : (columns : List ℕ) (cells : List (List ℤ)) (rows : List Linear) (i : ℕ) → cells ≡ map (dense columns) rows
    → slice_get cells i ≡ option_map (dense columns) (slice_get rows i)
at_place columns cells rows i e = ap (λ all. slice_get all i) e ∙ slice_get-map (dense columns) rows i

pub gives_combination : (hyps : List Linear) (goal : Linear) (columns : List ℕ) (cells : List (List ℤ)) (rows : List Linear) (a b : ℤ) (i j : ℕ)
    → Stands columns cells rows → length columns ≤ 64 → AreDifferent columns
    → Gives columns columns (combination_cells cells a i b j) (row_given hyps goal rows columns (Comb a i b j))
unfolding row_given
gives_combination hyps goal columns cells rows a b i j s few different =
    let P : Option (List ℤ) → Option (List ℤ) → Type 0 = λ ox oy. Gives columns columns
    (with_cells ox (λ x. with_cells oy (λ y. cond (is_positive a && is_positive b) (small_cells (combined_cells a x b y)) (Err why.Multiplier))))
    (with_row (slice_get rows i) (λ x. with_row (slice_get rows j) (λ y. cond (is_positive a && is_positive b) (bounded columns (combination_of a x b y)) (Err why.Multiplier)))) in
    subst (λ (ox : Option (List ℤ)). P ox (slice_get cells j)) (sym (at_place columns cells rows i s.cells_are))
    (subst (λ (oy : Option (List ℤ)). P (option_map (dense columns) (slice_get rows i)) oy) (sym (at_place columns cells rows j s.cells_are))
    (combine columns rows a b i j (slice_get rows i) (slice_get rows j) s.proper few different refl refl))

-- ---- cuts

small_at : (rows : List Linear) (i : ℕ) (x : Linear) → list_all (λ row. are_within row.terms row.constant) rows ≡ true → slice_get rows i ≡ Some x
    → are_within x.terms x.constant ≡ true
small_at [] i x h e = cc
small_at (row ∷ rows) zero x h e =
    let same : row ≡ x = cc in
    ap (λ r. are_within r.terms r.constant) (sym same) ∙ (both (are_within row.terms row.constant) (list_all (λ r. are_within r.terms r.constant) rows) h).0
small_at (row ∷ rows) (suc i) x h e =
    small_at rows i x (both (are_within row.terms row.constant) (list_all (λ r. are_within r.terms r.constant) rows) h).1 e

gives_quotient : (columns : List ℕ) (x : Linear) (by : ℤ) (divided : Bool) → IsProper columns x → are_within x.terms x.constant ≡ true → is_positive by ≡ true
    → divides by x.terms ≡ divided → length columns ≤ 64 → AreDifferent columns
    → Gives columns columns (cond divided (Ok (map (λ cell. floor_over cell by) (dense columns x))) (Err why.NotDivisible))
    (cond divided (bounded columns (cut_of x by)) (Err why.NotDivisible))
gives_quotient columns x by true p w h d few different =
    subst (λ (xs : List ℤ). GivesRow columns columns xs (bounded columns (cut_of x by))) (sym (cells-cut columns (64 - length columns) x by h p.rising))
    (gives_proper columns (cut_of x by) (proper-cut columns x by h d p) few different (cut-small x by h w))
gives_quotient columns x by false p w h d few different = refl

gives_divided : (columns : List ℕ) (x : Linear) (by : ℤ) (positive : Bool) → is_positive by ≡ positive → IsProper columns x → are_within x.terms x.constant ≡ true
    → length columns ≤ 64 → AreDifferent columns
    → Gives columns columns
    (cond positive (cond (list_all (is_multiple by) (take 64 (dense columns x))) (Ok (map (λ cell. floor_over cell by) (dense columns x))) (Err why.NotDivisible)) (Err why.Multiplier))
    (cond positive (cond (divides by x.terms) (bounded columns (cut_of x by)) (Err why.NotDivisible)) (Err why.Multiplier))
gives_divided columns x by true h p w few different =
    subst (λ (b : Bool). Gives columns columns (cond b (Ok (map (λ cell. floor_over cell by) (dense columns x))) (Err why.NotDivisible))
    (cond (divides by x.terms) (bounded columns (cut_of x by)) (Err why.NotDivisible)))
    (sym (columns-pass (is_multiple by) columns x (multiple-zero by h) few p))
    (gives_quotient columns x by (divides by x.terms) p w h refl few different)
gives_divided columns x by false h p w few different = refl

divide : (columns : List ℕ) (rows : List Linear) (i : ℕ) (by : ℤ) (ox : Option Linear) → AreProper columns rows
    → list_all (λ row. are_within row.terms row.constant) rows ≡ true → length columns ≤ 64 → AreDifferent columns → slice_get rows i ≡ ox
    → Gives columns columns
    (with_cells (option_map (dense columns) ox) (λ x. cond (is_positive by)
    (cond (list_all (is_multiple by) (take 64 x)) (Ok (map (λ cell. floor_over cell by) x)) (Err why.NotDivisible)) (Err why.Multiplier)))
    (with_row ox (λ x. cond (is_positive by) (cond (divides by x.terms) (bounded columns (cut_of x by)) (Err why.NotDivisible)) (Err why.Multiplier)))
divide columns rows i by None p w few different e = refl
divide columns rows i by (Some x) p w few different e =
    gives_divided columns x by (is_positive by) refl (proper-at columns rows i x p e) (small_at rows i x w e) few different

pub gives_cut : (hyps : List Linear) (goal : Linear) (columns : List ℕ) (cells : List (List ℤ)) (rows : List Linear) (i : ℕ) (by : ℤ)
    → Stands columns cells rows → length columns ≤ 64 → AreDifferent columns
    → Gives columns columns (cut_cells cells i by) (row_given hyps goal rows columns (Cut i by))
unfolding row_given
gives_cut hyps goal columns cells rows i by s few different =
    subst (λ (ox : Option (List ℤ)). Gives columns columns
    (with_cells ox (λ x. cond (is_positive by)
    (cond (list_all (is_multiple by) (take 64 x)) (Ok (map (λ cell. floor_over cell by) x)) (Err why.NotDivisible)) (Err why.Multiplier)))
    (with_row (slice_get rows i) (λ x. cond (is_positive by) (cond (divides by x.terms) (bounded columns (cut_of x by)) (Err why.NotDivisible)) (Err why.Multiplier))))
    (sym (at_place columns cells rows i s.cells_are))
    (divide columns rows i by (slice_get rows i) s.proper s.small few different refl)

-- ---- the last row

zeros_only : (low : ℕ) (ts : List Term) → IsRising low ts → list_all (λ t. is_zero t.coef) ts ≡ no_terms ts
zeros_only low [] r = refl
zeros_only low (t ∷ ts) r = go (is_zero t.coef) refl
  where
    go : (b : Bool) → is_zero t.coef ≡ b → (b && list_all (λ u. is_zero u.coef) ts) ≡ false
    go true e = absurd (r.1 ((Decides-int_eq t.coef (pos 0)).0 e))
    go false e = refl

impossible_is : (columns : List ℕ) (row : Linear) → IsProper columns row → length columns ≤ 64 → cannot_hold (dense columns row) ≡ is_refutation row
impossible_is columns row p few =
    ap (λ b. b && int_lt (get_or (dense columns row) 64 (pos 0)) (pos 0)) (columns-pass is_zero columns row refl few p ∙ zeros_only 0 row.terms p.rising)
    ∙ ap (λ n. no_terms row.terms && int_lt n (pos 0)) (dense-constant columns row few)

last_of : (columns : List ℕ) (rows : List Linear) → AreProper columns rows → length columns ≤ 64 → last_cannot_hold (map (dense columns) rows) ≡ ends_refuted rows
last_of columns [] p few = refl
last_of columns (row ∷ []) p few = impossible_is columns row p.0 few
last_of columns (a ∷ b ∷ rows) p few = last_of columns (b ∷ rows) p.1 few

pub last_stands : (columns : List ℕ) (cells : List (List ℤ)) (rows : List Linear) → Stands columns cells rows → length columns ≤ 64 → last_cannot_hold cells ≡ ends_refuted rows
last_stands columns cells rows s few = ap last_cannot_hold s.cells_are ∙ last_of columns rows s.proper few

-- ---- any line

pub as_hypothesis : (hyps : List Linear) (goal : Linear) (before after : List ℕ) (cells : Result (List ℤ) Why) (rows : List Linear) (e : Linear) (line : Line) → line ≡ Hyp e
    → Gives before after cells (cond (is_listed e hyps) (bounded before e) (Err why.NotInContext)) → Gives before after cells (row_given hyps goal rows before line)
unfolding row_given
as_hypothesis hyps goal before after cells rows e line is g = subst (λ (l : Line). Gives before after cells (row_given hyps goal rows before l)) (sym is) g

pub as_goal : (hyps : List Linear) (goal : Linear) (before after : List ℕ) (cells : Result (List ℤ) Why) (rows : List Linear) (line : Line) → line ≡ Goal
    → Gives before after cells (bounded before (opposite_of goal)) → Gives before after cells (row_given hyps goal rows before line)
unfolding row_given
as_goal hyps goal before after cells rows line is g = subst (λ (l : Line). Gives before after cells (row_given hyps goal rows before l)) (sym is) g

pub as_combination : (hyps : List Linear) (goal : Linear) (columns : List ℕ) (dense_rows : List (List ℤ)) (cells : Result (List ℤ) Why) (rows : List Linear)
    (a b : ℤ) (i j : ℕ) (line : Line) → line ≡ Comb a i b j → cells ≡ combination_cells dense_rows a i b j → Stands columns dense_rows rows
    → length columns ≤ 64 → AreDifferent columns → Gives columns columns cells (row_given hyps goal rows columns line)
as_combination hyps goal columns dense_rows cells rows a b i j line is e s few different =
    subst (λ (l : Line). Gives columns columns cells (row_given hyps goal rows columns l)) (sym is)
    (subst (λ (r : Result (List ℤ) Why). Gives columns columns r (row_given hyps goal rows columns (Comb a i b j))) (sym e)
    (gives_combination hyps goal columns dense_rows rows a b i j s few different))

pub as_cut : (hyps : List Linear) (goal : Linear) (columns : List ℕ) (dense_rows : List (List ℤ)) (cells : Result (List ℤ) Why) (rows : List Linear)
    (i : ℕ) (by : ℤ) (line : Line) → line ≡ Cut i by → cells ≡ cut_cells dense_rows i by → Stands columns dense_rows rows
    → length columns ≤ 64 → AreDifferent columns → Gives columns columns cells (row_given hyps goal rows columns line)
as_cut hyps goal columns dense_rows cells rows i by line is e s few different =
    subst (λ (l : Line). Gives columns columns cells (row_given hyps goal rows columns l)) (sym is)
    (subst (λ (r : Result (List ℤ) Why). Gives columns columns r (row_given hyps goal rows columns (Cut i by))) (sym e)
    (gives_cut hyps goal columns dense_rows rows i by s few different))
