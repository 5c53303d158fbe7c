-- Rows that steps give: with more rows behind them, and with one more step.
use Rattle.std.proofs.Common.{◌≡◌, ℕ, zero, suc, List, [], ◌∷◌, ◌++◌, length, Some, slice_get, refl, sym, ◌∙◌, ap, subst}
use Rattle.std.proofs.lemmas.List.{append_assoc, append-nil, map-append}
use Rattle.xan_lin.specs.Linear.{Linear}
use Rattle.proof_lines.specs.declared.line.Line.{Line}
use Rattle.proof_lines.specs.declared.line.Line.TheVariants as line
use Rattle.proof_lines.specs.Lines.{LineGives, LinesGive, IsSmall}
use Rattle.proof_lines.specs.Cells.{IsProper, AreProper}
use Rattle.proof_lines.proofs.Proper.{proper-push}
use Rattle.solver_rows.specs.declared.step.Step.{Step}
use Rattle.linear_solver.specs.Meaning.{line_meant, lines_meant}

pub get-more : (xs ys : List Linear) (k : ℕ) (x : Linear) → slice_get xs k ≡ Some x → slice_get (xs ++ ys) k ≡ Some x
get-more [] ys k x e = cc
get-more (z ∷ xs) ys zero x e = e
get-more (z ∷ xs) ys (suc k) x e = get-more xs ys k x e

pub get-last : (xs : List Linear) (x : Linear) → slice_get (xs ++ x ∷ []) (length xs) ≡ Some x
get-last [] x = refl
get-last (z ∷ xs) x = get-last xs x

pub gives-more : (hyps : List Linear) (goal : Linear) (rows more : List Linear) (l : Line) (row : Linear)
    → LineGives hyps goal rows l row → LineGives hyps goal (rows ++ more) l row
gives-more hyps goal rows more (line.Hyp e) row g = g
gives-more hyps goal rows more line.Goal row g = g
gives-more hyps goal rows more (line.Comb left_by left right_by right) row g = record {
  left_row = g.left_row;
  right_row = g.right_row;
  left_is = get-more rows more left g.left_row g.left_is;
  right_is = get-more rows more right g.right_row g.right_is;
  left_positive = g.left_positive;
  right_positive = g.right_positive;
  row_is = g.row_is;
}
gives-more hyps goal rows more (line.Cut from by) row g = record {
  from_row = g.from_row;
  from_is = get-more rows more from g.from_row g.from_is;
  positive = g.positive;
  divided = g.divided;
  row_is = g.row_is;
}

pub give-push : (hyps : List Linear) (goal : Linear) (before : List Linear) (lines : List Line) (rows : List Linear) (l : Line) (row : Linear)
    → LinesGive hyps goal before lines rows → LineGives hyps goal (before ++ rows) l row → IsSmall row
    → LinesGive hyps goal before (lines ++ l ∷ []) (rows ++ row ∷ [])
give-push hyps goal before [] [] l row g h s = (subst (λ (xs : List Linear). LineGives hyps goal xs l row) (append-nil before) h, s, refl)
give-push hyps goal before [] (x ∷ rows) l row g h s = cc
give-push hyps goal before (k ∷ lines) [] l row g h s = absurd g
give-push hyps goal before (k ∷ lines) (x ∷ rows) l row g h s = (
  g.0,
  g.1,
  give-push hyps goal (before ++ x ∷ []) lines rows l row g.2
      (subst (λ (xs : List Linear). LineGives hyps goal xs l row) (sym (append_assoc before (x ∷ []) rows)) h) s,
)

pub lines-length : (hyps : List Linear) (goal : Linear) (before : List Linear) (lines : List Line) (rows : List Linear)
    → LinesGive hyps goal before lines rows → length lines ≡ length rows
lines-length hyps goal before [] [] g = refl
lines-length hyps goal before [] (x ∷ rows) g = cc
lines-length hyps goal before (k ∷ lines) [] g = absurd g
lines-length hyps goal before (k ∷ lines) (x ∷ rows) g = ap suc (lines-length hyps goal (before ++ x ∷ []) lines rows g.2)

pub small-at : (hyps : List Linear) (goal : Linear) (before : List Linear) (lines : List Line) (rows : List Linear) (k : ℕ) (x : Linear)
    → LinesGive hyps goal before lines rows → slice_get rows k ≡ Some x → IsSmall x
small-at hyps goal before lines [] k x g e = cc
small-at hyps goal before [] (y ∷ rows) k x g e = cc
small-at hyps goal before (l ∷ lines) (y ∷ rows) zero x g e = let same : y ≡ x = cc in subst IsSmall same g.1
small-at hyps goal before (l ∷ lines) (y ∷ rows) (suc k) x g e = small-at hyps goal (before ++ y ∷ []) lines rows k x g.2 e

length-meant : (hyps : List Linear) (steps : List Step) → length (lines_meant hyps steps) ≡ length steps
length-meant hyps [] = refl
length-meant hyps (s ∷ steps) = ap suc (length-meant hyps steps)

-- these steps give these rows, whose variables are among these
pub record Stand (hyps : List Linear) (goal : Linear) (vars : List ℕ) (steps : List Step) (rows : List Linear) : Type 0 where
  pub given : LinesGive hyps goal [] (lines_meant hyps steps) rows
  pub proper : AreProper vars rows

pub stands-length : (hyps : List Linear) (goal : Linear) (vars : List ℕ) (steps : List Step) (rows : List Linear) → Stand hyps goal vars steps rows
    → length steps ≡ length rows
stands-length hyps goal vars steps rows s = sym (length-meant hyps steps) ∙ lines-length hyps goal [] (lines_meant hyps steps) rows s.given

pub stands-more : (hyps : List Linear) (goal : Linear) (vars : List ℕ) (steps : List Step) (rows : List Linear) (step : Step) (row : Linear)
    → Stand hyps goal vars steps rows → LineGives hyps goal rows (line_meant hyps step) row → IsSmall row → IsProper vars row
    → Stand hyps goal vars (steps ++ step ∷ []) (rows ++ row ∷ [])
stands-more hyps goal vars steps rows step row s g small proper = record {
  given = subst (λ (ls : List Line). LinesGive hyps goal [] ls (rows ++ row ∷ [])) (sym (map-append (line_meant hyps) steps (step ∷ [])))
      (give-push hyps goal [] (lines_meant hyps steps) rows (line_meant hyps step) row s.given g small);
  proper = proper-push vars rows row s.proper proper;
}

pub stands-last : (hyps : List Linear) (goal : Linear) (vars : List ℕ) (steps : List Step) (rows : List Linear) (row : Linear)
    → Stand hyps goal vars steps rows → slice_get (rows ++ row ∷ []) (length steps) ≡ Some row
stands-last hyps goal vars steps rows row s =
    ap (λ n. slice_get (rows ++ row ∷ []) n) (stands-length hyps goal vars steps rows s) ∙ get-last rows row
