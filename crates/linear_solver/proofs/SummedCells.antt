-- The sum of two rows in cells.
use Rattle.std.proofs.Common.{◌≡◌, ℕ, ◌+◌, ◌<◌, ◌^◌, unsigned_abs, nat_lt, ℤ, true, false, List, length, Some, sym, ◌∙◌, ap, subst}
use Rattle.std.specs.List.{list_all}
use Rattle.xan_lin.specs.Linear.{is_within, all_within, are_within}
use Rattle.proof_lines.specs.Rows.{combination_of}
use Rattle.proof_lines.specs.Cells.{combined_cells}
use Rattle.proof_lines.proofs.Proper.{both}
use Rattle.solver_rows.specs.declared.step.Step.TheVariants as step
use Rattle.solver_rows.specs.declared.source.Source.{Source}
use Rattle.solver_rows.specs.declared.source.Source.TheVariants.{New}
use Rattle.solver_rows.specs.declared.tight.NewRow.{NewRow}
use Rattle.solver_rows.specs.Divisors.{divisor}
use Rattle.solver_rows.specs.SystemRows.{Row, linear_of, line_of, first_by, second_by, sum_of_two, sum_source, tight, coefficient}
use Rattle.solver_rows.specs.RowsInCells.{AreRising, linear_in, row_in, IsSigned}
use Rattle.linear_solver.specs.Region.{IsSummed}
use Rattle.solver_rows.proofs.Sparse.{linear-combined, linear-within, length-combined}
use Rattle.solver_rows.proofs.SmallCoefficients.{coefficient-small}

-- two rows of a system in cells, and what they are multiplied by
pub record Pair (vars : List ℕ) (left right : List ℤ) (f s : ℤ) (a b : ℕ) (p n : Row) : Type 0 where
  pub rising : AreRising 0 vars
  pub left_is : linear_in vars left ≡ linear_of p
  pub right_is : linear_in vars right ≡ linear_of n
  pub left_wide : length left ≡ length vars + 1
  pub right_wide : length right ≡ length vars + 1
  pub first : f ≡ first_by a b
  pub second : s ≡ second_by a b

module _ (vars : List ℕ) (left right : List ℤ) (f s : ℤ) (a b : ℕ) (p n : Row) (m : Pair vars left right f s a b p n) where
  sum-is : linear_in vars (combined_cells f left s right) ≡ sum_of_two a b p n
  sum-is =
      linear-combined vars f s left right m.rising m.left_wide m.right_wide
      ∙ ap (λ k. combination_of k (linear_in vars left) s (linear_in vars right)) m.first
      ∙ ap (λ k. combination_of (first_by a b) (linear_in vars left) k (linear_in vars right)) m.second
      ∙ ap (λ x. combination_of (first_by a b) x (second_by a b) (linear_in vars right)) m.left_is
      ∙ ap (λ x. combination_of (first_by a b) (linear_of p) (second_by a b) x) m.right_is

  pub sum-wide : length (combined_cells f left s right) ≡ length vars + 1
  sum-wide = length-combined f s left right (length vars + 1) m.left_wide m.right_wide

  sum-within : list_all is_within (combined_cells f left s right) ≡ are_within (sum_of_two a b p n).terms (sum_of_two a b p n).constant
  sum-within = linear-within vars (combined_cells f left s right) sum-wide ∙ ap (λ x. are_within x.terms x.constant) sum-is

  pub past : list_all is_within (combined_cells f left s right) ≡ false → are_within (sum_of_two a b p n).terms (sum_of_two a b p n).constant ≡ false
  past e = sym sum-within ∙ e

  -- the sum may be tightened
  pub small : (cells : List ℤ) → cells ≡ combined_cells f left s right → list_all is_within cells ≡ true → all_within (linear_in vars cells).terms ≡ true
  small cells is e =
      (both (all_within (linear_in vars cells).terms) _ (sym (linear-within vars cells (ap length is ∙ sum-wide)) ∙ e)).0

  pub sums : (cells : List ℤ) (row : NewRow) (source : Source) → cells ≡ combined_cells f left s right → list_all is_within cells ≡ true → source ≡ sum_source a b p n
      → row_in vars row.cells.items row.side ≡ tight source (linear_in vars cells) → length row.cells.items ≡ length vars + 1 → all_within (linear_in vars row.cells.items).terms ≡ true
      → IsSigned vars row.cells.items row.side → nat_lt 1 (divisor (linear_in vars row.cells.items).terms) ≡ false → IsSummed vars (Some tt) row a b p n
  sums cells row source is e from row_is wide row_small row_signed row_tight = (
    sym sum-within ∙ sym (ap (list_all is_within) is) ∙ e,
    row_is ∙ ap (λ t. tight t (linear_in vars cells)) from ∙ ap (tight (sum_source a b p n)) (ap (linear_in vars) is ∙ sum-is),
    wide,
    row_small,
    row_signed,
    row_tight,
  )

pub size_small : (row : Row) (v : ℕ) → all_within row.terms ≡ true
    → unsigned_abs (coefficient v row.terms) < 2 ^ 62
size_small row v small = coefficient-small v row.terms small

-- ---- as the code has them

pub pair_of : (vars read : List ℕ) (left right : List ℤ) (f s : ℤ) (a b c d : ℕ) (p n : Row) → read ≡ vars → AreRising 0 read → linear_in vars left ≡ linear_of p → linear_in vars right ≡ linear_of n
    → length left ≡ length vars + 1 → length right ≡ length vars + 1 → f ≡ first_by c d → s ≡ second_by c d → c ≡ a → d ≡ b → Pair vars left right f s a b p n
pair_of vars read left right f s a b c d p n same rising l r wide_l wide_r first second e g = record {
  rising = subst (λ (vs : List ℕ). AreRising 0 vs) same rising;
  left_is = l;
  right_is = r;
  left_wide = wide_l;
  right_wide = wide_r;
  first = first ∙ ap (λ m. first_by m d) e ∙ ap (first_by a) g;
  second = second ∙ ap (λ m. second_by m d) e ∙ ap (second_by a) g;
}

pub sums_as : (vars read : List ℕ) (left right : List ℤ) (f s f' s' : ℤ) (a b l r : ℕ) (p n : Row) (cells : List ℤ) (row : NewRow) → Pair vars left right f s a b p n → read ≡ vars
    → cells ≡ combined_cells f left s right → list_all is_within cells ≡ true → f' ≡ f → s' ≡ s → l ≡ line_of p.source → r ≡ line_of n.source
    → row_in read row.cells.items row.side ≡ tight (New (step.Comb f' l s' r)) (linear_in read cells) → length row.cells.items ≡ length read + 1
    → all_within (linear_in read row.cells.items).terms ≡ true → IsSigned read row.cells.items row.side → nat_lt 1 (divisor (linear_in read row.cells.items).terms) ≡ false → IsSummed vars (Some tt) row a b p n
sums_as vars read left right f s f' s' a b l r p n cells row m same is e first second left_line right_line row_is wide small_row signed_row tight_row =
    let from : (let t : Source = New (step.Comb f' l s' r) in t) ≡ sum_source a b p n =
    ap (λ k. let t : Source = New (step.Comb k l s' r) in t) (first ∙ m.first)
    ∙ ap (λ k. let t : Source = New (step.Comb (first_by a b) k s' r) in t) left_line
    ∙ ap (λ k. let t : Source = New (step.Comb (first_by a b) (line_of p.source) k r) in t) (second ∙ m.second)
    ∙ ap (λ k. let t : Source = New (step.Comb (first_by a b) (line_of p.source) (second_by a b) k) in t) right_line in
    sums vars left right f s a b p n m cells row (New (step.Comb f' l s' r)) is e from
    (subst (λ (vs : List ℕ). row_in vs row.cells.items row.side ≡ tight (New (step.Comb f' l s' r)) (linear_in vs cells)) same row_is)
    (wide ∙ ap (λ vs. length vs + 1) same)
    (subst (λ (vs : List ℕ). all_within (linear_in vs row.cells.items).terms ≡ true) same small_row)
    (subst (λ (vs : List ℕ). IsSigned vs row.cells.items row.side) same signed_row)
    (subst (λ (vs : List ℕ). nat_lt 1 (divisor (linear_in vs row.cells.items).terms) ≡ false) same tight_row)
