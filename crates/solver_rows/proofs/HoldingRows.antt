-- The constant of a row in cells, and a row that holds in any case.
use Rattle.std.proofs.Common.{◌≡◌, ℕ, ℤ, pos, Bool, true, false, ◌&&◌, int_le, List, ◌∷◌, drop, sym, ◌∙◌, ap}
use Rattle.solver_rows.specs.declared.side.Side.{Side}
use Rattle.solver_rows.specs.SystemRows.{holds}
use Rattle.index_sorts.specs.Known.{no_terms}
use Rattle.solver_rows.specs.RowsInCells.{linear_in, row_in}

-- ---- constants

pub constant_in : (vars : List ℕ) (cells : List ℤ) (c : ℤ) → cells ≡ c ∷ drop 1 cells → c ≡ (linear_in vars cells).constant
constant_in vars cells c e = sym (ap (λ xs. (linear_in vars xs).constant) e)

-- ---- a row that holds in any case

pub holds_is : (vars : List ℕ) (cells : List ℤ) (s : Side) (c : ℤ) → no_terms (linear_in vars cells).terms ≡ true → cells ≡ c ∷ drop 1 cells
    → int_le (pos 0) c ≡ holds (row_in vars cells s)
holds_is vars cells s c none front =
    ap (int_le (pos 0)) (constant_in vars cells c front) ∙ ap (λ b. b && int_le (pos 0) (linear_in vars cells).constant) (sym none)

pub holds_not : (vars : List ℕ) (cells : List ℤ) (s : Side) (b : Bool) → b ≡ no_terms (linear_in vars cells).terms → b ≡ false → b ≡ holds (row_in vars cells s)
holds_not vars cells s b is e = e ∙ ap (λ t. t && int_le (pos 0) (linear_in vars cells).constant) (sym e ∙ is)
