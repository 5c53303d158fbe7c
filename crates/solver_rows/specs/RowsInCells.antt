-- Rows in cells: the constant, and then a coefficient for each variable, by rising variable: no part of the promise.
use Rattle.std.specs.Prelude.{◌≡◌, ℕ, suc, ◌<◌, ◌≤◌, ℤ, pos, List, [], ◌∷◌, length, unsigned_abs}
use Rattle.std.specs.List.{slice_index_or}
use Rattle.index_sorts.specs.Known.{no_terms}
use Rattle.xan_lin.specs.Terms.{with_multiple}
use Rattle.xan_lin.specs.Linear.{Linear}
use Rattle.xan_lin.specs.declared.term.Term.{Term}
use Rattle.solver_rows.specs.declared.side.Side.{Side}
use Rattle.solver_rows.specs.declared.signs.Signs.{Signs}
use Rattle.solver_rows.specs.declared.source.Sign.{Sign}
use Rattle.solver_rows.specs.SystemRows.{Row, row_of, has_sign}
use Rattle.solver_rows.specs.Signing.{AreSigns, sign_at, no_signs}
use Rattle.solver_rows.specs.Merging.{front_coefficient, behind}
use Rattle.solver_rows.specs.Divisors.{gcd}

-- they rise from `low` on
abbrev pub AreRising : ℕ → List ℕ → Type 0
AreRising low [] = Unit {0}
AreRising low (v ∷ vs) = (low ≤ v) × AreRising (suc v) vs

-- the terms of coefficients of these variables: those that are not 0
unfoldable pub sparse : List ℕ → List ℤ → List Term
sparse [] cells = []
sparse (v ∷ vars) [] = []
sparse (v ∷ vars) (c ∷ cells) = with_multiple v c (sparse vars cells)

abbrev pub linear_in : List ℕ → List ℤ → Linear
linear_in vars [] = record { terms = []; constant = pos 0 }
linear_in vars (c ∷ cells) = record { terms = sparse vars cells; constant = c }

abbrev pub row_in : List ℕ → List ℤ → Side → Row
row_in vars cells side = row_of side.source side.by (linear_in vars cells)

-- the coefficients of these variables in rising terms
unfoldable pub spread_cells : List ℕ → List Term → List ℤ
spread_cells [] ts = []
spread_cells (v ∷ vars) ts = front_coefficient v ts ∷ spread_cells vars (behind v ts)

-- beside the cells stand their signs
abbrev pub IsSigned : List ℕ → List ℤ → Side → Type 0
IsSigned vars cells side = AreSigns side.signs (spread_cells vars (linear_in vars cells).terms)

-- these are the signs of the coefficients of a row
pub record AreSignsIn (vars : List ℕ) (s : Signs) (r : Row) : Type 0 where
  pub sign : (sign : Sign) (column : ℕ) → column < length vars → sign_at sign s column ≡ has_sign sign (slice_index_or vars column 0) r
  pub none : no_signs s ≡ no_terms r.terms

-- the greatest common divisor of the coefficients, and 0 where there are none
unfoldable pub numbers_divisor : ℕ → List ℤ → ℕ
numbers_divisor g [] = g
numbers_divisor g (c ∷ cells) = numbers_divisor (gcd g (unsigned_abs c)) cells

abbrev pub cells_divisor : List ℤ → ℕ
cells_divisor [] = 0
cells_divisor (c ∷ cells) = numbers_divisor 0 cells
