-- The row of a form in cells.
use Rattle.std.proofs.Common.{◌≡◌, ℕ, ◌+◌, ℤ, true, List, ◌∷◌, length, ◌∙◌, ap, arith}
use Rattle.xan_lin.specs.Linear.{Linear}
use Rattle.xan_lin.specs.Terms.{IsRising}
use Rattle.xan_lin.specs.declared.term.Term.{Term}
use Rattle.proof_lines.specs.Cells.{are_among}
use Rattle.solver_rows.specs.RowsInCells.{AreRising, linear_in, spread_cells}
use Rattle.solver_rows.proofs.Sparse.{linear-spread, length-spread}

pub record Spread (vars : List ℕ) (cells : List ℤ) (x : Linear) : Type 0 where
  pub is : linear_in vars cells ≡ x
  pub wide : length cells ≡ length vars + 1

pub spreads : (vars : List ℕ) (cells : List ℤ) (x : Linear) (ts : List Term) (c : ℤ) → ts ≡ x.terms → c ≡ x.constant → AreRising 0 vars → IsRising 0 x.terms → are_among vars x.terms ≡ true
    → cells ≡ c ∷ spread_cells vars ts → Spread vars cells x
spreads vars cells x ts c t k rising rises among e =
    let all : cells ≡ x.constant ∷ spread_cells vars x.terms = e ∙ ap (λ n. n ∷ spread_cells vars ts) k ∙ ap (λ us. x.constant ∷ spread_cells vars us) t in
    record { is = linear-spread vars x cells rising rises among all; wide = omega (arith, ap length all, length-spread vars x.terms) }
