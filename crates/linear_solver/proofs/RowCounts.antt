-- Numbers of rows against bounds.
use Rattle.std.proofs.Common.{ℕ, ◌≤◌, Bool, true, false, cond, List, [], ◌∷◌, length, filter, arith}
use Rattle.solver_rows.specs.SystemRows.{Row, has_sign}
use Rattle.linear_solver.specs.Systems.{with_sign}
use Rattle.solver_rows.specs.declared.source.Sign.{Sign}

length-filter : (p : Row → Bool) (rows : List Row) → length (filter p rows) ≤ length rows
length-filter p [] = omega arith
length-filter p (r ∷ rows) = go (p r) (length-filter p rows)
  where
    go : (b : Bool) → length (filter p rows) ≤ length rows → length (cond b (r ∷ filter p rows) (filter p rows)) ≤ length (r ∷ rows)
    go true h = omega arith
    go false h = omega arith

pub with_sign-few : (sign : Sign) (var : ℕ) (rows : List Row) → length (with_sign sign var rows) ≤ length rows
unfolding with_sign
with_sign-few sign var rows = length-filter (has_sign sign var) rows
