-- The signs beside the rows of a system, where rows come, go, get their steps and move.
use Rattle.std.proofs.Common.{◌≡◌, ℕ, zero, suc, ◌+◌, ◌<◌, ℤ, Bool, true, false, cond, List, [], ◌∷◌, ◌++◌, length, set, get_or, subst, arith}
use Rattle.std.proofs.lemmas.List.{append-nil}
use Rattle.linear_solver.specs.declared.places.Stored.{Stored}
use Rattle.solver_rows.specs.declared.step.Step.{Step}
use Rattle.linear_solver.specs.Numbering.{steps_with, line_with}
use Rattle.solver_rows.specs.SystemRows.{Row}
use Rattle.solver_rows.specs.Signing.{AreSigns}
use Rattle.solver_rows.specs.RowsInCells.{spread_cells}
use Rattle.linear_solver.specs.Region.{no_row, rows_of, stored_at, numbered_sides, has_none, without, placed_from, AreSigned}

pub signed-at : (vars : List ℕ) (sides : List Stored) (rows : List Row) (k : ℕ) (d : Stored) → k < length sides → length rows ≡ length sides → AreSigned vars sides rows
    → AreSigns (get_or sides k d).side.signs (spread_cells vars (get_or rows k no_row).terms)
signed-at vars [] rows k d h e a = absurd (omega arith)
signed-at vars (s ∷ sides) [] k d h e a = absurd (omega arith)
signed-at vars (s ∷ sides) (r ∷ rows) zero d h e a = a.0
signed-at vars (s ∷ sides) (r ∷ rows) (suc k) d h e a = signed-at vars sides rows k d (omega arith) (omega arith) a.1

pub signed-push : (vars : List ℕ) (sides : List Stored) (rows : List Row) (s : Stored) (r : Row) → AreSigned vars sides rows → length rows ≡ length sides → AreSigns s.side.signs (spread_cells vars r.terms)
    → AreSigned vars (sides ++ s ∷ []) (rows ++ r ∷ [])
signed-push vars [] [] s r a e b = (b, tt)
signed-push vars [] (q ∷ rows) s r a e b = absurd (omega arith)
signed-push vars (t ∷ sides) [] s r a e b = absurd (omega arith)
signed-push vars (t ∷ sides) (q ∷ rows) s r a e b = (a.0, signed-push vars sides rows s r a.1 (omega arith) b)

pub signed-set : (vars : List ℕ) (sides : List Stored) (rows : List Row) (k : ℕ) (s : Stored) (r : Row) → AreSigned vars sides rows → AreSigns s.side.signs (spread_cells vars r.terms)
    → AreSigned vars (set sides k s) (set rows k r)
signed-set vars [] rows k s r a b = tt
signed-set vars (t ∷ sides) [] zero s r a b = tt
signed-set vars (t ∷ sides) [] (suc k) s r a b = tt
signed-set vars (t ∷ sides) (q ∷ rows) zero s r a b = (b, a.1)
signed-set vars (t ∷ sides) (q ∷ rows) (suc k) s r a b = (a.0, signed-set vars sides rows k s r a.1 b)

pub signed-without : (vars : List ℕ) (rows : List (List ℤ)) (column : ℕ) (sides : List Stored) → AreSigned vars sides (rows_of vars rows sides)
    → AreSigned vars (without column sides) (rows_of vars rows (without column sides))
unfolding rows_of without
signed-without vars rows column [] a = tt
signed-without vars rows column (s ∷ sides) a = go (has_none column s) (signed-without vars rows column sides a.1)
  where
    go : (b : Bool) → AreSigned vars (without column sides) (rows_of vars rows (without column sides))
        → AreSigned vars (cond b (s ∷ without column sides) (without column sides)) (rows_of vars rows (cond b (s ∷ without column sides) (without column sides)))
    go true rest = (a.0, rest)
    go false rest = rest

signed-swap : (vars : List ℕ) (rows : List (List ℤ)) (done rest : List Stored) (s : Stored) (line : ℕ) → AreSigned vars (done ++ s ∷ rest) (rows_of vars rows (done ++ s ∷ rest))
    → AreSigned vars ((done ++ stored_at line s ∷ []) ++ rest) (rows_of vars rows ((done ++ stored_at line s ∷ []) ++ rest))
unfolding rows_of
signed-swap vars rows [] rest s line a = a
signed-swap vars rows (x ∷ done) rest s line a = (a.0, signed-swap vars rows done rest s line a.1)

pub signed-numbered : (vars : List ℕ) (rows : List (List ℤ)) (steps : List Step) (done sides : List Stored) → AreSigned vars (done ++ sides) (rows_of vars rows (done ++ sides))
    → AreSigned vars (numbered_sides steps done sides).sides (rows_of vars rows (numbered_sides steps done sides).sides)
unfolding numbered_sides
signed-numbered vars rows steps done [] a = subst (λ (ss : List Stored). AreSigned vars ss (rows_of vars rows ss)) (append-nil done) a
signed-numbered vars rows steps done (s ∷ sides) a =
    let line = line_with steps s.side.source s.side.by in
    signed-numbered vars rows (steps_with steps s.side.source s.side.by) (done ++ stored_at line s ∷ []) sides (signed-swap vars rows done sides s line a)

pub signed-placed : (vars : List ℕ) (next : ℕ) (sides : List Stored) (rows : List Row) → AreSigned vars sides rows → AreSigned vars (placed_from next sides) rows
unfolding placed_from
signed-placed vars next [] rows a = tt
signed-placed vars next (s ∷ sides) [] a = tt
signed-placed vars next (s ∷ sides) (r ∷ rows) a = (a.0, signed-placed vars (suc next) sides rows a.1)
