-- How the rows of systems lie in a pool, and what an elimination works on: no part of the promise.
use Rattle.std.specs.Prelude.{◌≡◌, ℕ, suc, ◌+◌, ◌<◌, ◌≤◌, ℤ, pos, Bool, true, false, ◌&&◌, int_le, Option, Some, None, List, [], ◌∷◌, ◌++◌, length, take, drop, slice_set, vec_capacity, nat_lt, if◌then◌else◌}
use Rattle.std.specs.List.{slice_index_or}
use Rattle.index_sorts.specs.Known.{no_terms}
use Rattle.xan_lin.specs.Linear.{Linear, all_within, are_within}
use Rattle.xan_pool.specs.Pool.{Pool}
use Rattle.proof_lines.specs.Cells.{are_among}
use Rattle.linear_solver.specs.declared.places.Stored.{Stored}
use Rattle.solver_rows.specs.declared.source.Source.TheVariants.{Line}
use Rattle.solver_rows.specs.declared.source.Sign.TheVariants.{Zero}
use Rattle.linear_solver.specs.declared.workspace.Workspace.TheInside.{Inside}
use Rattle.solver_rows.specs.declared.tight.NewRow.{NewRow}
use Rattle.solver_rows.specs.SystemRows.{Row, linear_of, tight, sum_of_two, sum_source}
use Rattle.solver_rows.specs.Signing.{AreSigns, sign_at}
use Rattle.linear_solver.specs.Elimination.{bears}
use Rattle.solver_rows.specs.declared.step.Step.{Step}
use Rattle.solver_rows.specs.Divisors.{divisor}
use Rattle.linear_solver.specs.Numbering.{steps_with, line_with}
use Rattle.linear_solver.specs.Reducing.{AreDistinct}
use Rattle.solver_rows.specs.RowsInCells.{AreRising, linear_in, row_in, spread_cells, IsSigned}

-- ---- variables by rising number

-- a variable put to its place among rising ones
unfoldable pub with_risen : ℕ → List ℕ → List ℕ
with_risen v [] = v ∷ []
with_risen v (w ∷ ws) = if nat_lt v w then v ∷ w ∷ ws else w ∷ with_risen v ws

unfoldable pub risen : List ℕ → List ℕ
risen [] = []
risen (v ∷ vs) = with_risen v (risen vs)

-- a row with one of the variables, or with none at all, has no others
abbrev pub AreClosed : List ℕ → List Linear → Type 0
AreClosed vs [] = Unit {0}
AreClosed vs (row ∷ rows) = (bears vs row ≡ true → are_among vs row.terms ≡ true) × AreClosed vs rows

-- ---- rows in the cells of a pool

-- what stands in the cells of a row of a system: the cells from 1 on of its row of the pool, behind its constant
abbrev pub cells_of : List (List ℤ) → Stored → List ℤ
cells_of rows s = s.constant ∷ drop 1 (slice_index_or rows s.place [])

abbrev pub stored_row : List ℕ → List (List ℤ) → Stored → Row
stored_row vars rows s = row_in vars (cells_of rows s) s.side

unfoldable pub rows_of : List ℕ → List (List ℤ) → List Stored → List Row
rows_of vars rows [] = []
rows_of vars rows (s ∷ sides) = stored_row vars rows s ∷ rows_of vars rows sides

-- beside each row stand its signs
abbrev pub AreSigned : List ℕ → List Stored → List Row → Type 0
AreSigned vars [] rows = Unit {0}
AreSigned vars (s ∷ sides) [] = Unit {0}
AreSigned vars (s ∷ sides) (r ∷ rows) = AreSigns s.side.signs (spread_cells vars r.terms) × AreSigned vars sides rows

-- where there is none
abbrev pub no_row : Row
no_row = record { terms = []; constant = pos 0; source = Line 0; by = pos 1 }

-- ---- numbering

-- the row of a system that this step gives
abbrev pub stored_at : ℕ → Stored → Stored
stored_at line s = record { side = record { source = Line line; by = pos 1; signs = s.side.signs }; constant = s.constant; place = s.place }

-- the rows of a system, and all steps so far
pub record NumberedSides : Type 0 where
  pub steps : List Step
  pub sides : List Stored

-- each row in order gets its steps, behind rows that have theirs
unfoldable pub numbered_sides : List Step → List Stored → List Stored → NumberedSides
numbered_sides steps done [] = record { steps = steps; sides = done }
numbered_sides steps done (s ∷ sides) =
    numbered_sides (steps_with steps s.side.source s.side.by) (done ++ stored_at (line_with steps s.side.source s.side.by) s ∷ []) sides

-- ---- the rows without a variable

-- the coefficient in this column is 0
abbrev pub has_none : ℕ → Stored → Bool
has_none column s = sign_at Zero s.side.signs column

unfoldable pub without : ℕ → List Stored → List Stored
without column [] = []
without column (s ∷ sides) = if has_none column s then s ∷ without column sides else without column sides

-- ---- rows that move together

-- the rows at this place and those behind it
unfoldable pub placed_from : ℕ → List Stored → List Stored
placed_from next [] = []
placed_from next (s ∷ sides) = record { side = s.side; constant = s.constant; place = next } ∷ placed_from (suc next) sides

-- the pool, where each is written to its new place in order
unfoldable pub moved : ℕ → List (List ℤ) → List Stored → List (List ℤ)
moved next rows [] = rows
moved next rows (s ∷ sides) = moved (suc next) (slice_set rows next (slice_index_or rows s.place [])) sides

-- ---- what an elimination works on

-- the pool with the rows of others, the variables by rising number, the system, and the next one in the making
pub record Work : Type 0 where
  pub pool : Pool
  pub vars : List ℕ
  pub rows : List Row
  pub made : List Row

abbrev pub empty_pool : Pool
empty_pool = record { rows = []; width = 65; capacity = 0 }

-- it works on nothing
abbrev pub idle : Work
idle = record { pool = empty_pool; vars = []; rows = []; made = [] }

-- the rows lie behind those of others
abbrev pub work_at : Pool → ℕ → List ℕ → List Stored → List Stored → Work
work_at pool base vars rows made = record {
  pool = record pool { rows = take base pool.rows };
  vars = vars;
  rows = rows_of vars pool.rows rows;
  made = rows_of vars pool.rows made;
}

abbrev pub work_of : Inside → Work
work_of w = work_at w.pool w.base w.vars.items w.rows.items w.made.items

-- its numbers are small, it is tight, and it does not hold in any case
pub record IsSettled (x : Linear) : Type 0 where
  pub small : all_within x.terms ≡ true
  pub tight : nat_lt 1 (divisor x.terms) ≡ false
  pub told : (no_terms x.terms && int_le (pos 0) x.constant) ≡ false

abbrev pub AreSettled : List Row → Type 0
AreSettled [] = Unit {0}
AreSettled (r ∷ rows) = IsSettled (linear_of r) × AreSettled rows

-- they lie in this part of the pool, one behind another
abbrev pub AreIn : ℕ → ℕ → List Stored → Type 0
AreIn low high [] = low ≤ high
AreIn low high (s ∷ sides) = (low ≤ s.place) × AreIn (suc s.place) high sides

-- steps give them as they are
abbrev pub AreLines : List Row → Type 0
AreLines [] = Unit {0}
AreLines (r ∷ rows) = (r.by ≡ pos 1) × AreLines rows

-- so they lie in the pool
pub record Lies (pool : Pool) (base : ℕ) (vars : List ℕ) (rows made : List Stored) : Type 0 where
  pub width : pool.width ≡ 65
  pub within : length pool.rows ≤ pool.capacity
  pub count : length pool.rows ≤ base + 2000 + length made
  pub rising : AreRising 0 vars
  pub few : length vars ≤ 64
  pub in_rows : AreIn base (length pool.rows) rows
  pub in_made : AreIn base (length pool.rows) made
  pub settled_rows : AreSettled (rows_of vars pool.rows rows)
  pub settled_made : AreSettled (rows_of vars pool.rows made)
  pub distinct_rows : AreDistinct (rows_of vars pool.rows rows)
  pub distinct_made : AreDistinct (rows_of vars pool.rows made)
  pub lines : AreLines (rows_of vars pool.rows rows)
  pub signed_rows : AreSigned vars rows (rows_of vars pool.rows rows)
  pub signed_made : AreSigned vars made (rows_of vars pool.rows made)

pub record IsWork (w : Inside) : Type 0 where
  pub lies : Lies w.pool w.base w.vars.items w.rows.items w.made.items
  pub room_rows : 2001 ≤ vec_capacity w.rows
  pub room_made : 2001 ≤ vec_capacity w.made

-- there is room for all rows of two systems
abbrev pub HasRoom : Work → Type 0
HasRoom w = length w.pool.rows + 4001 ≤ w.pool.capacity

-- it may make the next system without the variable of this column
pub record IsOpen (column : ℕ) (w : Work) : Type 0 where
  pub within : column < length w.vars
  pub few : length w.rows ≤ 2000
  pub room : HasRoom w

-- the tightened sum of two rows, where its numbers are within the bound before
abbrev pub IsSummed : List ℕ → Option (Unit {0}) → NewRow → ℕ → ℕ → Row → Row → Type 0
IsSummed vars None r a b p n = are_within (sum_of_two a b p n).terms (sum_of_two a b p n).constant ≡ false
IsSummed vars (Some _) r a b p n = (are_within (sum_of_two a b p n).terms (sum_of_two a b p n).constant ≡ true)
    × (row_in vars r.cells.items r.side ≡ tight (sum_source a b p n) (sum_of_two a b p n))
    × (length r.cells.items ≡ length vars + 1)
    × (all_within (linear_in vars r.cells.items).terms ≡ true)
    × IsSigned vars r.cells.items r.side
    × (nat_lt 1 (divisor (linear_in vars r.cells.items).terms) ≡ false)
