-- Closed types, and tables of them.
use Rattle.std.specs.Prelude.{ℕ, ◌≤◌, false, List, [], ◌∷◌, length}
use Rattle.std.specs.List.{All, slice_index_or}
use Rattle.xan_lin.specs.Linear.{NamesBelow, variable_form}
use Rattle.state_types.specs.Types.{TypeBelow}
use Rattle.state_types.specs.declared.closed.Packed.{Packed}
use Rattle.state_types.specs.declared.types.Ty.{Ty}
use Rattle.state_types.specs.declared.types.Ty.TheVariants.{Int, Bool}

-- its rows and its parts name only its own variables
pub record IsClosed (packed : Packed) : Type 0 where
  pub rows : All (NamesBelow packed.vars) packed.rows
  pub parts : All (TypeBelow packed.vars) packed.parts

-- what holds of every table
pub record IsTable (types : List Packed) : Type 0 where
  pub few : length types ≤ 65536
  pub closed : All IsClosed types

-- the type of cells that have this type for some values of so many variables
abbrev pub cell_of : ℕ → Ty → Packed
cell_of vars part = record { vars = vars; rows = []; parts = part ∷ []; tuple = false }

-- type 0, any number
abbrev pub int_cell : Packed
int_cell = cell_of 1 (Int (variable_form 0))

-- type 1
abbrev pub bool_cell : Packed
bool_cell = cell_of 0 Bool

-- the closed type of a number that is there
abbrev pub closed_at : List Packed → ℕ → Packed
closed_at types id = slice_index_or types id int_cell
