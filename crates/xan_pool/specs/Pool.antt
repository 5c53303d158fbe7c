-- What is seen of a pool, and the rows that cells in a row make.
use Rattle.std.specs.Prelude.{ℕ, zero, suc, ℤ, List, [], ◌∷◌, take, drop}

pub record Pool : Type 0 where
  -- the live rows, the oldest first
  pub rows : List (List ℤ)
  -- how many cells a row has
  pub width : ℕ
  -- how many rows may be live at once
  pub capacity : ℕ

-- so many rows of so many cells each, cut from the front of a list of cells
unfoldable pub rows_of : ℕ → ℕ → List ℤ → List (List ℤ)
rows_of zero width cells = []
rows_of (suc count) width cells = take width cells ∷ rows_of count width (drop width cells)
