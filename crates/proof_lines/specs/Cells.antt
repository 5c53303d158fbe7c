-- How rows lie in cells: a column for each variable that has come, some columns of 0, and the constant.
use Rattle.std.specs.Prelude.{◌≡◌, ℕ, zero, suc, ◌-◌, ◌≤◌, ℤ, pos, ◌+ℤ◌, ◌*ℤ◌, Bool, false, true, ◌&&◌, List, [], ◌∷◌, ◌++◌, length, map, take, drop, replicate, int_lt, Option, Some, None, slice_get, Result, Ok, Err, if◌then◌else◌}
use Rattle.std.specs.List.{list_all, slice_index_or}
use Rattle.std.specs.Ordering.{int_eq}
use Rattle.xan_lin.specs.Terms.{IsRising, coefficient_of}
use Rattle.xan_lin.specs.Linear.{Linear, is_within, are_within}
use Rattle.xan_lin.specs.declared.term.Term.{Term}
use Rattle.proof_lines.specs.declared.bad_line.Why.{Why}
use Rattle.proof_lines.specs.declared.bad_line.Why.TheVariants as why
use Rattle.proof_lines.specs.Rows.{floor_over, is_multiple}
use Rattle.proof_lines.specs.Variables.{is_among, with_terms, variables}
use Rattle.proof_lines.specs.Check.{is_positive}

-- no variable comes twice
abbrev pub AreDifferent : List ℕ → Type 0
AreDifferent [] = Unit {0}
AreDifferent (v ∷ vs) = (is_among v vs ≡ false) × AreDifferent vs

-- the cells of a row, where these variables have a column and so many columns are free
unfoldable pub cells_of : List ℕ → ℕ → Linear → List ℤ
cells_of [] zero row = row.constant ∷ []
cells_of [] (suc free) row = pos 0 ∷ cells_of [] free row
cells_of (v ∷ columns) free row = coefficient_of v row.terms ∷ cells_of columns free row

-- the 65 cells of a row
abbrev pub dense : List ℕ → Linear → List ℤ
dense columns row = cells_of columns (64 - length columns) row

-- ---- rows that lie in cells

-- so many columns are in use, and behind them are 0 and the constant
pub record IsBlankBehind (used : ℕ) (cells : List ℤ) : Type 0 where
  pub width : length cells ≡ 65
  pub blank : drop used cells ≡ replicate (64 - used) (pos 0) ++ slice_index_or cells 64 (pos 0) ∷ []

abbrev pub AreBlankBehind : ℕ → List (List ℤ) → Type 0
AreBlankBehind used [] = Unit {0}
AreBlankBehind used (cells ∷ rows) = IsBlankBehind used cells × AreBlankBehind used rows

abbrev pub are_among : List ℕ → List Term → Bool
are_among columns ts = list_all (λ t. is_among t.var columns) ts

-- the terms rise, and each variable has a column
pub record IsProper (columns : List ℕ) (row : Linear) : Type 0 where
  pub rising : IsRising 0 row.terms
  pub placed : are_among columns row.terms ≡ true

abbrev pub AreProper : List ℕ → List Linear → Type 0
AreProper columns [] = Unit {0}
AreProper columns (row ∷ rows) = IsProper columns row × AreProper columns rows

-- these cells are those of the rows, and the columns are for their variables
pub record Stands (columns : List ℕ) (cells : List (List ℤ)) (rows : List Linear) : Type 0 where
  pub columns_are : columns ≡ variables rows
  pub cells_are : cells ≡ map (dense columns) rows
  pub proper : AreProper columns rows
  pub small : list_all (λ row. are_within row.terms row.constant) rows ≡ true

-- ---- what is done with cells

-- the sum of two lists of cells, each times a number
unfoldable pub combined_cells : ℤ → List ℤ → ℤ → List ℤ → List ℤ
combined_cells a [] b ys = []
combined_cells a (x ∷ xs) b [] = []
combined_cells a (x ∷ xs) b (y ∷ ys) = ((x *ℤ a) +ℤ (y *ℤ b)) ∷ combined_cells a xs b ys

abbrev pub is_zero : ℤ → Bool
is_zero n = int_eq n (pos 0)

-- what cells at a place give, where there are some
abbrev pub with_cells : Option (List ℤ) → (List ℤ → Result (List ℤ) Why) → Result (List ℤ) Why
with_cells None f = Err why.NoSuchRow
with_cells (Some cells) f = f cells

abbrev pub small_cells : List ℤ → Result (List ℤ) Why
small_cells cells = if list_all is_within cells then Ok cells else Err why.TooLarge

-- what a combination gives behind these rows
abbrev pub combination_cells : List (List ℤ) → ℤ → ℕ → ℤ → ℕ → Result (List ℤ) Why
combination_cells rows left_by left right_by right =
    with_cells (slice_get rows left) (λ x. with_cells (slice_get rows right) (λ y.
    if is_positive left_by && is_positive right_by then small_cells (combined_cells left_by x right_by y) else Err why.Multiplier))

-- what a cut gives behind these rows
abbrev pub cut_cells : List (List ℤ) → ℕ → ℤ → Result (List ℤ) Why
cut_cells rows from by =
    with_cells (slice_get rows from) (λ x.
    if is_positive by then (if list_all (is_multiple by) (take 64 x) then Ok (map (λ cell. floor_over cell by) x) else Err why.NotDivisible) else Err why.Multiplier)

-- no variable, and a negative constant
abbrev pub cannot_hold : List ℤ → Bool
cannot_hold row = list_all is_zero (take 64 row) && int_lt (slice_index_or row 64 (pos 0)) (pos 0)

-- there is a last row, and it cannot hold
abbrev pub last_cannot_hold : List (List ℤ) → Bool
last_cannot_hold [] = false
last_cannot_hold (row ∷ []) = cannot_hold row
last_cannot_hold (_ ∷ row ∷ rows) = last_cannot_hold (row ∷ rows)

-- ---- what a line gives

-- the cells of a row that was given, and the columns with those of its variables
pub record GivesRow (before after : List ℕ) (cells : List ℤ) (answer : Result Linear Why) : Type 0 where
  pub row : Linear
  pub is : answer ≡ Ok row
  pub cells_are : cells ≡ dense after row
  pub columns_are : after ≡ with_terms before row.terms
  pub few : length after ≤ 64
  pub different : AreDifferent after
  pub rising : IsRising 0 row.terms
  pub small : are_within row.terms row.constant ≡ true

-- the cells are those of the row that is answered, or there is the same reason
abbrev pub Gives : List ℕ → List ℕ → Result (List ℤ) Why → Result Linear Why → Type 0
Gives before after (Ok cells) answer = GivesRow before after cells answer
Gives before after (Err reason) answer = answer ≡ Err reason
