-- Live places at the labels of a function: for each place a column with a mark for each label.
use Rattle.std.specs.Prelude.{◌≡◌, ◌↔◌, ℕ, zero, suc, Bool, true, false, List, [], ◌∷◌, ◌++◌, length, Option, Some, None, slice_get}
use Rattle.three_address.specs.Flow.{label_at}
use Rattle.three_address.specs.Liveness.{Live}
use Rattle.three_address.specs.Splits.{marked}
use Rattle.three_address.specs.declared.function.LowFun.{LowFun}

-- the marks at positions, behind those so far
unfoldable pub marks_onto : (marks : List Bool) → (positions : List ℕ) → (made : List Bool) → List Bool
marks_onto marks [] made = made
marks_onto marks (at ∷ positions) made = marks_onto marks positions (made ++ marked marks at ∷ [])

-- labels are numbered from 1
abbrev pub label_mark : (column : List Bool) → (label : ℕ) → Bool
label_mark column zero = false
label_mark column (suc before) = marked column before

-- a label's mark stands where the place is live at the position of the label
pub record IsColumn (fun : LowFun) (place : ℕ) (column : List Bool) : Type 0 where
  pub each : length column ≡ length fun.labels
  pub live : (label at : ℕ) → label_at fun.labels label ≡ Some at → (label_mark column label ≡ true) ↔ Live fun at place

-- the columns of places from one on
unfoldable pub AreColumns : LowFun → (from : ℕ) → List (List Bool) → Type 0
AreColumns fun from [] = Unit {0}
AreColumns fun from (column ∷ columns) = IsColumn fun from column × AreColumns fun (suc from) columns

-- one for each place of the function
pub record AreAllColumns (fun : LowFun) (columns : List (List Bool)) : Type 0 where
  pub each : length columns ≡ fun.places
  pub are : AreColumns fun 0 columns

abbrev pub column_mark : Option (List Bool) → (label : ℕ) → Bool
column_mark None label = false
column_mark (Some column) label = label_mark column label

-- the mark of a place at a label
abbrev pub live_mark : List (List Bool) → (label place : ℕ) → Bool
live_mark columns label place = column_mark (slice_get columns place) label
