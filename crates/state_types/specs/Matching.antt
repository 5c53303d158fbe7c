-- What a target demands: the values of its quantified variables, and the rows under which it holds.
use Rattle.std.specs.Prelude.{ℕ, zero, suc, ◌-◌, Bool as Truth, false, List, [], ◌∷◌, ◌++◌, Option, Some, None, Ok, Err, if◌then◌else◌}
use Rattle.index_sorts.specs.Known.{same_form}
use Rattle.xan_lin.specs.Linear.{Linear, variable_form, difference_of}
use Rattle.xan_lin.specs.Subst.{subst_of, zero_form}
use Rattle.state_types.specs.Answers.{Check, ◌>>=◌, within_bounds}
use Rattle.state_types.specs.PlaceTypes.{type_at}
use Rattle.state_types.specs.Types.{index_of, same_kind}
use Rattle.state_types.specs.declared.error.StateError.TheVariants.{Kind}
use Rattle.state_types.specs.declared.matching.Found.{Found}
use Rattle.state_types.specs.declared.pairs.Pair.{Pair}
use Rattle.state_types.specs.declared.state.StateType.{StateType}
use Rattle.state_types.specs.declared.types.Ty.{Ty}

-- ---- wanted types beside the present ones, of the same kinds

-- a wanted type and the present one, at a part or a place of this number
unfoldable pub pair_of : ℕ → Ty → Ty → Check Pair
pair_of number wanted present =
    if same_kind wanted present then Ok (record { wanted = wanted; present = present })
    else Err (Kind number)

-- those of two lists, behind the pairs made so far
unfoldable pub pairs_of : ℕ → List Ty → List Ty → List Pair → Check (List Pair)
pairs_of number [] actual made = Ok made
pairs_of number (wanted ∷ later) [] made = Ok made
pairs_of number (wanted ∷ later) (present ∷ others) made = do
  pair ← pair_of number wanted present
  pairs_of (suc number) later others (made ++ pair ∷ [])

abbrev pub pair_found : ℕ × Ty → Option Ty → Check Pair
pair_found wanted (Some present) = pair_of wanted.0 wanted.1 present
pair_found wanted None = Err (Kind wanted.0)

-- those of places: each wanted one beside its present type
unfoldable pub pair_at : List (ℕ × Ty) → ℕ × Ty → Check Pair
pair_at present wanted = pair_found wanted (type_at wanted.0 present)

unfoldable pub pairs_at : List (ℕ × Ty) → List (ℕ × Ty) → List Pair → Check (List Pair)
pairs_at present [] made = Ok made
pairs_at present (wanted ∷ later) made = do
  pair ← pair_at present wanted
  pairs_at present later (made ++ pair ∷ [])

-- ---- the values of quantified variables

abbrev pub is_alone : ℕ → Option Linear → Truth
is_alone var (Some index) = same_form index (variable_form var)
is_alone var None = false

abbrev pub index_or_zero : Option Linear → Linear
index_or_zero (Some index) = index
index_or_zero None = zero_form

-- the index of the first present type whose wanted index is the variable alone, or 0 where there is none
unfoldable pub value_for : ℕ → List Pair → Linear
value_for var [] = zero_form
value_for var (pair ∷ pairs) =
    if is_alone var (index_of pair.wanted) then index_or_zero (index_of pair.present)
    else value_for var pairs

-- those of so many variables from `first` on
unfoldable pub values_for : ℕ → ℕ → List Pair → List (ℕ × Linear)
values_for first zero pairs = []
values_for first (suc count) pairs = (first, value_for first pairs) ∷ values_for (suc first) count pairs

-- ---- the demanded rows, behind those made so far

-- two forms are equal where both differences are at least 0
abbrev pub both_differences : Linear → Linear → List Linear → Check (List Linear)
both_differences wanted present made = do
  more ← within_bounds (difference_of wanted present)
  less ← within_bounds (difference_of present wanted)
  Ok (made ++ more ∷ [] ++ less ∷ [])

-- the same form demands nothing
unfoldable pub differences : Linear → Linear → List Linear → Check (List Linear)
differences wanted present made = if same_form wanted present then Ok made else both_differences wanted present made

-- the wanted index, in which the variables are replaced, is the present one
unfoldable pub index_rows : List (ℕ × Linear) → ℕ → Option Linear → Option Linear → List Linear → Check (List Linear)
index_rows values below None present made = Ok made
index_rows values below (Some wanted) None made = Ok made
index_rows values below (Some wanted) (Some present) made = do
  given ← within_bounds (subst_of values below wanted)
  differences given present made

unfoldable pub type_rows : List (ℕ × Linear) → ℕ → List Pair → List Linear → Check (List Linear)
type_rows values below [] made = Ok made
type_rows values below (pair ∷ pairs) made = do
  more ← index_rows values below (index_of pair.wanted) (index_of pair.present) made
  type_rows values below pairs more

-- the target's own rows, in which the variables are replaced
unfoldable pub own_rows : List (ℕ × Linear) → ℕ → List Linear → List Linear → Check (List Linear)
own_rows values below [] made = Ok made
own_rows values below (row ∷ rows) made = do
  given ← within_bounds (subst_of values below row)
  own_rows values below rows (made ++ given ∷ [])

-- type by type, and then the target's rows
unfoldable pub demanded : List (ℕ × Linear) → ℕ → List Pair → List Linear → Check (List Linear)
demanded values below pairs rows = do
  made ← type_rows values below pairs []
  own_rows values below rows made

-- ---- the calls

unfoldable pub found_with : List (ℕ × Linear) → ℕ → List Pair → List Linear → Check Found
found_with values below pairs rows = do
  all ← demanded values below pairs rows
  Ok (record { values = values; rows = all })

-- A match: the variables from `below` to `vars` are quantified, and those below stay what they are.
unfoldable pub matched : ℕ → ℕ → List Linear → List Ty → List Ty → Check Found
matched below vars rows wanted actual = do
  pairs ← pairs_of 0 wanted actual []
  found_with (values_for below (vars - below) pairs) below pairs rows

-- An edge: the listed variables have these values; one that is not listed is itself where the present state has it, and else 0.
unfoldable pub meeting : StateType → StateType → List (ℕ × Linear) → Check (List Linear)
meeting state target values = do
  pairs ← pairs_at state.places target.places []
  demanded values state.ctx.vars pairs target.ctx.rows
