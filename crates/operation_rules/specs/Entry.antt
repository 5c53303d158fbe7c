-- Where a run begins: the faults of arguments, and the words and blocks that arguments become. Said over variables, rows and types, for a source
-- and for a program alike.
use Rattle.std.specs.Prelude.{ℕ, zero, suc, ◌+◌, ◌==◌, ℤ, pos, Bool as Truth, true, false, List, [], ◌∷◌, length, Option, Some, None, int_le, if◌then◌else◌}
use Rattle.std.specs.Ordering.{int_eq}
use Rattle.xan_io.specs.declared.arg.Arg.{Arg}
use Rattle.xan_io.specs.declared.arg.Arg.TheVariants as arg
use Rattle.xan_io.specs.Entry.{EntryFault, ArgCount, ArgKind, ArgIndex, EntryRow}
use Rattle.index_sorts.specs.Known.{same_form}
use Rattle.xan_lin.specs.Linear.{Linear, variable_form}
use Rattle.xan_lin.specs.Value.{value_of}
use Rattle.state_types.specs.Types.{index_of}
use Rattle.state_types.specs.declared.types.Ty.{Ty}
use Rattle.state_types.specs.declared.types.Ty.TheVariants as ty
use Rattle.operation_rules.specs.Effects.{Stores, truth_word}

-- ---- faults of arguments, each numbered from 1

abbrev pub is_of_kind : Arg → Ty → Truth
is_of_kind (arg.Int n) (ty.Int form) = true
is_of_kind (arg.Bool b) ty.Bool = true
is_of_kind (arg.Array cells) (ty.Array element form) = true
is_of_kind _ _ = false

-- the first argument of another kind
unfoldable pub kind_fault : (number : ℕ) → List Arg → List Ty → Option EntryFault
kind_fault number (a ∷ args) (t ∷ types) = if is_of_kind a t then kind_fault (suc number) args types else Some (ArgKind number)
kind_fault number _ _ = None

-- the index of an argument: a number, or a length
abbrev pub index_value : Arg → ℤ
index_value (arg.Int n) = n
index_value (arg.Bool b) = pos 0
index_value (arg.Array cells) = pos (length cells)

abbrev pub is_variable : ℕ → Option Linear → Truth
is_variable var (Some index) = same_form index (variable_form var)
is_variable var None = false

-- a variable has the value of the first parameter whose index it is alone
unfoldable pub variable_value : ℕ → List Arg → List Ty → ℤ
variable_value var (a ∷ args) (t ∷ types) = if is_variable var (index_of t) then index_value a else variable_value var args types
variable_value var _ _ = pos 0

unfoldable pub variable_values : (first count : ℕ) → List Arg → List Ty → List ℤ
variable_values first zero args types = []
variable_values first (suc count) args types = variable_value first args types ∷ variable_values (suc first) count args types

abbrev pub has_index : List ℤ → Arg → Option Linear → Truth
has_index values a (Some index) = int_eq (index_value a) (value_of values index)
has_index values a None = true

-- the first argument whose index is not the value of its type's
unfoldable pub index_fault : (number : ℕ) → List ℤ → List Arg → List Ty → Option EntryFault
index_fault number values (a ∷ args) (t ∷ types) =
    if has_index values a (index_of t) then index_fault (suc number) values args types else Some (ArgIndex number)
index_fault number values _ _ = None

-- the first row that does not hold
unfoldable pub row_fault : (number : ℕ) → List ℤ → List Linear → Option EntryFault
row_fault number values [] = None
row_fault number values (row ∷ rows) = if int_le (pos 0) (value_of values row) then row_fault (suc number) values rows else Some (EntryRow number)

-- the first of two faults
abbrev pub or_else : Option EntryFault → Option EntryFault → Option EntryFault
or_else (Some fault) later = Some fault
or_else None later = later

-- the first fault: of the number of arguments, of kinds, of indices, of rows
unfoldable pub entry_fault : (vars : ℕ) → (rows : List Linear) → (params : List Ty) → List Arg → Option EntryFault
entry_fault vars rows params args =
    let values = variable_values 0 vars args params in
    if length args == length params
    then or_else (kind_fault 1 args params) (or_else (index_fault 1 values args params) (row_fault 1 values rows))
    else Some ArgCount

-- ---- their words: each array is a block of numbers, in order

abbrev pub with_word : {S : Type 0} → ℤ → Option (List ℤ × S) → Option (List ℤ × S)
with_word word None = None
with_word word (Some placed) = Some (word ∷ placed.0, placed.1)

module _ {S : Type 0} (stores : Stores S) where
  unfoldable pub placed : List Arg → S → Option (List ℤ × S)
  placed [] store = Some ([], store)
  placed (arg.Int n ∷ args) store = with_word n (placed args store)
  placed (arg.Bool b ∷ args) store = with_word (truth_word b) (placed args store)
  placed (arg.Array cells ∷ args) store =
      if stores.room store (length cells + 2) then (let made = stores.made store 0 cells in with_word (pos made.0) (placed args made.1)) else None
