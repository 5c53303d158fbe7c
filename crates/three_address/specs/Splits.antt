-- The places that an instruction writes and those that it reads, and where it leads, kind by kind: what the code goes by.
use Rattle.std.specs.Prelude.{ℕ, suc, ◌+◌, ◌==◌, ℤ, pos, Bool, true, false, ◌||◌, ◌&&◌, List, length, take, drop, Option, Some, None, nat_le, int_le, int_lt, if◌then◌else◌}
use Rattle.std.specs.List.{slice_index_or}
use Rattle.three_address.specs.Flow.{label_at}
use Rattle.three_address.specs.declared.instruction.LowInstr.{LowInstr}
use Rattle.three_address.specs.declared.instruction.Op22.{Op22}
use Rattle.three_address.specs.declared.instruction.Op22.TheVariants as op

-- ---- places

-- those that are written, and those that are read
abbrev pub Parts : Type 0
Parts = List ℕ × List ℕ

-- so many that are written, and so many behind them that are read
abbrev pub fixed : (writes reads : ℕ) → List ℕ → Option Parts
fixed writes reads places = if length places == writes + reads then Some (take writes places, drop writes places) else None

-- one that is written, and any number of others
abbrev pub one_first : List ℕ → Option Parts
one_first places = if nat_le 1 (length places) then Some (take 1 places, drop 1 places) else None

-- one that is read, and any number that are written
abbrev pub taken_apart : List ℕ → Option Parts
taken_apart places = if nat_le 1 (length places) then Some (drop 1 places, take 1 places) else None

abbrev pub where_so : Bool → Option Parts → Option Parts
where_so true parts = parts
where_so false parts = None

-- the number is one of so many from 0 on
abbrev pub is_among : ℤ → (count : ℕ) → Bool
is_among number count = int_le (pos 0) number && int_lt number (pos count)

abbrev pub is_natural : ℤ → Bool
is_natural number = int_le (pos 0) number

-- none, where it has not the places and the number of its form
abbrev pub parts_by : Op22 → ℤ → List ℕ → Option Parts
parts_by op.Li number places = fixed 1 0 places
parts_by op.Lb number places = where_so (is_among number 2) (fixed 1 0 places)
parts_by op.Mv number places = fixed 1 1 places
parts_by op.Add number places = fixed 1 2 places
parts_by op.Sub number places = fixed 1 2 places
parts_by op.Mul number places = fixed 1 2 places
parts_by op.Div number places = fixed 1 2 places
parts_by op.Mod number places = fixed 1 2 places
parts_by op.Set number places = where_so (is_among number 4) (fixed 1 2 places)
parts_by op.Br number places = where_so (is_among number 4) (fixed 0 2 places)
parts_by op.Bt number places = fixed 0 1 places
parts_by op.Bf number places = fixed 0 1 places
parts_by op.Jmp number places = fixed 0 0 places
parts_by op.Call number places = one_first places
parts_by op.Ret number places = fixed 0 1 places
parts_by op.Len number places = fixed 1 1 places
parts_by op.Ld number places = fixed 1 2 places
parts_by op.St number places = fixed 0 3 places
parts_by op.New number places = where_so (is_natural number) (fixed 1 2 places)
parts_by op.Tup number places = where_so (is_natural number) (one_first places)
parts_by op.Untup number places = where_so (is_natural number) (taken_apart places)
parts_by op.Print number places = fixed 0 1 places

unfoldable pub parts_of : LowInstr → Option Parts
parts_of i = parts_by i.op i.number i.places

-- ---- ways

-- whether a position is marked
abbrev pub marked : List Bool → (at : ℕ) → Bool
marked marks at = slice_index_or marks at false

abbrev pub marked_if : List Bool → Option ℕ → Bool
marked_if marks None = false
marked_if marks (Some at) = marked marks at

-- whether the position of a label is marked
abbrev pub label_marked : List Bool → (labels : List ℕ) → (label : ℕ) → Bool
label_marked marks labels label = marked_if marks (label_at labels label)

-- whether some position to which an instruction leads is marked
abbrev pub leads_by : Op22 → List Bool → (labels : List ℕ) → (target at : ℕ) → Bool
leads_by op.Br marks labels target at = marked marks (suc at) || label_marked marks labels target
leads_by op.Bt marks labels target at = marked marks (suc at) || label_marked marks labels target
leads_by op.Bf marks labels target at = marked marks (suc at) || label_marked marks labels target
leads_by op.Jmp marks labels target at = label_marked marks labels target
leads_by op.Ret marks labels target at = false
leads_by _ marks labels target at = marked marks (suc at)
