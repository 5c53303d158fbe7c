-- The one instruction of the text that acts as an instruction of the code over places does, over registers and slots.
use Rattle.std.specs.Prelude.{ℕ, zero, suc, ◌^◌, ℤ, pos, negsuc, Bool, true, false, List, [], ◌∷◌, nat_lt, int_le, int_lt, ◌&&◌, if◌then◌else◌}
use Rattle.std.specs.List.{slice_index_or}
use Rattle.std.specs.Ordering.{int_eq}
use Rattle.three_address.specs.declared.instruction.Op22.{Op22}
use Rattle.three_address.specs.declared.instruction.Op22.TheVariants as low
use Rattle.dtal_code.specs.declared.instruction.Cmp.{Cmp}
use Rattle.dtal_code.specs.declared.instruction.Cmp.TheVariants as cmp
use Rattle.dtal_code.specs.declared.instruction.Op.{Op}
use Rattle.dtal_code.specs.declared.instruction.Op.TheVariants as op

-- ---- operands

-- the place at this position of a list
abbrev pub nth : List ℕ → ℕ → ℕ
nth homes at = slice_index_or homes at 0

-- the comparison of this number
abbrev pub comparison_of : ℤ → Cmp
comparison_of number = if int_eq number (pos 0) then cmp.Lt else if int_eq number (pos 1) then cmp.Le else if int_eq number (pos 2) then cmp.Eq else cmp.Ne

-- the number of a type
abbrev pub type_of : ℤ → ℕ
type_of (pos n) = if nat_lt n (2 ^ 32) then n else 0
type_of (negsuc n) = 0

-- ---- which operands are registers

-- a move, a call, a return, a tuple and its parts take their places as they are; all others are over registers
abbrev pub takes_places : Op22 → Bool
takes_places low.Mv = true
takes_places low.Call = true
takes_places low.Ret = true
takes_places low.Tup = true
takes_places low.Untup = true
takes_places _ = false

-- ---- the instruction

-- with the places that it writes, and those that it reads
abbrev pub acting : Op22 → (number : ℤ) → (target : ℕ) → (writes reads : List ℕ) → Op
acting low.Li number target writes reads = op.Li (nth writes 0) number
acting low.Lb number target writes reads = op.Lb (nth writes 0) (int_eq number (pos 1))
acting low.Mv number target writes reads = op.Mv (nth writes 0) (nth reads 0)
acting low.Add number target writes reads = op.Add (nth writes 0) (nth reads 0) (nth reads 1)
acting low.Sub number target writes reads = op.Sub (nth writes 0) (nth reads 0) (nth reads 1)
acting low.Mul number target writes reads = op.Mul (nth writes 0) (nth reads 0) (nth reads 1)
acting low.Div number target writes reads = op.Div (nth writes 0) (nth reads 0) (nth reads 1)
acting low.Mod number target writes reads = op.Mod (nth writes 0) (nth reads 0) (nth reads 1)
acting low.Set number target writes reads = op.Set (comparison_of number) (nth writes 0) (nth reads 0) (nth reads 1)
acting low.Br number target writes reads = op.Br (comparison_of number) (nth reads 0) (nth reads 1) target
acting low.Bt number target writes reads = op.Bt (nth reads 0) target
acting low.Bf number target writes reads = op.Bf (nth reads 0) target
acting low.Jmp number target writes reads = op.Jmp target
acting low.Call number target writes reads = op.Call target (nth writes 0) (record { items = reads })
acting low.Ret number target writes reads = op.Ret (nth reads 0)
acting low.Len number target writes reads = op.Len (nth writes 0) (nth reads 0)
acting low.Ld number target writes reads = op.Ld (nth writes 0) (nth reads 0) (nth reads 1)
acting low.St number target writes reads = op.St (nth reads 0) (nth reads 1) (nth reads 2)
acting low.New number target writes reads = op.New (nth writes 0) (type_of number) (nth reads 0) (nth reads 1)
acting low.Tup number target writes reads = op.Tup (nth writes 0) (type_of number) (record { items = reads })
acting low.Untup number target writes reads = op.Untup (type_of number) (nth reads 0) (record { items = writes })
acting low.Print number target writes reads = op.Print (nth reads 0)
