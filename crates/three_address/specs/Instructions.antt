-- What an instruction of the code over places is: an operation of the common table, with the places that it writes and those that it reads.
use Rattle.std.specs.Prelude.{ℕ, zero, suc, ◌+◌, ◌-◌, ◌==◌, ℤ, pos, negsuc, Bool, true, false, List, length, take, drop, Option, Some, None, nat_lt, nat_le, if◌then◌else◌, ◌≢◌, [], ◌∷◌}
use Rattle.std.specs.List.{All}
use Rattle.operation_rules.specs.declared.operation.Operation.{Operation}
use Rattle.operation_rules.specs.declared.operation.Operation.TheVariants.{Literal, Truth, Move, Add, Sub, Mul, Div, Mod, Compare, Branch, BranchTruth, Jump, Call, Return, Length, Load, Store, New, Tuple, Untuple, Print}
use Rattle.operation_rules.specs.Operations.{needs}
use Rattle.three_address.specs.declared.instruction.LowInstr.{LowInstr}
use Rattle.three_address.specs.declared.instruction.Op22.{Op22}
use Rattle.three_address.specs.declared.instruction.Op22.TheVariants as op

-- ---- the operation

-- the number is that of a type
abbrev pub of_type : ℤ → (ℕ → Operation) → Option Operation
of_type (pos n) operation = Some (operation n)
of_type (negsuc n) operation = None

-- it is that of one of the four comparisons
abbrev pub of_comparison : ℤ → (ℕ → Operation) → Option Operation
of_comparison (pos n) operation = if nat_lt n 4 then Some (operation n) else None
of_comparison (negsuc n) operation = None

-- it is a truth value
abbrev pub of_truth : ℤ → Option Operation
of_truth (pos zero) = Some (Truth false)
of_truth (pos (suc zero)) = Some (Truth true)
of_truth (pos (suc (suc n))) = None
of_truth (negsuc n) = None

-- by the number and the target that stand with it, and how many places do
abbrev pub operation_of : Op22 → (number : ℤ) → (target listed : ℕ) → Option Operation
operation_of op.Li number target listed = Some (Literal number)
operation_of op.Lb number target listed = of_truth number
operation_of op.Mv number target listed = Some Move
operation_of op.Add number target listed = Some Add
operation_of op.Sub number target listed = Some Sub
operation_of op.Mul number target listed = Some Mul
operation_of op.Div number target listed = Some Div
operation_of op.Mod number target listed = Some Mod
operation_of op.Set number target listed = of_comparison number Compare
operation_of op.Br number target listed = of_comparison number Branch
operation_of op.Bt number target listed = Some (BranchTruth true)
operation_of op.Bf number target listed = Some (BranchTruth false)
operation_of op.Jmp number target listed = Some Jump
operation_of op.Call number target listed = Some (Call target)
operation_of op.Ret number target listed = Some Return
operation_of op.Len number target listed = Some Length
operation_of op.Ld number target listed = Some Load
operation_of op.St number target listed = Some Store
operation_of op.New number target listed = of_type number New
operation_of op.Tup number target listed = of_type number Tuple
operation_of op.Untup number target listed = of_type number (λ p. Untuple p (listed - 1))
operation_of op.Print number target listed = Some Print

-- ---- its places

pub record Instruction : Type 0 where
  pub operation : Operation
  pub writes : List ℕ
  pub reads : List ℕ

-- as many places are listed as the operation needs
abbrev pub are_enough : Option ℕ → (writes listed : ℕ) → Bool
are_enough (Some reads) writes listed = listed == writes + reads
are_enough None writes listed = nat_le writes listed

-- those that are written stand first, but for the parts of a tuple, behind which it is taken apart
abbrev pub with_places : Operation → List ℕ → Instruction
with_places (Untuple number count) places = record { operation = Untuple number count; writes = drop 1 places; reads = take 1 places }
with_places operation places =
    record { operation = operation; writes = take (needs operation).writes places; reads = drop (needs operation).writes places }

abbrev pub if_enough : Operation → List ℕ → Option Instruction
if_enough operation places =
    if are_enough (needs operation).reads (needs operation).writes (length places) then Some (with_places operation places) else None

abbrev pub with_operation : Option Operation → List ℕ → Option Instruction
with_operation None places = None
with_operation (Some operation) places = if_enough operation places

-- none, where it has not the places and the number of its form
unfoldable pub instruction_of : LowInstr → Option Instruction
instruction_of i = with_operation (operation_of i.op i.number i.target (length i.places)) i.places

-- no place stands twice
abbrev pub AreDifferent : List ℕ → Type 0
AreDifferent [] = Unit {0}
AreDifferent (place ∷ places) = All (λ other. place ≢ other) places × AreDifferent places
