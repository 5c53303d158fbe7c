-- The parts of an instruction, kind by kind, are those of its form.
use Rattle.std.proofs.Common.{◌≡◌, ℕ, zero, suc, ◌+◌, ◌-◌, ◌==◌, ℤ, pos, negsuc, Bool, true, false, List, length, take, drop, Option, Some, None, nat_lt, nat_le, if◌then◌else◌, option_map, refl, ap, ◌∙◌, arith}
use Rattle.std.proofs.lemmas.Bool.Decides.{nat_tests}
use Rattle.std.proofs.lemmas.Int.{ints}
use Rattle.operation_rules.specs.declared.operation.Operation.{Operation}
use Rattle.operation_rules.specs.declared.operation.Operation.TheVariants.{Literal, Truth, Move, Add, Sub, Mul, Div, Mod, Compare, Branch, BranchTruth, Jump, Call, Return, Length, Load, Store, New, Tuple, Untuple, Print}
use Rattle.three_address.specs.Instructions.{Instruction, of_truth, of_comparison, of_type, operation_of, with_places, if_enough, with_operation, instruction_of}
use Rattle.three_address.specs.Splits.{Parts, fixed, one_first, taken_apart, where_so, is_among, is_natural, parts_by, parts_of}
use Rattle.three_address.specs.declared.instruction.LowInstr.{LowInstr}
use Rattle.three_address.specs.declared.instruction.Op22.{Op22}
use Rattle.three_address.specs.declared.instruction.Op22.TheVariants as op

abbrev pub sides : Instruction → Parts
sides i = (i.writes, i.reads)

abbrev pub parts_in : Option Instruction → Option Parts
parts_in i = option_map sides i

-- ---- tests

through : (b : Bool) (i : Instruction) → (if b then Some (sides i) else None) ≡ parts_in (if b then Some i else None)
through true i = refl
through false i = refl

-- a test of the number comes first
number_through : (b : Bool) (o : Operation) (places : List ℕ) → where_so b (parts_in (if_enough o places)) ≡ parts_in (with_operation (if b then Some o else None) places)
number_through true o places = refl
number_through false o places = refl

natural_is : (n count : ℕ) → is_among (pos n) count ≡ nat_lt n count
natural_is n count = grind (arith, ints, nat_tests)

none_below : (n count : ℕ) → is_among (negsuc n) count ≡ false
none_below n count = grind (arith, ints, nat_tests)

past_one : (n : ℕ) → is_among (pos (suc (suc n))) 2 ≡ false
past_one n = natural_is (suc (suc n)) 2 ∙ grind (arith, nat_tests)

some_parts : (n : ℕ) → nat_le 1 n ≡ (n == (n - 1) + 1)
some_parts zero = refl
some_parts (suc n) = grind (arith, nat_tests)

is_pos : (n : ℕ) → is_natural (pos n) ≡ true
is_pos n = grind (arith, ints)

is_neg : (n : ℕ) → is_natural (negsuc n) ≡ false
is_neg n = grind (arith, ints)

-- ---- kind by kind

by_kind : (o : Op22) (number : ℤ) (target : ℕ) (places : List ℕ) → parts_by o number places ≡ parts_in (with_operation (operation_of o number target (length places)) places)
by_kind op.Li number target places = through (length places == 1 + 0) (with_places (Literal number) places)
by_kind op.Lb number target places = truth number
  where
    truth : (number : ℤ) → where_so (is_among number 2) (fixed 1 0 places) ≡ parts_in (with_operation (of_truth number) places)
    truth (pos zero) = through (length places == 1 + 0) (with_places (Truth false) places)
    truth (pos (suc zero)) = through (length places == 1 + 0) (with_places (Truth true) places)
    truth (pos (suc (suc n))) = ap (λ b. where_so b (fixed 1 0 places)) (past_one n)
    truth (negsuc n) = ap (λ b. where_so b (fixed 1 0 places)) (none_below n 2)
by_kind op.Mv number target places = through (length places == 1 + 1) (with_places Move places)
by_kind op.Add number target places = through (length places == 1 + 2) (with_places Add places)
by_kind op.Sub number target places = through (length places == 1 + 2) (with_places Sub places)
by_kind op.Mul number target places = through (length places == 1 + 2) (with_places Mul places)
by_kind op.Div number target places = through (length places == 1 + 2) (with_places Div places)
by_kind op.Mod number target places = through (length places == 1 + 2) (with_places Mod places)
by_kind op.Set number target places = set number
  where
    set : (number : ℤ) → where_so (is_among number 4) (fixed 1 2 places) ≡ parts_in (with_operation (of_comparison number Compare) places)
    set (pos n) =
        ap (λ b. where_so b (fixed 1 2 places)) (natural_is n 4)
        ∙ ap (λ parts. where_so (nat_lt n 4) parts) (through (length places == 1 + 2) (with_places (Compare n) places))
        ∙ number_through (nat_lt n 4) (Compare n) places
    set (negsuc n) = ap (λ b. where_so b (fixed 1 2 places)) (none_below n 4)
by_kind op.Br number target places = branch number
  where
    branch : (number : ℤ) → where_so (is_among number 4) (fixed 0 2 places) ≡ parts_in (with_operation (of_comparison number Branch) places)
    branch (pos n) =
        ap (λ b. where_so b (fixed 0 2 places)) (natural_is n 4)
        ∙ ap (λ parts. where_so (nat_lt n 4) parts) (through (length places == 0 + 2) (with_places (Branch n) places))
        ∙ number_through (nat_lt n 4) (Branch n) places
    branch (negsuc n) = ap (λ b. where_so b (fixed 0 2 places)) (none_below n 4)
by_kind op.Bt number target places = through (length places == 0 + 1) (with_places (BranchTruth true) places)
by_kind op.Bf number target places = through (length places == 0 + 1) (with_places (BranchTruth false) places)
by_kind op.Jmp number target places = through (length places == 0 + 0) (with_places Jump places)
by_kind op.Call number target places = through (nat_le 1 (length places)) (with_places (Call target) places)
by_kind op.Ret number target places = through (length places == 0 + 1) (with_places Return places)
by_kind op.Len number target places = through (length places == 1 + 1) (with_places Length places)
by_kind op.Ld number target places = through (length places == 1 + 2) (with_places Load places)
by_kind op.St number target places = through (length places == 0 + 3) (with_places Store places)
by_kind op.New number target places = made number
  where
    made : (number : ℤ) → where_so (is_natural number) (fixed 1 2 places) ≡ parts_in (with_operation (of_type number New) places)
    made (pos n) = ap (λ b. where_so b (fixed 1 2 places)) (is_pos n) ∙ through (length places == 1 + 2) (with_places (New n) places)
    made (negsuc n) = ap (λ b. where_so b (fixed 1 2 places)) (is_neg n)
by_kind op.Tup number target places = made number
  where
    made : (number : ℤ) → where_so (is_natural number) (one_first places) ≡ parts_in (with_operation (of_type number Tuple) places)
    made (pos n) = ap (λ b. where_so b (one_first places)) (is_pos n) ∙ through (nat_le 1 (length places)) (with_places (Tuple n) places)
    made (negsuc n) = ap (λ b. where_so b (one_first places)) (is_neg n)
by_kind op.Untup number target places = taken number
  where
    taken : (number : ℤ) → where_so (is_natural number) (taken_apart places) ≡ parts_in (with_operation (of_type number (λ p. Untuple p (length places - 1))) places)
    taken (pos n) =
        ap (λ b. where_so b (taken_apart places)) (is_pos n)
        ∙ ap (λ b. if b then Some (drop 1 places, take 1 places) else None) (some_parts (length places))
        ∙ through (length places == (length places - 1) + 1) (with_places (Untuple n (length places - 1)) places)
    taken (negsuc n) = ap (λ b. where_so b (taken_apart places)) (is_neg n)
by_kind op.Print number target places = through (length places == 0 + 1) (with_places Print places)

pub parts_are : (i : LowInstr) → parts_of i ≡ parts_in (instruction_of i)
unfolding parts_of instruction_of
parts_are i = by_kind i.op i.number i.target i.places
