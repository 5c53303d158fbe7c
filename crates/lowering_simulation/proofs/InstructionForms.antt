-- Which operation each instruction of lowered code is, and which of its places it writes and reads.
use Rattle.std.proofs.Common.{◌≡◌, ℕ, suc, ◌+◌, ◌-◌, ◌==◌, ℤ, pos, List, [], ◌∷◌, length, Bool as Flag, true, false, nat_le, Option, Some, refl, arith}
use Rattle.std.proofs.lemmas.Bool.Decides.{nat_tests}
use Rattle.operation_rules.specs.declared.operation.Operation.{Operation}
use Rattle.operation_rules.specs.declared.operation.Operation.TheVariants as operation
use Rattle.three_address.specs.Instructions.{Instruction, instruction_of}
use Rattle.three_address.specs.declared.instruction.Op22.TheVariants as op22
use Rattle.xanadu_tree.specs.declared.expr.Op.{Op}
use Rattle.xanadu_tree.specs.declared.expr.Op.TheVariants as op
use Rattle.typed_core.specs.Operators.{operation_of}
use Rattle.value_lowering.specs.OneInstruction.{instr, literal, truth, unary, binary, op_of, called, tuple_made, array_made, stored, parted, printed, returned, jump, truth_branch, truth_op, Aim}

abbrev pub form : Operation → (writes reads : List ℕ) → Option Instruction
form o writes reads = Some (record { operation = o; writes = writes; reads = reads })

pub literal_form : (to : ℕ) (n : ℤ) → instruction_of (literal to n) ≡ form (operation.Literal n) (to ∷ []) []
unfolding instruction_of
literal_form to n = refl

pub truth_form : (to : ℕ) (b : Flag) → instruction_of (truth to b) ≡ form (operation.Truth b) (to ∷ []) []
unfolding instruction_of
truth_form to true = refl
truth_form to false = refl

pub move_form : (to from : ℕ) → instruction_of (unary op22.Mv to from) ≡ form operation.Move (to ∷ []) (from ∷ [])
unfolding instruction_of
move_form to from = refl

pub length_form : (to from : ℕ) → instruction_of (unary op22.Len to from) ≡ form operation.Length (to ∷ []) (from ∷ [])
unfolding instruction_of
length_form to from = refl

pub arithmetic_form : (o : Op) (to left right : ℕ) → instruction_of (binary (op_of o) to left right) ≡ form (operation_of o) (to ∷ []) (left ∷ right ∷ [])
unfolding instruction_of
arithmetic_form op.Add to left right = refl
arithmetic_form op.Sub to left right = refl
arithmetic_form op.Mul to left right = refl
arithmetic_form op.Div to left right = refl
arithmetic_form op.Mod to left right = refl

pub load_form : (to left right : ℕ) → instruction_of (binary op22.Ld to left right) ≡ form operation.Load (to ∷ []) (left ∷ right ∷ [])
unfolding instruction_of
load_form to left right = refl

pub array_form : (c to len fill : ℕ) → instruction_of (array_made c to len fill) ≡ form (operation.New c) (to ∷ []) (len ∷ fill ∷ [])
unfolding instruction_of
array_form c to len fill = refl

some_listed : (n : ℕ) → nat_le 1 (suc n) ≡ true
some_listed n = grind (arith, nat_tests)

pub tuple_form : (t to : ℕ) (parts : List ℕ) → instruction_of (tuple_made t to parts) ≡ form (operation.Tuple t) (to ∷ []) parts
unfolding instruction_of
tuple_form t to parts = rw (some_listed (length parts)) refl

pub called_form : (fun to : ℕ) (args : List ℕ) → instruction_of (called fun to args) ≡ form (operation.Call fun) (to ∷ []) args
unfolding instruction_of
called_form fun to args = rw (some_listed (length args)) refl

pub stored_form : (array index value : ℕ) → instruction_of (stored array index value) ≡ form operation.Store [] (array ∷ index ∷ value ∷ [])
unfolding instruction_of
stored_form array index value = refl

pub printed_form : (place : ℕ) → instruction_of (printed place) ≡ form operation.Print [] (place ∷ [])
unfolding instruction_of
printed_form place = refl

pub returned_form : (place : ℕ) → instruction_of (returned place) ≡ form operation.Return [] (place ∷ [])
unfolding instruction_of
returned_form place = refl

pub jump_form : (to : ℕ) → instruction_of (jump to) ≡ form operation.Jump [] []
unfolding instruction_of
jump_form to = refl

pub truth_branch_form : (aim : Aim) (on : Flag) (place : ℕ) → aim.on ≡ on → instruction_of (truth_branch aim place) ≡ form (operation.BranchTruth on) [] (place ∷ [])
unfolding instruction_of
truth_branch_form aim on place e = rw e (by on)
  where
    by : (on : Flag) → instruction_of (instr (truth_op on) (place ∷ []) (pos 0) aim.to) ≡ form (operation.BranchTruth on) [] (place ∷ [])
    by true = refl
    by false = refl

one_less : (n : ℕ) → suc n - 1 ≡ n
one_less n = omega arith

all_listed : (n : ℕ) → (suc n == n + 1) ≡ true
all_listed n = grind (arith, nat_tests)

pub parted_form : (t from : ℕ) (parts : List ℕ) → instruction_of (parted t from parts) ≡ form (operation.Untuple t (length parts)) parts (from ∷ [])
unfolding instruction_of
parted_form t from parts = rw (one_less (length parts)) (rw (all_listed (length parts)) refl)
