-- The places of instructions, and what an instruction of the object code has in common with that of the text.
use Rattle.std.proofs.Common.{◌≡◌, ℕ, List, [], ◌∷◌, length, Bool as Test, true, false, refl, arith}
use Rattle.std.specs.List.{All}
use Rattle.std.proofs.lemmas.List.Elements.{All-nil, All-cons}
use Rattle.operation_rules.specs.Operations.{needs}
use Rattle.operation_rules.specs.declared.operation.Operation.{Operation}
use Rattle.operation_rules.specs.declared.operation.Operation.TheVariants as operation
use Rattle.operation_rules.specs.declared.operation.Operation.TheVariants.{Jump, Return}
use Rattle.dtal_code.specs.Grammar.{IsListed, IsOpIn, is_last}
use Rattle.dtal_code.specs.Instructions.{Instruction, instruction_of, instruction_in, resolved}
use Rattle.dtal_code.specs.Places.{IsRegister, IsPlace}
use Rattle.dtal_code.specs.declared.instruction.Op.{Op}
use Rattle.dtal_code.specs.declared.instruction.Op.TheVariants as op

-- ---- places are below 256

AreIn : List ℕ → Type 0
AreIn places = All IsPlace places

none_in : AreIn []
unfolding AreIn
none_in = All-nil IsPlace

more_in : (p : ℕ) (ps : List ℕ) → IsPlace p → AreIn ps → AreIn (p ∷ ps)
unfolding AreIn
more_in p ps h all = All-cons IsPlace p ps h all

register_in : (p : ℕ) → IsRegister p → IsPlace p
register_in p h = omega (arith, h)

one_in : (p : ℕ) → IsPlace p → AreIn (p ∷ [])
one_in p h = more_in p [] h none_in

register_one : (p : ℕ) → IsRegister p → AreIn (p ∷ [])
register_one p h = one_in p (register_in p h)

register_two : (p q : ℕ) → IsRegister p → IsRegister q → AreIn (p ∷ q ∷ [])
register_two p q h k = more_in p (q ∷ []) (register_in p h) (register_one q k)

listed_in : (places : List ℕ) → IsListed places → AreIn places
unfolding AreIn
listed_in places h = h.are

reads_are_in : (o : Op) → IsOpIn o → AreIn (instruction_in o).reads
reads_are_in (op.Li rd number) h = none_in
reads_are_in (op.Lb rd b) h = none_in
reads_are_in (op.Mv p q) h = one_in q h.1
reads_are_in (op.Add rd ra rb) h = register_two ra rb h.1 h.2
reads_are_in (op.Sub rd ra rb) h = register_two ra rb h.1 h.2
reads_are_in (op.Mul rd ra rb) h = register_two ra rb h.1 h.2
reads_are_in (op.Div rd ra rb) h = register_two ra rb h.1 h.2
reads_are_in (op.Mod rd ra rb) h = register_two ra rb h.1 h.2
reads_are_in (op.Set c rd ra rb) h = register_two ra rb h.1 h.2
reads_are_in (op.Br c ra rb label) h = register_two ra rb h.0 h.1
reads_are_in (op.Bt ra label) h = register_one ra h.0
reads_are_in (op.Bf ra label) h = register_one ra h.0
reads_are_in (op.Jmp label) h = none_in
reads_are_in (op.Call fun p args) h = listed_in args.items h.2
reads_are_in (op.Ret p) h = one_in p h
reads_are_in (op.Len rd ra) h = register_one ra h.1
reads_are_in (op.Ld rd ra ri) h = register_two ra ri h.1 h.2
reads_are_in (op.St ra ri rv) h = more_in ra (ri ∷ rv ∷ []) (register_in ra h.0) (register_two ri rv h.1 h.2)
reads_are_in (op.New rd cells rn rv) h = register_two rn rv h.2 h.3
reads_are_in (op.Tup p number parts) h = listed_in parts.items h.2
reads_are_in (op.Untup number q parts) h = one_in q h.1
reads_are_in (op.Print ra) h = register_one ra h

writes_are_in : (o : Op) → IsOpIn o → AreIn (instruction_in o).writes
writes_are_in (op.Li rd number) h = register_one rd h.0
writes_are_in (op.Lb rd b) h = register_one rd h
writes_are_in (op.Mv p q) h = one_in p h.0
writes_are_in (op.Add rd ra rb) h = register_one rd h.0
writes_are_in (op.Sub rd ra rb) h = register_one rd h.0
writes_are_in (op.Mul rd ra rb) h = register_one rd h.0
writes_are_in (op.Div rd ra rb) h = register_one rd h.0
writes_are_in (op.Mod rd ra rb) h = register_one rd h.0
writes_are_in (op.Set c rd ra rb) h = register_one rd h.0
writes_are_in (op.Br c ra rb label) h = none_in
writes_are_in (op.Bt ra label) h = none_in
writes_are_in (op.Bf ra label) h = none_in
writes_are_in (op.Jmp label) h = none_in
writes_are_in (op.Call fun p args) h = one_in p h.1
writes_are_in (op.Ret p) h = none_in
writes_are_in (op.Len rd ra) h = register_one rd h.0
writes_are_in (op.Ld rd ra ri) h = register_one rd h.0
writes_are_in (op.St ra ri rv) h = none_in
writes_are_in (op.New rd cells rn rv) h = register_one rd h.0
writes_are_in (op.Tup p number parts) h = one_in p h.0
writes_are_in (op.Untup number q parts) h = listed_in parts.items h.2
writes_are_in (op.Print ra) h = none_in

pub reads_in : (o : Op) → IsOpIn o → All IsPlace (instruction_in o).reads
unfolding AreIn
reads_in o h = reads_are_in o h

pub writes_in : (o : Op) → IsOpIn o → All IsPlace (instruction_in o).writes
unfolding AreIn
writes_in o h = writes_are_in o h

-- ---- how many places it writes

pub writes_count : (o : Op) → length (instruction_in o).writes ≡ (needs (instruction_in o).operation).writes
writes_count (op.Li rd number) = refl
writes_count (op.Lb rd b) = refl
writes_count (op.Mv p q) = refl
writes_count (op.Add rd ra rb) = refl
writes_count (op.Sub rd ra rb) = refl
writes_count (op.Mul rd ra rb) = refl
writes_count (op.Div rd ra rb) = refl
writes_count (op.Mod rd ra rb) = refl
writes_count (op.Set c rd ra rb) = refl
writes_count (op.Br c ra rb label) = refl
writes_count (op.Bt ra label) = refl
writes_count (op.Bf ra label) = refl
writes_count (op.Jmp label) = refl
writes_count (op.Call fun p args) = refl
writes_count (op.Ret p) = refl
writes_count (op.Len rd ra) = refl
writes_count (op.Ld rd ra ri) = refl
writes_count (op.St ra ri rv) = refl
writes_count (op.New rd cells rn rv) = refl
writes_count (op.Tup p number parts) = refl
writes_count (op.Untup number q parts) = refl
writes_count (op.Print ra) = refl

-- ---- text and object code

-- an instruction whose target stands for a number
abbrev pub with_target : Instruction → ℕ → Instruction
with_target i target = record i { target = target }

abbrev pub ends_block : Operation → Test
ends_block Jump = true
ends_block Return = true
ends_block _ = false

-- the operations that go to a label
abbrev pub goes_elsewhere : Operation → Test
goes_elsewhere (operation.Branch c) = true
goes_elsewhere (operation.BranchTruth b) = true
goes_elsewhere Jump = true
goes_elsewhere _ = false

-- what the machine has of an instruction: its label is resolved
pub record IsResolved (at : ℕ → ℕ) (o : Op) : Type 0 where
  pub target : ℕ
  pub is : instruction_of (resolved at o) ≡ with_target (instruction_in o) target
  pub goes : goes_elsewhere (instruction_in o).operation ≡ true → target ≡ at (instruction_in o).target

stays : (at : ℕ → ℕ) (o : Op) → instruction_of (resolved at o) ≡ with_target (instruction_in o) 0 → goes_elsewhere (instruction_in o).operation ≡ false → IsResolved at o
stays at o is e = record { target = 0; is = is; goes = λ h. absurd (let bad : ⊥ = cc in bad) }

pub resolved_is : (at : ℕ → ℕ) (o : Op) → IsResolved at o
resolved_is at (op.Li rd number) = stays at (op.Li rd number) refl refl
resolved_is at (op.Lb rd b) = stays at (op.Lb rd b) refl refl
resolved_is at (op.Mv p q) = stays at (op.Mv p q) refl refl
resolved_is at (op.Add rd ra rb) = stays at (op.Add rd ra rb) refl refl
resolved_is at (op.Sub rd ra rb) = stays at (op.Sub rd ra rb) refl refl
resolved_is at (op.Mul rd ra rb) = stays at (op.Mul rd ra rb) refl refl
resolved_is at (op.Div rd ra rb) = stays at (op.Div rd ra rb) refl refl
resolved_is at (op.Mod rd ra rb) = stays at (op.Mod rd ra rb) refl refl
resolved_is at (op.Set c rd ra rb) = stays at (op.Set c rd ra rb) refl refl
resolved_is at (op.Br c ra rb label) = record { target = at label; is = refl; goes = λ h. refl }
resolved_is at (op.Bt ra label) = record { target = at label; is = refl; goes = λ h. refl }
resolved_is at (op.Bf ra label) = record { target = at label; is = refl; goes = λ h. refl }
resolved_is at (op.Jmp label) = record { target = at label; is = refl; goes = λ h. refl }
resolved_is at (op.Call fun p args) = stays at (op.Call fun p args) refl refl
resolved_is at (op.Ret p) = stays at (op.Ret p) refl refl
resolved_is at (op.Len rd ra) = stays at (op.Len rd ra) refl refl
resolved_is at (op.Ld rd ra ri) = stays at (op.Ld rd ra ri) refl refl
resolved_is at (op.St ra ri rv) = stays at (op.St ra ri rv) refl refl
resolved_is at (op.New rd cells rn rv) = stays at (op.New rd cells rn rv) refl refl
resolved_is at (op.Tup p number parts) = stays at (op.Tup p number parts) refl refl
resolved_is at (op.Untup number q parts) = stays at (op.Untup number q parts) refl refl
resolved_is at (op.Print ra) = stays at (op.Print ra) refl refl

-- the last instruction of a block is a jump or a return
pub last_is : (o : Op) → is_last o ≡ ends_block (instruction_in o).operation
last_is (op.Li rd number) = refl
last_is (op.Lb rd b) = refl
last_is (op.Mv p q) = refl
last_is (op.Add rd ra rb) = refl
last_is (op.Sub rd ra rb) = refl
last_is (op.Mul rd ra rb) = refl
last_is (op.Div rd ra rb) = refl
last_is (op.Mod rd ra rb) = refl
last_is (op.Set c rd ra rb) = refl
last_is (op.Br c ra rb label) = refl
last_is (op.Bt ra label) = refl
last_is (op.Bf ra label) = refl
last_is (op.Jmp label) = refl
last_is (op.Call fun p args) = refl
last_is (op.Ret p) = refl
last_is (op.Len rd ra) = refl
last_is (op.Ld rd ra ri) = refl
last_is (op.St ra ri rv) = refl
last_is (op.New rd cells rn rv) = refl
last_is (op.Tup p number parts) = refl
last_is (op.Untup number q parts) = refl
last_is (op.Print ra) = refl
