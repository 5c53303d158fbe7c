-- Which instructions go where: by the kind of the operation, for the 22 instructions over places.
use Rattle.std.proofs.Common.{◌≡◌, ℕ, zero, suc, ◌-◌, ℤ, pos, negsuc, Bool, true, false, List, [], length, Option, Some, None, nat_lt, if◌then◌else◌, refl, sym, ap, ◌∙◌, arith}
use Rattle.std.proofs.lemmas.Option.{none-some, same_Some}
use Rattle.operation_rules.specs.declared.operation.Operation.{Operation}
use Rattle.operation_rules.specs.declared.operation.Operation.TheVariants.{Literal, Truth, Move, Add, Sub, Mul, Div, Mod, Compare, Branch, BranchTruth, Jump, Call, Return, Length, Load, Store, New, Tuple, Untuple, Print}
use Rattle.operation_rules.specs.Operations.{needs}
use Rattle.three_address.specs.Flow.{ways}
use Rattle.three_address.specs.Instructions.{Instruction, of_truth, of_comparison, of_type, operation_of, are_enough, with_places, with_operation, instruction_of}
use Rattle.three_address.specs.declared.instruction.LowInstr.{LowInstr}
use Rattle.three_address.specs.declared.instruction.Op22.{Op22}
use Rattle.three_address.specs.declared.instruction.Op22.TheVariants as low
use Rattle.std.specs.List.{Contains}
use Rattle.dtal_emit.specs.Acting.{takes_places}
use Rattle.emission_laws.proofs.ActingForms.{target_for}
use Rattle.emission_laws.proofs.KeptHeap.{Kind, Onward, Printing, Branching, Leaping, Calling, Returning, kind_of}

-- the kind of an instruction
abbrev pub kind_by : Op22 → Kind
kind_by low.Br = Branching
kind_by low.Bt = Branching
kind_by low.Bf = Branching
kind_by low.Jmp = Leaping
kind_by low.Call = Calling
kind_by low.Ret = Returning
kind_by low.Print = Printing
kind_by _ = Onward

by_same : (a operation : Operation) (kind : Kind) → kind_of a ≡ kind → Some a ≡ Some operation → kind_of operation ≡ kind
by_same a operation kind k e = ap kind_of (sym (same_Some a operation e)) ∙ k

by_test : (b : Bool) (a operation : Operation) (kind : Kind) → kind_of a ≡ kind → (if b then Some a else None) ≡ Some operation → kind_of operation ≡ kind
by_test true a operation kind k e = by_same a operation kind k e
by_test false a operation kind k e = absurd (none-some operation e)

by_truth : (number : ℤ) (operation : Operation) → of_truth number ≡ Some operation → kind_of operation ≡ Onward
by_truth (pos zero) operation e = by_same (Truth false) operation Onward refl e
by_truth (pos (suc zero)) operation e = by_same (Truth true) operation Onward refl e
by_truth (pos (suc (suc n))) operation e = absurd (none-some operation e)
by_truth (negsuc n) operation e = absurd (none-some operation e)

by_comparison : (number : ℤ) (make : ℕ → Operation) (operation : Operation) (kind : Kind) → ((n : ℕ) → kind_of (make n) ≡ kind) → of_comparison number make ≡ Some operation
    → kind_of operation ≡ kind
by_comparison (pos n) make operation kind k e = by_test (nat_lt n 4) (make n) operation kind (k n) e
by_comparison (negsuc n) make operation kind k e = absurd (none-some operation e)

by_type : (number : ℤ) (make : ℕ → Operation) (operation : Operation) (kind : Kind) → ((n : ℕ) → kind_of (make n) ≡ kind) → of_type number make ≡ Some operation
    → kind_of operation ≡ kind
by_type (pos n) make operation kind k e = by_same (make n) operation kind (k n) e
by_type (negsuc n) make operation kind k e = absurd (none-some operation e)

pub kind_same : (o : Op22) (number : ℤ) (target listed : ℕ) (operation : Operation) → operation_of o number target listed ≡ Some operation → kind_of operation ≡ kind_by o
kind_same low.Li number target listed operation e = by_same (Literal number) operation Onward refl e
kind_same low.Lb number target listed operation e = by_truth number operation e
kind_same low.Mv number target listed operation e = by_same Move operation Onward refl e
kind_same low.Add number target listed operation e = by_same Add operation Onward refl e
kind_same low.Sub number target listed operation e = by_same Sub operation Onward refl e
kind_same low.Mul number target listed operation e = by_same Mul operation Onward refl e
kind_same low.Div number target listed operation e = by_same Div operation Onward refl e
kind_same low.Mod number target listed operation e = by_same Mod operation Onward refl e
kind_same low.Set number target listed operation e = by_comparison number Compare operation Onward (λ n. refl) e
kind_same low.Br number target listed operation e = by_comparison number Branch operation Branching (λ n. refl) e
kind_same low.Bt number target listed operation e = by_same (BranchTruth true) operation Branching refl e
kind_same low.Bf number target listed operation e = by_same (BranchTruth false) operation Branching refl e
kind_same low.Jmp number target listed operation e = by_same Jump operation Leaping refl e
kind_same low.Call number target listed operation e = by_same (Call target) operation Calling refl e
kind_same low.Ret number target listed operation e = by_same Return operation Returning refl e
kind_same low.Len number target listed operation e = by_same Length operation Onward refl e
kind_same low.Ld number target listed operation e = by_same Load operation Onward refl e
kind_same low.St number target listed operation e = by_same Store operation Onward refl e
kind_same low.New number target listed operation e = by_type number New operation Onward (λ n. refl) e
kind_same low.Tup number target listed operation e = by_type number Tuple operation Onward (λ n. refl) e
kind_same low.Untup number target listed operation e = by_type number (λ p. Untuple p (listed - 1)) operation Onward (λ n. refl) e
kind_same low.Print number target listed operation e = by_same Print operation Printing refl e

-- ---- what the kinds say

abbrev pub is_going : Kind → Bool
is_going Branching = true
is_going Leaping = true
is_going _ = false

abbrev pub is_calling : Kind → Bool
is_calling Calling = true
is_calling _ = false

abbrev pub is_silent : Kind → Bool
is_silent Printing = true
is_silent Branching = true
is_silent Leaping = true
is_silent _ = false

pub going_target : (o : Op22) (n : ℕ) → is_going (kind_by o) ≡ true → target_for o n ≡ n
going_target low.Br n e = refl
going_target low.Bt n e = refl
going_target low.Bf n e = refl
going_target low.Jmp n e = refl
going_target _ n e = absurd (let bad : ⊥ = cc in bad)

pub calling_places : (o : Op22) → is_calling (kind_by o) ≡ true → takes_places o ≡ true
calling_places low.Call e = refl
calling_places _ e = absurd (let bad : ⊥ = cc in bad)

-- ---- forms

-- an instruction that has its form
pub record IsFormed (i : LowInstr) (form : Instruction) : Type 0 where
  pub operation : Operation
  pub is_operation : operation_of i.op i.number i.target (length i.places) ≡ Some operation
  pub is_form : form ≡ with_places operation i.places

formed_if : (b : Bool) (o : Operation) (places : List ℕ) (form : Instruction) → (if b then Some (with_places o places) else None) ≡ Some form → form ≡ with_places o places
formed_if true o places form e = sym (same_Some (with_places o places) form e)
formed_if false o places form e = absurd (none-some form e)

formed_by : (i : LowInstr) (form : Instruction) (o : Option Operation) → operation_of i.op i.number i.target (length i.places) ≡ o → with_operation o i.places ≡ Some form → IsFormed i form
formed_by i form None h e = absurd (none-some form e)
formed_by i form (Some o) h e =
    record { operation = o; is_operation = h; is_form = formed_if (are_enough (needs o).reads (needs o).writes (length i.places)) o i.places form e }

pub is_formed : (i : LowInstr) (form : Instruction) → instruction_of i ≡ Some form → IsFormed i form
unfolding instruction_of
is_formed i form e = formed_by i form (operation_of i.op i.number i.target (length i.places)) refl e

pub same_operation : (o : Operation) (places : List ℕ) → (with_places o places).operation ≡ o
same_operation (Untuple number count) places = refl
same_operation _ places = refl

pub silent_writes : (o : Operation) (places : List ℕ) → is_silent (kind_of o) ≡ true → (with_places o places).writes ≡ []
silent_writes Print places e = refl
silent_writes (Branch c) places e = refl
silent_writes (BranchTruth b) places e = refl
silent_writes Jump places e = refl
silent_writes _ places e = absurd (let bad : ⊥ = cc in bad)

-- ---- where they lead

abbrev pub goes_on : Kind → Bool
goes_on Onward = true
goes_on Printing = true
goes_on Branching = true
goes_on Calling = true
goes_on _ = false

pub on_way : (o : Operation) (at : ℕ) (label : Option ℕ) → goes_on (kind_of o) ≡ true → Contains (ways o at label) (suc at)
on_way Jump at label e = absurd (let bad : ⊥ = cc in bad)
on_way Return at label e = absurd (let bad : ⊥ = cc in bad)
on_way _ at label e = (0, omega arith, refl)

pub label_way : (o : Operation) (at to : ℕ) → is_going (kind_of o) ≡ true → Contains (ways o at (Some to)) to
label_way (Branch c) at to e = (1, omega arith, refl)
label_way (BranchTruth b) at to e = (1, omega arith, refl)
label_way Jump at to e = (0, omega arith, refl)
label_way _ at to e = absurd (let bad : ⊥ = cc in bad)
