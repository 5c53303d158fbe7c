-- Typed code is taken whole by emission.
use Rattle.std.proofs.Common.{◌≡◌, ℕ, zero, suc, ◌-◌, ◌^◌, ◌<◌, ◌≤◌, ℤ, pos, negsuc, Bool, true, false, List, [], ◌∷◌, length, map, Option, Some, None, Ok, slice_get, if◌then◌else◌, refl, sym, ap, subst, ◌∙◌, arith}
use Rattle.std.specs.Prelude.{int_lt}
use Rattle.std.specs.List.{AllZip}
use Rattle.std.proofs.lemmas.Bool.Decides.{nat_tests}
use Rattle.std.proofs.lemmas.Int.{ints}
use Rattle.std.proofs.lemmas.Option.{none-some, same_Some, slice_get_within}
use Rattle.std.proofs.lemmas.List.{length-map}
use Rattle.state_types.proofs.Thens.{then_ok, ok_same}
use Rattle.state_types.specs.declared.closed.Packed.{Packed}
use Rattle.state_types.specs.declared.closed.Signature.{Signature}
use Rattle.state_types.specs.declared.state.StateType.{StateType}
use Rattle.state_types.specs.declared.types.Ty.{Ty}
use Rattle.operation_rules.specs.Applied.{all_there}
use Rattle.operation_rules.specs.Faults.{or_fault}
use Rattle.operation_rules.specs.declared.error.Fault.TheVariants.{NoPlace}
use Rattle.operation_rules.specs.declared.operation.Operation.{Operation}
use Rattle.operation_rules.specs.declared.operation.Operation.TheVariants.{New, Tuple, Untuple}
use Rattle.operation_rules.specs.Rules.{Setting}
use Rattle.three_address.specs.Flow.{label_at}
use Rattle.three_address.specs.Instructions.{Instruction, with_places, with_operation, operation_of, of_type, instruction_of}
use Rattle.three_address.specs.Typing.{IsTypedFun, IsLabel, Allows, setting_of, ruled_in}
use Rattle.state_types.specs.PlaceTypes.{type_at}
use Rattle.three_address.specs.declared.function.LowFun.{LowFun}
use Rattle.three_address.specs.declared.function.Lowered.{Lowered}
use Rattle.three_address.specs.declared.instruction.LowInstr.{LowInstr}
use Rattle.three_address.specs.declared.instruction.Op22.{Op22}
use Rattle.three_address.specs.declared.instruction.Op22.TheVariants as low
use Rattle.three_address.specs.declared.typed.Edge.{Edge}
use Rattle.emission_laws.specs.ApartHomes.{Rise, IsReady, IsReadyFun, names_type}
use Rattle.emission_laws.specs.EmittedRanges.{Each}
use Rattle.emission_laws.proofs.KindsOfInstructions.{same_operation}
use Rattle.emission_acceptance.specs.ReadyCode.{IsShortCode}
use Rattle.emission_acceptance.proofs.RuledCounts.{ruled_parts, form_writes}
use Rattle.emission_acceptance.proofs.RulesFew.{rules_few, named_type, called_function}
use Rattle.dtal_safety.proofs.Lookups.{zip_lengths}

-- ---- lists

each_at : {A : Type 0} (P : A → Type 0) (xs : List A) (n : ℕ) (x : A) → Each P xs → slice_get xs n ≡ Some x → P x
each_at P [] n x all e = absurd (none-some x e)
each_at P (y ∷ xs) zero x all e = subst P (same_Some y x e) all.0
each_at P (y ∷ xs) (suc n) x all e = each_at P xs n x all.1 e

record Mapped {A B : Type 0} (f : A → B) (xs : List A) (n : ℕ) (y : B) : Type 0 where
  value : A
  there : slice_get xs n ≡ Some value
  is : f value ≡ y

mapped : {A B : Type 0} (f : A → B) (xs : List A) (n : ℕ) (y : B) → slice_get (map f xs) n ≡ Some y → Mapped f xs n y
mapped f [] n y e = absurd (none-some y e)
mapped f (x ∷ xs) zero y e = record { value = x; there = refl; is = same_Some (f x) y e }
mapped f (x ∷ xs) (suc n) y e = (let m = mapped f xs n y e in record { value = m.value; there = m.there; is = m.is })

get_mapped : {A B : Type 0} (f : A → B) (xs : List A) (n : ℕ) (x : A) → slice_get xs n ≡ Some x → slice_get (map f xs) n ≡ Some (f x)
get_mapped f [] n x e = absurd (none-some x e)
get_mapped f (y ∷ xs) zero x e = ap (λ z. Some (f z)) (same_Some y x e)
get_mapped f (y ∷ xs) (suc n) x e = get_mapped f xs n x e

record Present {A : Type 0} (xs : List A) (n : ℕ) : Type 0 where
  value : A
  there : slice_get xs n ≡ Some value

present : {A : Type 0} (xs : List A) (n : ℕ) → n < length xs → Present xs n
present [] n h = absurd (omega (arith, h))
present (x ∷ xs) zero h = record { value = x; there = refl }
present (x ∷ xs) (suc n) h = (let p = present xs n (omega (arith, h)) in record { value = p.value; there = p.there })

record Beside {A B : Type 0} (R : A → B → Type 0) (xs : List A) (y : B) : Type 0 where
  value : A
  holds : R value y

beside : {A B : Type 0} (R : A → B → Type 0) (xs : List A) (ys : List B) (n : ℕ) (y : B) → AllZip R xs ys → slice_get ys n ≡ Some y → Beside R xs y
beside R [] [] n y all e = absurd (none-some y e)
beside R [] (z ∷ ys) n y all e = absurd all
beside R (x ∷ xs) [] n y all e = absurd all
beside R (x ∷ xs) (z ∷ ys) zero y all e = record { value = x; holds = subst (R x) (same_Some z y e) all.0 }
beside R (x ∷ xs) (z ∷ ys) (suc n) y all e = (let b = beside R xs ys n y all.1 e in record { value = b.value; holds = b.holds })

-- ---- an instruction's form

operation_same : (b : Bool) (o : Operation) (places : List ℕ) (form : Instruction) → (if b then Some (with_places o places) else None) ≡ Some form → form.operation ≡ o
operation_same true o places form e = ap (λ (x : Instruction). x.operation) (sym (same_Some (with_places o places) form e)) ∙ same_operation o places
operation_same false o places form e = absurd (none-some form e)

operation_there : (o : Option Operation) (places : List ℕ) (form : Instruction) → with_operation o places ≡ Some form → o ≡ Some form.operation
operation_there None places form e = absurd (none-some form e)
operation_there (Some o) places form e = ap Some (sym (operation_same _ o places form e))

-- the number of a type is a natural one, that of the operation
pub record IsTypeOf (number : ℤ) (operation : Operation) : Type 0 where
  pub n : ℕ
  pub is : number ≡ pos n
  pub named : named_type operation ≡ Some n

type_named : (number : ℤ) (make : ℕ → Operation) (operation : Operation) → ((n : ℕ) → named_type (make n) ≡ Some n) → of_type number make ≡ Some operation → IsTypeOf number operation
type_named (pos n) make operation named e = record { n = n; is = refl; named = ap named_type (sym (same_Some (make n) operation e)) ∙ named n }
type_named (negsuc n) make operation named e = absurd (none-some operation e)

pub number_named : (o : Op22) (number : ℤ) (target listed : ℕ) (operation : Operation) → names_type o ≡ true → operation_of o number target listed ≡ Some operation → IsTypeOf number operation
number_named low.New number target listed operation t e = type_named number New operation (λ n. refl) e
number_named low.Tup number target listed operation t e = type_named number Tuple operation (λ n. refl) e
number_named low.Untup number target listed operation t e = type_named number (λ p. Untuple p (listed - 1)) operation (λ n. refl) e
number_named _ number target listed operation t e = absurd (let bad : ⊥ = cc in bad)

fits_below : (n : ℕ) → n < 65536 → int_lt (pos n) (pos (2 ^ 32)) ≡ true
fits_below n h = grind (arith, ints, nat_tests)

read_count : (places : List (Option Ty)) (types : List Ty) → all_there places ≡ Ok types → length types ≡ length places
unfolding all_there
read_count [] types e = ap length (sym (ok_same _ types e))
read_count (place ∷ places) types e =
    let a = then_ok (or_fault NoPlace place) _ types e in
    let b = then_ok (all_there places) _ types a.second in
    ap length (sym (ok_same _ types b.second)) ∙ ap suc (read_count places b.value b.first)

-- ---- an instruction

module _ (low_code : Lowered) (short : IsShortCode low_code) (own : Signature) where
  abbrev st : Setting
  st = setting_of low_code own

  parts_few : (n : ℕ) (packed : Packed) → slice_get st.table n ≡ Some packed → length packed.parts ≤ 8
  parts_few n packed e = each_at (λ (p : Packed). length p.parts ≤ 8) low_code.table n packed short.parts e

  params_few : (n : ℕ) (sig : Signature) → slice_get st.sigs n ≡ Some sig → length sig.params ≤ 8
  params_few n sig e =
      let m = mapped (λ (fun : LowFun). fun.sig) low_code.funs n sig e in
      subst (λ (s : Signature). length s.params ≤ 8) m.is (each_at (λ (fun : LowFun). length fun.sig.params ≤ 8) low_code.funs n m.value short.params m.there)

  instr_ready : (places : ℕ) (labels : List StateType) (state : StateType) (instr : LowInstr) (edge : Edge) (next : Option StateType)
      → Allows st places labels state instr edge next → IsReady low_code.funs instr
  unfolding instruction_of ruled_in
  instr_ready places labels state instr edge next allows =
      let i = allows.i in
      let p = ruled_parts st i.operation _ state.ctx allows.ruled allows.by_rule in
      let few = rules_few st parts_few params_few i.operation p.types state.ctx.vars p.r p.is_rule in
      let count = read_count _ p.types p.there in
      let many = length-map i.reads (λ place. type_at place state.places) in
      let writes = form_writes instr i allows.is in
      let read = few.few_read in
      let written = few.few_written in
      record {
        form = i;
        is_form = allows.is;
        few_written = omega (arith, writes, written);
        few_read = omega (arith, count, many, read);
        named = λ t.
            (let o = operation_there (operation_of instr.op instr.number instr.target (length instr.places)) instr.places i allows.is in
            let n = number_named instr.op instr.number instr.target (length instr.places) i.operation t o in
            let below = few.there n.n n.named in
            let most = short.few_types in
            ap (λ z. int_lt z (pos (2 ^ 32))) n.is ∙ fits_below n.n (omega (arith, below, most)));
        calls = λ number callee is there.
            (let long = few.params number callee.sig (ap called_function is) (get_mapped (λ (fun : LowFun). fun.sig) low_code.funs number callee there) in
            omega (arith, count, many, long));
      }

-- ---- a function

pub fun_ready : (low_code : Lowered) (number : ℕ) (fun : LowFun) (labels : List StateType) (edges : List Edge) → IsShortCode low_code → slice_get low_code.funs number ≡ Some fun
    → IsTypedFun low_code fun labels edges → IsReadyFun low_code.funs fun (length labels) edges
fun_ready low_code number fun labels edges short there typed =
    let R : StateType → ℕ → Type 0 = λ label at. IsLabel low_code.table fun.sig label (slice_get typed.states at) in
    let many = zip_lengths R labels fun.labels typed.label_each in
    let one_each = typed.one_each in
    let edge_each = typed.edge_each in
    record {
      few_params = each_at (λ (f : LowFun). length f.sig.params ≤ 8) low_code.funs number fun short.params there;
      instrs = λ at instr e.
          (let h = slice_get_within fun.code at instr e in
          let s = present typed.states at (omega (arith, h, one_each)) in
          let d = present edges at (omega (arith, h, edge_each)) in
          instr_ready low_code short fun.sig fun.places labels s.value instr d.value _ (typed.allowed at s.value instr d.value s.there e d.there));
      edge_each = edge_each;
      label_each = omega (arith, many);
      rise = each_at (λ (f : LowFun). Rise 0 f.labels) low_code.funs number fun short.rise there;
      within = λ label at e. within label at e;
    }
  where
    stands : (before at : ℕ) → slice_get fun.labels before ≡ Some at → at < length fun.code
    stands before at e =
        let R : StateType → ℕ → Type 0 = λ label place. IsLabel low_code.table fun.sig label (slice_get typed.states place) in
        let b = beside R labels fun.labels before at typed.label_each e in
        let h = slice_get_within typed.states at _ b.holds.is_before in
        let one_each = typed.one_each in
        omega (arith, h, one_each)

    within : (label at : ℕ) → label_at fun.labels label ≡ Some at → at < length fun.code
    within zero at e = absurd (none-some at e)
    within (suc before) at e = stands before at e
