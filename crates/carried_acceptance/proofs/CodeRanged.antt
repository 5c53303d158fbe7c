-- Each instruction of typed code with what stands with it has a text, where its numbers and what was carried have.
use Rattle.std.proofs.Common.{◌≡◌, ◌∙◌, ℕ, zero, suc, ◌-◌, ◌^◌, ◌<◌, ◌≤◌, ℤ, pos, negsuc, Bool as Truth, true, false, List, [], ◌∷◌, length, slice_get, nat_lt, if◌then◌else◌, Option, Some, None, Ok, refl, sym, ap, subst, arith}
use Rattle.std.specs.List.{All, AllByRecursion}
use Rattle.std.proofs.lemmas.List.Elements.{All-nil, All-cons, All-head, All-tail}
use Rattle.std.proofs.lemmas.Option.{none-some, same_Some, slice_get_within}
use Rattle.xan_lin.specs.Linear.{Linear, NamesBelow}
use Rattle.state_types.specs.declared.closed.Packed.{Packed}
use Rattle.state_types.specs.declared.closed.Signature.{Signature}
use Rattle.state_types.specs.declared.state.StateType.{StateType}
use Rattle.state_types.specs.declared.types.Ty.{Ty}
use Rattle.state_types.proofs.Thens.{then_ok}
use Rattle.operation_rules.specs.Applied.{Ruled, named, ruled}
use Rattle.operation_rules.specs.Faults.{or_fault}
use Rattle.operation_rules.specs.Rules.{Setting, cell_at, tuple_at}
use Rattle.operation_rules.specs.declared.error.Fault.TheVariants.{NoType}
use Rattle.operation_rules.specs.declared.operation.Operation.{Operation}
use Rattle.operation_rules.specs.declared.operation.Operation.TheVariants.{Literal, Truth as TruthValue, Move, Add, Sub, Mul, Div, Mod, Compare, Branch, BranchTruth, Jump, Call, Return, Length, Load, Store, New, Tuple, Untuple, Print}
use Rattle.operation_rules.proofs.RuleFacts.{or_fault_ok}
use Rattle.three_address.specs.Instructions.{Instruction, with_places, with_operation, of_type, of_comparison, of_truth, operation_of, instruction_of}
use Rattle.three_address.specs.Typing.{Allows, GoesTo, IsTypedFun, Leads, setting_of, ruled_in}
use Rattle.three_address.specs.declared.function.LowFun.{LowFun}
use Rattle.three_address.specs.declared.function.Lowered.{Lowered}
use Rattle.three_address.specs.declared.instruction.LowInstr.{LowInstr}
use Rattle.three_address.specs.declared.instruction.Op22.{Op22}
use Rattle.three_address.specs.declared.instruction.Op22.TheVariants as low
use Rattle.three_address.specs.declared.typed.Edge.{Edge}
use Rattle.dtal_code.specs.Grammar.{IsEdge, IsTypeNumber, IsValue, IsWay}
use Rattle.dtal_emit.specs.Acting.{type_of}
use Rattle.emission_laws.specs.ApartHomes.{names_type}
use Rattle.emission_acceptance.proofs.CodeReady.{number_named}
use Rattle.emission_acceptance.proofs.RulesFew.{named_type}
use Rattle.emission_laws.specs.EmittedRanges.{Each, goes_to_label, IsRangedInstr, AreRanged}
use Rattle.carried_acceptance.specs.WrittenParts.{HasNumbers}
use Rattle.carried_acceptance.proofs.TextedEdges.{IsTextedEdge, IsTextedLabel, IsProvedIn, IsCarriedIn}
use Rattle.carried_acceptance.proofs.TextedStates.{IsValueIn}

-- ---- lists

pub record Present {A : Type 0} (xs : List A) (n : ℕ) : Type 0 where
  pub value : A
  pub there : slice_get xs n ≡ Some value

pub present : {A : Type 0} (xs : List A) (n : ℕ) → n < length xs → Present xs n
present [] n h = absurd (omega (arith, h))
present (x ∷ xs) zero h = record { value = x; there = refl }
present (x ∷ xs) (suc n) h = (let p = present xs n (omega (arith, h)) in record { value = p.value; there = p.there })

all_at : {A : Type 0} (P : A → Type 0) (xs : List A) (n : ℕ) (x : A) → AllByRecursion P xs → slice_get xs n ≡ Some x → P x
all_at P [] n x all e = absurd (none-some x e)
all_at P (y ∷ xs) zero x all e = subst P (same_Some y x e) all.0
all_at P (y ∷ xs) (suc n) x all e = all_at P xs n x all.1 e

pub each_of : {A : Type 0} (P : A → Type 0) (xs : List A) → AllByRecursion P xs → Each P xs
each_of P [] all = tt
each_of P (x ∷ xs) all = (all.0, each_of P xs all.1)

-- ---- the operation of an instruction

places_keep : (o : Operation) (places : List ℕ) → (with_places o places).operation ≡ o
places_keep (Untuple number count) places = refl
places_keep o places = refl

if_same : (b : Truth) (o : Operation) (places : List ℕ) (i : Instruction) → (if b then Some (with_places o places) else None) ≡ Some i → o ≡ i.operation
if_same true o places i e = sym (places_keep o places) ∙ ap (λ (x : Instruction). x.operation) (same_Some (with_places o places) i e)
if_same false o places i e = absurd (none-some i e)

operation_is : (o : Option Operation) (places : List ℕ) (i : Instruction) → with_operation o places ≡ Some i → o ≡ Some i.operation
operation_is None places i e = absurd (none-some i e)
operation_is (Some o) places i e = ap Some (if_same _ o places i e)

instruction_operation : (instr : LowInstr) (i : Instruction) → instruction_of instr ≡ Some i → operation_of instr.op instr.number instr.target (length instr.places) ≡ Some i.operation
unfolding instruction_of
instruction_operation instr i e = operation_is (operation_of instr.op instr.number instr.target (length instr.places)) instr.places i e

-- ---- whether it goes to a label

abbrev leads_to : Operation → Truth
leads_to (Branch c) = true
leads_to (BranchTruth b) = true
leads_to Jump = true
leads_to _ = false

of_type_leads : (number : ℤ) (make : ℕ → Operation) (o : Operation) → ((n : ℕ) → false ≡ leads_to (make n)) → of_type number make ≡ Some o → false ≡ leads_to o
of_type_leads (pos n) make o same e = same n ∙ ap leads_to (same_Some (make n) o e)
of_type_leads (negsuc n) make o same e = absurd (none-some o e)

comparison_by : (b : Truth) (n : ℕ) (wanted : Truth) (make : ℕ → Operation) (o : Operation) → wanted ≡ leads_to (make n) → (if b then Some (make n) else None) ≡ Some o → wanted ≡ leads_to o
comparison_by true n wanted make o same e = same ∙ ap leads_to (same_Some (make n) o e)
comparison_by false n wanted make o same e = absurd (none-some o e)

comparison_leads : (number : ℤ) (wanted : Truth) (make : ℕ → Operation) (o : Operation) → ((n : ℕ) → wanted ≡ leads_to (make n)) → of_comparison number make ≡ Some o → wanted ≡ leads_to o
comparison_leads (pos n) wanted make o same e = comparison_by (nat_lt n 4) n wanted make o (same n) e
comparison_leads (negsuc n) wanted make o same e = absurd (none-some o e)

truth_leads : (number : ℤ) (o : Operation) → of_truth number ≡ Some o → false ≡ leads_to o
truth_leads (pos zero) o e = ap leads_to (same_Some (TruthValue false) o e)
truth_leads (pos (suc zero)) o e = ap leads_to (same_Some (TruthValue true) o e)
truth_leads (pos (suc (suc n))) o e = absurd (none-some o e)
truth_leads (negsuc n) o e = absurd (none-some o e)

same_leads : (op : Op22) (number : ℤ) (target listed : ℕ) (o : Operation) → operation_of op number target listed ≡ Some o → goes_to_label op ≡ leads_to o
same_leads low.Li number target listed o e = ap leads_to (same_Some (Literal number) o e)
same_leads low.Lb number target listed o e = truth_leads number o e
same_leads low.Mv number target listed o e = ap leads_to (same_Some Move o e)
same_leads low.Add number target listed o e = ap leads_to (same_Some Add o e)
same_leads low.Sub number target listed o e = ap leads_to (same_Some Sub o e)
same_leads low.Mul number target listed o e = ap leads_to (same_Some Mul o e)
same_leads low.Div number target listed o e = ap leads_to (same_Some Div o e)
same_leads low.Mod number target listed o e = ap leads_to (same_Some Mod o e)
same_leads low.Set number target listed o e = comparison_leads number false Compare o (λ n. refl) e
same_leads low.Br number target listed o e = comparison_leads number true Branch o (λ n. refl) e
same_leads low.Bt number target listed o e = ap leads_to (same_Some (BranchTruth true) o e)
same_leads low.Bf number target listed o e = ap leads_to (same_Some (BranchTruth false) o e)
same_leads low.Jmp number target listed o e = ap leads_to (same_Some Jump o e)
same_leads low.Call number target listed o e = ap leads_to (same_Some (Call target) o e)
same_leads low.Ret number target listed o e = ap leads_to (same_Some Return o e)
same_leads low.Len number target listed o e = ap leads_to (same_Some Length o e)
same_leads low.Ld number target listed o e = ap leads_to (same_Some Load o e)
same_leads low.St number target listed o e = ap leads_to (same_Some Store o e)
same_leads low.New number target listed o e = of_type_leads number New o (λ n. refl) e
same_leads low.Tup number target listed o e = of_type_leads number Tuple o (λ n. refl) e
same_leads low.Untup number target listed o e = of_type_leads number (λ p. Untuple p (listed - 1)) o (λ n. refl) e
same_leads low.Print number target listed o e = ap leads_to (same_Some Print o e)

-- ---- the number of a type

cell_there : (table : List Packed) (n : ℕ) (packed : Packed) → cell_at table n ≡ Ok packed → n < length table
unfolding cell_at
cell_there table n packed e =
    (let s = then_ok (or_fault NoType (slice_get table n)) _ packed e in slice_get_within table n s.value (or_fault_ok NoType (slice_get table n) s.value s.first))

pub tuple_there : (table : List Packed) (n : ℕ) (packed : Packed) → tuple_at table n ≡ Ok packed → n < length table
unfolding tuple_at
tuple_there table n packed e =
    (let s = then_ok (or_fault NoType (slice_get table n)) _ packed e in slice_get_within table n s.value (or_fault_ok NoType (slice_get table n) s.value s.first))

type_there : (st : Setting) (o : Operation) (n : ℕ) (u : Unit {0}) → named_type o ≡ Some n → named st o ≡ Ok u → n < length st.table
unfolding named
type_there st (New cells) n u names e =
    (let s = then_ok (cell_at st.table cells) _ u e in subst (λ m. m < length st.table) (same_Some cells n names) (cell_there st.table cells s.value s.first))
type_there st (Tuple number) n u names e =
    (let s = then_ok (tuple_at st.table number) _ u e in subst (λ m. m < length st.table) (same_Some number n names) (tuple_there st.table number s.value s.first))
type_there st (Untuple number count) n u names e =
    (let s = then_ok (tuple_at st.table number) _ u e in subst (λ m. m < length st.table) (same_Some number n names) (tuple_there st.table number s.value s.first))
type_there st _ n u names e = absurd (none-some n names)

type_number : (n : ℕ) → n < 65536 → type_of (pos n) ≤ 65535
type_number n few = by_test (nat_lt n (2 ^ 32))
  where
    by_test : (b : Truth) → (if b then n else 0) ≤ 65535
    by_test true = omega (arith, few)
    by_test false = omega arith

type_ranged : (st : Setting) (state : StateType) (instr : LowInstr) (i : Instruction) (by : Ruled) → length st.table ≤ 65536 → instruction_of instr ≡ Some i → ruled_in st i state ≡ Ok by
    → names_type instr.op ≡ true → IsTypeNumber (type_of instr.number)
unfolding ruled_in ruled
type_ranged st state instr i by few is rules names =
    let s = then_ok (named st i.operation) _ by rules in
    let t = number_named instr.op instr.number instr.target (length instr.places) i.operation names (instruction_operation instr i is) in
    let there = type_there st i.operation t.n s.value t.named s.first in
    subst (λ z. type_of z ≤ 65535) (sym t.is) (type_number t.n (omega (arith, there, few)))

-- ---- ways

values_are : (own vars state_vars : ℕ) (values : List (ℕ × Linear)) → vars ≤ 1024 → All (λ v. (own ≤ v.0) × (v.0 < vars) × NamesBelow state_vars v.1) values → AllByRecursion IsValueIn values
    → All IsValue values
values_are own vars state_vars [] few listed texted = All-nil IsValue
values_are own vars state_vars (v ∷ values) few listed texted =
    let P : ℕ × Linear → Type 0 = λ x. (own ≤ x.0) × (x.0 < vars) × NamesBelow state_vars x.1 in
    let h = (All-head P v values listed).1 in
    All-cons IsValue v values (omega (arith, h, few), texted.0) (values_are own vars state_vars values few (All-tail P v values listed) texted.1)

module _ (table : List Packed) (sig : Signature) (places : ℕ) (labels : List StateType) (labels_in : AllByRecursion (IsTextedLabel table places) labels) where
  goes_ranged : (state : StateType) (label : ℕ) (edge : Edge) → IsTextedEdge edge → GoesTo sig labels state label edge → IsEdge edge.values
  goes_ranged state label edge texted goes =
      let t = all_at (IsTextedLabel table places) labels goes.before goes.target labels_in goes.there in
      record { rise = goes.reaches.rise; are = values_are sig.vars goes.target.ctx.vars state.ctx.vars edge.values t.few goes.reaches.listed texted.values }

  way_ranged : (o : Operation) (state : StateType) (i : Instruction) (types : List Ty) (by : Ruled) (label : ℕ) (edge : Edge) (next : Option StateType) → IsTextedEdge edge
      → Leads sig labels state i types by label edge next o → IsWay (leads_to o) edge.values
  way_ranged (Branch c) state i types by label edge next texted l = goes_ranged _ label edge texted l.to
  way_ranged (BranchTruth b) state i types by label edge next texted l = goes_ranged _ label edge texted l.to
  way_ranged Jump state i types by label edge next texted l = goes_ranged state label edge texted l
  way_ranged Return state i types by label edge next texted l = l.values
  way_ranged (Literal n) state i types by label edge next texted l = l.values
  way_ranged (TruthValue b) state i types by label edge next texted l = l.values
  way_ranged Move state i types by label edge next texted l = l.values
  way_ranged Add state i types by label edge next texted l = l.values
  way_ranged Sub state i types by label edge next texted l = l.values
  way_ranged Mul state i types by label edge next texted l = l.values
  way_ranged Div state i types by label edge next texted l = l.values
  way_ranged Mod state i types by label edge next texted l = l.values
  way_ranged (Compare c) state i types by label edge next texted l = l.values
  way_ranged (Call fun) state i types by label edge next texted l = l.values
  way_ranged Length state i types by label edge next texted l = l.values
  way_ranged Load state i types by label edge next texted l = l.values
  way_ranged Store state i types by label edge next texted l = l.values
  way_ranged (New cells) state i types by label edge next texted l = l.values
  way_ranged (Tuple number) state i types by label edge next texted l = l.values
  way_ranged (Untuple number count) state i types by label edge next texted l = l.values
  way_ranged Print state i types by label edge next texted l = l.values

  instr_ranged : (st : Setting) (state : StateType) (instr : LowInstr) (edge : Edge) (next : Option StateType) → st.own ≡ sig → length st.table ≤ 65536 → HasNumbers instr → IsTextedEdge edge
      → Allows st places labels state instr edge next → IsRangedInstr instr edge
  instr_ranged st state instr edge next own few numbers texted allows =
      let i = allows.i in
      let leads = subst (λ (s : Signature). Leads s labels state i allows.types allows.ruled instr.target edge next i.operation) own allows.leads in
      let same = same_leads instr.op instr.number instr.target (length instr.places) i.operation (instruction_operation instr i allows.is) in
      record {
        number = numbers.number;
        target = numbers.target;
        type = λ names. type_ranged st state instr i allows.ruled few allows.is allows.by_rule names;
        way = subst (λ b. IsWay b edge.values) (sym same) (way_ranged i.operation state i allows.types allows.ruled instr.target edge next texted leads);
        by = each_of IsProvedIn edge.by texted.by;
      }

-- ---- all code of a function

all_ranged : (code : List LowInstr) (edges : List Edge) → ((at : ℕ) (instr : LowInstr) (edge : Edge) → slice_get code at ≡ Some instr → slice_get edges at ≡ Some edge → IsRangedInstr instr edge)
    → AreRanged code edges
unfolding AreRanged
all_ranged [] edges each = tt
all_ranged (i ∷ code) [] each = tt
all_ranged (i ∷ code) (edge ∷ edges) each = (each 0 i edge refl refl, all_ranged code edges (λ at instr e a b. each (suc at) instr e a b))

pub code_ranged : (code : Lowered) (fun : LowFun) (labels : List StateType) (edges : List Edge) → length code.table ≤ 65536
    → ((at : ℕ) (instr : LowInstr) → slice_get fun.code at ≡ Some instr → HasNumbers instr) → IsTypedFun code fun labels edges → IsCarriedIn code.table fun.places labels edges
    → AreRanged fun.code edges
code_ranged code fun labels edges few numbers typed carried =
    all_ranged fun.code edges
    (λ at instr edge a b.
    (let h = slice_get_within fun.code at instr a in
    let one_each = typed.one_each in
    let s = present typed.states at (omega (arith, h, one_each)) in
    instr_ranged code.table fun.sig fun.places labels carried.labels_in (setting_of code fun.sig) s.value instr edge _ refl few (numbers at instr a)
    (all_at IsTextedEdge edges at edge carried.edges_in b) (typed.allowed at s.value instr edge s.there a b)))
