-- What is typed as one fragment, from where a function begins, is a typed function.
use Rattle.std.proofs.Common.{◌≡◌, ◌∙◌, ℕ, zero, suc, ◌<◌, ◌≤◌, ◌⊎◌, inl, inr, Bool as Truth, true, false, List, [], ◌∷◌, ◌++◌, length, slice_get, Option, Some, None, refl, sym, ap, subst, arith}
use Rattle.std.specs.Prelude.{◌-◌, ℤ, pos, negsuc, nat_lt, if◌then◌else◌}
use Rattle.std.specs.List.{Contains}
use Rattle.std.proofs.lemmas.Option.{same_Some}
use Rattle.operation_rules.specs.Rules.{Setting}
use Rattle.operation_rules.specs.declared.operation.Operation.{Operation}
use Rattle.operation_rules.specs.declared.operation.Operation.TheVariants as operation
use Rattle.state_types.specs.declared.state.StateType.{StateType}
use Rattle.three_address.specs.Instructions.{Instruction, of_type, of_comparison, of_truth, operation_of, with_places, with_operation, instruction_of}
use Rattle.three_address.specs.Typing.{Allows, Leads, Stops, StandsAgain}
use Rattle.three_address.specs.declared.function.LowFun.{LowFun}
use Rattle.three_address.specs.declared.instruction.LowInstr.{LowInstr}
use Rattle.three_address.specs.declared.instruction.Op22.{Op22}
use Rattle.three_address.specs.declared.instruction.Op22.TheVariants as op
use Rattle.three_address.specs.declared.typed.Edge.{Edge}
use Rattle.xan_seq.proofs.NumberTests.{Order, Lt, Gt, Eq, order}
use Rattle.xanadu_tree.specs.KindRules.{IsAmong}
use Rattle.lowering.specs.CodeBlocks.{stops, InBlocks}
use Rattle.carrier_laws.proofs.ChainsTyped.{Body, Chain, Done, Next, placed}

-- ---- one list for each

pub edges_long : (b : Body) (s t : StateType) (code : List LowInstr) (edges : List Edge) (states : List StateType) → Chain b s code edges states t → length edges ≡ length code
edges_long b s t code edges states (Done _) = refl
edges_long b s t code edges states (Next _ next _ i more e others rest allows later) = ap suc (edges_long b next t more others rest later)

pub states_long : (b : Body) (s t : StateType) (code : List LowInstr) (edges : List Edge) (states : List StateType) → Chain b s code edges states t → length states ≡ length code
states_long b s t code edges states (Done _) = refl
states_long b s t code edges states (Next _ next _ i more e others rest allows later) = ap suc (states_long b next t more others rest later)

-- ---- each instruction in its state

-- the instruction at a place of a chain, and the state behind it
pub record InChain (b : Body) (states : List StateType) (end : StateType) (at : ℕ) (state : StateType) (i : LowInstr) (e : Edge) : Type 0 where
  pub next : StateType
  pub behind : slice_get (states ++ end ∷ []) (suc at) ≡ Some next
  pub allows : Allows b.setting b.count b.labels state (placed b i) e (Some next)

pub in_chain : (b : Body) (s end : StateType) (code : List LowInstr) (edges : List Edge) (states : List StateType) → Chain b s code edges states end
    → (at : ℕ) (state : StateType) (i : LowInstr) (e : Edge) → slice_get states at ≡ Some state → slice_get code at ≡ Some i → slice_get edges at ≡ Some e → InChain b states end at state i e
in_chain b s end code edges states (Done _) at state i e a c d = absurd (let bad : ⊥ = cc in bad)
in_chain b s end code edges states (Next _ next _ j more f others rest allows later) zero state i e a c d =
    (let state_is = same_Some s state a in
    let code_is = same_Some j i c in
    let edge_is = same_Some f e d in
    record {
      next = next;
      behind = first next end more others rest later;
      allows = subst (λ x. Allows b.setting b.count b.labels x (placed b i) e (Some next)) state_is
          (subst (λ x. Allows b.setting b.count b.labels s (placed b x) e (Some next)) code_is (subst (λ x. Allows b.setting b.count b.labels s (placed b j) x (Some next)) edge_is allows));
    })
  where
    first : (s t : StateType) (code : List LowInstr) (edges : List Edge) (states : List StateType) → Chain b s code edges states t → slice_get (states ++ t ∷ []) 0 ≡ Some s
    first s t code edges states (Done _) = refl
    first s t code edges states (Next _ n _ k m f o r allow l) = refl
in_chain b s end code edges states (Next _ next _ j more f others rest allows later) (suc at) state i e a c d =
    (let it = in_chain b next end more others rest later at state i e a c d in record { next = it.next; behind = it.behind; allows = it.allows })

-- ---- the last one

-- one that does not go on is allowed whatever stands behind it
last_by : (st : Setting) (places : ℕ) (labels : List StateType) (state : StateType) (instr : LowInstr) (edge : Edge) (one other : Option StateType) (a : Allows st places labels state instr edge one)
    → Stops a.i.operation → Allows st places labels state instr edge other
last_by st places labels state instr edge one other a stop = record {
  i = a.i;
  is = a.is;
  small = a.small;
  differ = a.differ;
  types = a.types;
  read = a.read;
  ruled = a.ruled;
  by_rule = a.by_rule;
  leads = by_operation a.i.operation stop a.leads;
}
  where
    by_operation : (o : Operation) → Stops o → Leads st.own labels state a.i a.types a.ruled instr.target edge one o
        → Leads st.own labels state a.i a.types a.ruled instr.target edge other o
    by_operation operation.Jump stop leads = leads
    by_operation operation.Return stop leads = leads
    by_operation _ stop leads = absurd stop

-- ---- which operations stop

abbrev is_stop : Operation → Truth
is_stop operation.Jump = true
is_stop operation.Return = true
is_stop _ = false

abbrev AsStops : Op22 → Option Operation → Type 0
AsStops o None = Unit {0}
AsStops o (Some p) = is_stop p ≡ stops o

compared_so : (o : Op22) (p : ℕ → Operation) (number : ℤ) → ((n : ℕ) → is_stop (p n) ≡ stops o) → AsStops o (of_comparison number p)
compared_so o p (pos n) h = by (nat_lt n 4)
  where
    by : (b : Truth) → AsStops o (if b then Some (p n) else None)
    by true = h n
    by false = tt
compared_so o p (negsuc n) h = tt

typed_so : (o : Op22) (p : ℕ → Operation) (number : ℤ) → ((n : ℕ) → is_stop (p n) ≡ stops o) → AsStops o (of_type number p)
typed_so o p (pos n) h = h n
typed_so o p (negsuc n) h = tt

truth_so : (number : ℤ) → AsStops op.Lb (of_truth number)
truth_so (pos zero) = refl
truth_so (pos (suc zero)) = refl
truth_so (pos (suc (suc n))) = tt
truth_so (negsuc n) = tt

kinds_so : (o : Op22) (number : ℤ) (target listed : ℕ) → AsStops o (operation_of o number target listed)
kinds_so op.Li number target listed = refl
kinds_so op.Lb number target listed = truth_so number
kinds_so op.Mv number target listed = refl
kinds_so op.Add number target listed = refl
kinds_so op.Sub number target listed = refl
kinds_so op.Mul number target listed = refl
kinds_so op.Div number target listed = refl
kinds_so op.Mod number target listed = refl
kinds_so op.Set number target listed = compared_so op.Set operation.Compare number (λ n. refl)
kinds_so op.Br number target listed = compared_so op.Br operation.Branch number (λ n. refl)
kinds_so op.Bt number target listed = refl
kinds_so op.Bf number target listed = refl
kinds_so op.Jmp number target listed = refl
kinds_so op.Call number target listed = refl
kinds_so op.Ret number target listed = refl
kinds_so op.Len number target listed = refl
kinds_so op.Ld number target listed = refl
kinds_so op.St number target listed = refl
kinds_so op.New number target listed = typed_so op.New operation.New number (λ n. refl)
kinds_so op.Tup number target listed = typed_so op.Tup operation.Tuple number (λ n. refl)
kinds_so op.Untup number target listed = typed_so op.Untup (λ p. operation.Untuple p (listed - 1)) number (λ n. refl)
kinds_so op.Print number target listed = refl

placed_so : (p : Operation) (places : List ℕ) → (with_places p places).operation ≡ p
placed_so (operation.Untuple number count) places = refl
placed_so p places = refl

found_if : (b : Truth) (j i : Instruction) → (if b then Some j else None) ≡ Some i → j ≡ i
found_if true j i e = same_Some j i e
found_if false j i e = absurd (let bad : ⊥ = cc in bad)

stop_by : (o : Op22) (p : Option Operation) (places : List ℕ) (i : Instruction) → AsStops o p → with_operation p places ≡ Some i → is_stop i.operation ≡ stops o
stop_by o None places i is e = absurd (let bad : ⊥ = cc in bad)
stop_by o (Some p) places i is e = ap is_stop (ap (λ (j : Instruction). j.operation) (sym (found_if _ (with_places p places) i e)) ∙ placed_so p places) ∙ is

pub stop_is : (instr : LowInstr) (i : Instruction) → instruction_of instr ≡ Some i → is_stop i.operation ≡ stops instr.op
unfolding instruction_of
stop_is instr i e = stop_by instr.op _ instr.places i (kinds_so instr.op instr.number instr.target (length instr.places)) e

stops_so : (o : Operation) → is_stop o ≡ true → Stops o
stops_so operation.Jump e = tt
stops_so operation.Return e = tt
stops_so _ e = absurd (let bad : ⊥ = cc in bad)

so_stops : (o : Operation) → Stops o → is_stop o ≡ true
so_stops operation.Jump s = refl
so_stops operation.Return s = refl
so_stops _ s = absurd s

-- ---- a whole function

pub get_last : {A : Type 0} (xs : List A) (x y : A) (k : ℕ) → slice_get (xs ++ x ∷ []) k ≡ Some y → k < length xs → slice_get xs k ≡ Some y
get_last [] x y k e lt = absurd (omega (arith, lt))
get_last (z ∷ xs) x y zero e lt = e
get_last (z ∷ xs) x y (suc k) e lt = get_last xs x y k e (omega (arith, lt))

none_behind : {A : Type 0} (xs : List A) (k : ℕ) → length xs ≤ k → slice_get xs k ≡ None
none_behind [] k le = refl
none_behind (x ∷ xs) zero le = absurd (omega (arith, le))
none_behind (x ∷ xs) (suc k) le = none_behind xs k (omega (arith, le))

below_get : {A : Type 0} (xs : List A) (k : ℕ) (x : A) → slice_get xs k ≡ Some x → k < length xs
below_get [] k x e = absurd (let bad : ⊥ = cc in bad)
below_get (y ∷ xs) zero x e = omega arith
below_get (y ∷ xs) (suc k) x e = (let h = below_get xs k x e in omega (arith, h))

all_get : {A : Type 0} (xs : List A) (k : ℕ) → k < length xs → (x : A) × (slice_get xs k ≡ Some x)
all_get [] k lt = absurd (omega (arith, lt))
all_get (y ∷ xs) zero lt = (y, refl)
all_get (y ∷ xs) (suc k) lt = all_get xs k (omega (arith, lt))

contains : (xs : List ℕ) (x : ℕ) → IsAmong xs x → Contains xs x
contains [] x a = absurd a
contains (y ∷ xs) x (inl h) = (0, omega arith, sym h)
contains (y ∷ xs) x (inr h) = (let it = contains xs x h in let lt = it.1 in (suc it.0, omega (arith, lt), it.2))

module _ (b : Body) (s end : StateType) (source : List LowInstr) (edges : List Edge) (states : List StateType) (chain : Chain b s source edges states end) (code : List LowInstr)
    (there : (k : ℕ) (i : LowInstr) → slice_get source k ≡ Some i → slice_get code k ≡ Some (placed b i)) (long : length code ≡ length source) (labels : List ℕ) (blocks : InBlocks code labels) where
  pub allowed : (at : ℕ) (state : StateType) (instr : LowInstr) (edge : Edge) → slice_get states at ≡ Some state → slice_get code at ≡ Some instr → slice_get edges at ≡ Some edge
      → Allows b.setting b.count b.labels state instr edge (slice_get states (suc at))
  allowed at state instr edge a c d =
      let lt = below_get code at instr c in
      let of = all_get source at (omega (arith, lt, long)) in
      let it = in_chain b s end source edges states chain at state of.0 edge a of.1 d in
      let is : placed b of.0 ≡ instr = same_Some (placed b of.0) instr (sym (there at of.0 of.1) ∙ c) in
      let allows = subst (λ x. Allows b.setting b.count b.labels state x edge (Some it.next)) is it.allows in
      by_place it.next it.behind allows (order (suc at) (length states))
    where
      at_end : (next : StateType) → Allows b.setting b.count b.labels state instr edge (Some next) → length states ≤ suc at → Allows b.setting b.count b.labels state instr edge (slice_get states (suc at))
      at_end next allows le =
          (let last = blocks.last in
          let many = states_long b s end source edges states chain in
          let lt = below_get code at instr c in
          let next_is = last.next in
          let place : last.before ≡ at = omega (arith, next_is, many, long, le, lt) in
          let same = same_Some last.instr instr (sym last.there ∙ ap (λ n. slice_get code n) place ∙ c) in
          let stop = ap (λ (x : LowInstr). stops x.op) (sym same) ∙ last.stops in
          subst (λ o. Allows b.setting b.count b.labels state instr edge o) (sym (none_behind states (suc at) le))
          (last_by b.setting b.count b.labels state instr edge (Some next) None allows (stops_so allows.i.operation (stop_is instr allows.i allows.is ∙ stop))))

      by_place : (next : StateType) → slice_get (states ++ end ∷ []) (suc at) ≡ Some next → Allows b.setting b.count b.labels state instr edge (Some next) → Order (suc at) (length states)
          → Allows b.setting b.count b.labels state instr edge (slice_get states (suc at))
      by_place next behind allows (Lt h) = subst (λ o. Allows b.setting b.count b.labels state instr edge o) (sym (get_last states end next (suc at) behind h)) allows
      by_place next behind allows (Gt h) = at_end next allows (omega (arith, h))
      by_place next behind allows (Eq h) = at_end next allows (omega (arith, h))

  -- behind one that does not go on stands a label, or nothing
  pub again : (fun : LowFun) → fun.code ≡ code → fun.labels ≡ labels → (at : ℕ) → StandsAgain fun states at
  again fun code_is labels_are at = record {
    by = λ instr i c e stop none lt.
        by_behind (blocks.behind at instr (sym (ap (λ xs. slice_get xs at) code_is) ∙ c) (sym (stop_is instr i e) ∙ so_stops i.operation stop)) none lt;
  }
    where
      by_behind : IsAmong labels (suc at) ⊎ (suc at ≡ length code) → (Contains fun.labels (suc at) → ⊥) → suc at < length fun.code → slice_get states (suc at) ≡ slice_get states at
      by_behind (inl h) none lt = absurd (none (subst (λ xs. Contains xs (suc at)) (sym labels_are) (contains labels (suc at) h)))
      by_behind (inr h) none lt = (let same = ap length code_is in absurd (omega (arith, h, lt, same)))
