-- Typed code with each place in a slot of its own is what emission makes an accepted program of.
use Rattle.std.proofs.Common.{zero, ◌≡◌, ℕ, suc, ◌<◌, Bool, true, false, List, [], ◌∷◌, length, Option, Some, None, nat_lt, if◌then◌else◌, slice_get, refl, sym, subst, arith}
use Rattle.std.specs.List.{All, Contains}
use Rattle.std.proofs.lemmas.Option.{none-some, same_Some, slice_get_within}
use Rattle.std.proofs.lemmas.List.Elements.{All-take, All-drop, All-contains}
use Rattle.state_types.specs.PlaceTypes.{PlacesRise}
use Rattle.state_types.specs.declared.state.StateType.{StateType}
use Rattle.state_types.specs.declared.types.Ty.{Ty}
use Rattle.operation_rules.specs.Operations.{needs}
use Rattle.operation_rules.specs.declared.operation.Operation.{Operation}
use Rattle.operation_rules.specs.declared.operation.Operation.TheVariants.{Untuple}
use Rattle.three_address.specs.Flow.{with_instruction, instruction_at, reads_of, writes_of, reads_at, writes_at}
use Rattle.three_address.specs.Instructions.{Instruction, are_enough, with_places, with_operation, operation_of, instruction_of}
use Rattle.three_address.specs.Typing.{IsTyped, IsTypedFun}
use Rattle.three_address.specs.declared.assignment.Assignment.{Assignment}
use Rattle.three_address.specs.declared.function.LowFun.{LowFun}
use Rattle.three_address.specs.declared.function.Lowered.{Lowered}
use Rattle.three_address.specs.declared.instruction.LowInstr.{LowInstr}
use Rattle.three_address.specs.declared.typed.Edge.{Edge}
use Rattle.three_address.specs.declared.typed.Typed.{Typed}
use Rattle.emission_laws.specs.ApartHomes.{AreSlots}
use Rattle.emission_laws.specs.EmittedRanges.{Each}
use Rattle.emission_laws.specs.FollowedRuns.{main_number}
use Rattle.emission_acceptance.specs.Acceptable.{IsAcceptableAt, AreAcceptable}
use Rattle.emission_acceptance.specs.LabelsApart.{HomesDiffer, IsOwnState}
use Rattle.emission_acceptance.specs.TypesThrough.{AreTypesApart}
use Rattle.emission_acceptance.specs.WellHeaded.{IsWellHeaded}
use Rattle.emission_acceptance.specs.ReadyCode.{IsShortCode}
use Rattle.lowered_acceptance.specs.SlottedCode.{IsOwnLabel, IsSlotted}
use Rattle.emission_acceptance.proofs.CodeReady.{fun_ready}

-- ---- lists

record Present {A : Type 0} (xs : List A) (n : ℕ) : Type 0 where
  value : A
  there : slice_get xs n ≡ Some value

present : {A : Type 0} (xs : List A) (n : ℕ) → n < length xs → Present xs n
present [] n h = absurd (omega (arith, h))
present (x ∷ xs) zero h = record { value = x; there = refl }
present (x ∷ xs) (suc n) h = (let p = present xs n (omega (arith, h)) in record { value = p.value; there = p.there })

-- ---- places of typed code

pub record AreSmall (places : ℕ) (i : Instruction) : Type 0 where
  pub reads : All (λ place. place < places) i.reads
  pub writes : All (λ place. place < places) i.writes

small_parts : (bound : ℕ) (o : Operation) (places : List ℕ) → All (λ place. place < bound) places → AreSmall bound (with_places o places)
small_parts bound (Untuple number count) places all = record { reads = All-take (λ place. place < bound) 1 places all; writes = All-drop (λ place. place < bound) 1 places all }
small_parts bound o places all = record { reads = All-drop (λ place. place < bound) (needs o).writes places all; writes = All-take (λ place. place < bound) (needs o).writes places all }

small_if : (b : Bool) (bound : ℕ) (o : Operation) (places : List ℕ) (i : Instruction) → (if b then Some (with_places o places) else None) ≡ Some i → All (λ place. place < bound) places
    → AreSmall bound i
small_if true bound o places i e all = subst (AreSmall bound) (same_Some (with_places o places) i e) (small_parts bound o places all)
small_if false bound o places i e all = absurd (none-some i e)

small_with : (bound : ℕ) (o : Option Operation) (places : List ℕ) (i : Instruction) → with_operation o places ≡ Some i → All (λ place. place < bound) places → AreSmall bound i
small_with bound None places i e all = absurd (none-some i e)
small_with bound (Some o) places i e all = small_if (are_enough (needs o).reads (needs o).writes (length places)) bound o places i e all

small_form : (bound : ℕ) (instr : LowInstr) (i : Instruction) → instruction_of instr ≡ Some i → All (λ place. place < bound) instr.places → AreSmall bound i
unfolding instruction_of
small_form bound instr i e all = small_with bound (operation_of instr.op instr.number instr.target (length instr.places)) instr.places i e all

nothing : (place : ℕ) → Contains [] place → ⊥
nothing place c = (let h = c.1 in omega (arith, h))

module _ (low : Lowered) (fun : LowFun) (labels : List StateType) (edges : List Edge) (typed : IsTypedFun low fun labels edges) where
  form_small : (at : ℕ) (instr : LowInstr) → slice_get fun.code at ≡ Some instr → (i : Instruction) × (instruction_of instr ≡ Some i) × AreSmall fun.places i
  form_small at instr e =
      let h = slice_get_within fun.code at instr e in
      let one_each = typed.one_each in
      let edge_each = typed.edge_each in
      let s = present typed.states at (omega (arith, h, one_each)) in
      let d = present edges at (omega (arith, h, edge_each)) in
      let a = typed.allowed at s.value instr d.value s.there e d.there in
      (a.i, a.is, small_form fun.places instr a.i a.is a.small)

  abbrev IsAll : Option Instruction → Type 0
  IsAll o = ((place : ℕ) → Contains (reads_of o) place → place < fun.places) × ((place : ℕ) → Contains (writes_of o) place → place < fun.places)

  of_form : (i : Instruction) → AreSmall fun.places i → IsAll (Some i)
  of_form i small = (λ place c. All-contains (λ p. p < fun.places) i.reads place small.reads c, λ place c. All-contains (λ p. p < fun.places) i.writes place small.writes c)

  by_found : (at : ℕ) (found : Option LowInstr) → slice_get fun.code at ≡ found → IsAll (with_instruction found instruction_of)
  by_found at None e = (λ place c. absurd (nothing place c), λ place c. absurd (nothing place c))
  by_found at (Some instr) e = (let f = form_small at instr e in subst IsAll (sym f.1) (of_form f.0 f.2))

  pub reads_small : (at place : ℕ) → Contains (reads_at fun at) place → place < fun.places
  unfolding reads_at instruction_at
  reads_small at place c = (by_found at (slice_get fun.code at) refl).0 place c

  pub writes_small : (at place : ℕ) → Contains (writes_at fun at) place → place < fun.places
  unfolding writes_at instruction_at
  writes_small at place c = (by_found at (slice_get fun.code at) refl).1 place c

-- ---- all functions

places_of : Option LowFun → ℕ
places_of None = 0
places_of (Some fun) = fun.places

-- all places of a function are kept throughout it
pub all_kept : Typed → (number at place : ℕ) → Bool
all_kept typed number at place = nat_lt place (places_of (slice_get typed.low.funs number))

labels_own : (homes : List ℕ) (places : ℕ) (labels : List StateType) → AreSlots homes places
    → ((count : ℕ) (wanted : List (ℕ × Ty)) → AreSlots homes count → PlacesRise 0 wanted → All (λ (x : ℕ × Ty). x.0 < count) wanted → HomesDiffer homes wanted)
    → ((before : ℕ) (label : StateType) → slice_get labels before ≡ Some label → IsOwnLabel places label) → Each (IsOwnState homes) labels
labels_own homes places [] slots differ own = tt
labels_own homes places (label ∷ labels) slots differ own =
    let here = own 0 label refl in
    (record { is_own = here.is_own; differ = differ places label.places slots here.rise here.small }, labels_own homes places labels slots differ (λ before other e. own (suc before) other e))

-- what slots of their own grant
abbrev pub SlotsKeep : Type 0
SlotsKeep = (fun : LowFun) (labels : List StateType) (homes : List ℕ) → AreSlots homes fun.places
    → ((at place : ℕ) → Contains (reads_at fun at) place → place < fun.places) → ((at place : ℕ) → Contains (writes_at fun at) place → place < fun.places)
    → ((before : ℕ) (label : StateType) → slice_get labels before ≡ Some label → All (λ (p : ℕ × Ty). p.0 < fun.places) label.places)
    → AreTypesApart fun labels homes (λ at place. nat_lt place fun.places ≡ true)

abbrev pub SlotsDiffer : Type 0
SlotsDiffer = (homes : List ℕ) (count : ℕ) (wanted : List (ℕ × Ty)) → AreSlots homes count → PlacesRise 0 wanted → All (λ (x : ℕ × Ty). x.0 < count) wanted → HomesDiffer homes wanted

module _ (keep : SlotsKeep) (differ : SlotsDiffer) (typed : Typed) (homes : Assignment) (is : IsTyped typed) (slotted : IsSlotted typed homes) (short : IsShortCode typed.low) where
  fun_acceptable : (number : ℕ) (fun : LowFun) → slice_get typed.low.funs number ≡ Some fun → IsAcceptableAt typed homes number fun (λ at place. all_kept typed number at place ≡ true)
  unfolding all_kept places_of
  fun_acceptable number fun e =
      let h = slice_get_within typed.low.funs number fun e in
      let states_each = is.states_each in
      let edges_each = is.edges_each in
      let labels = present typed.states number (omega (arith, h, states_each)) in
      let edges = present typed.edges number (omega (arith, h, edges_each)) in
      let has = slotted.slots number fun e in
      let t = is.funs number fun labels.value edges.value e labels.there edges.there in
      let apart = keep fun labels.value has.own has.slots (reads_small typed.low fun labels.value edges.value t) (writes_small typed.low fun labels.value edges.value t)
      (λ before label f. (slotted.labels number fun labels.value before label e labels.there f).small) in
      record {
        labels = labels.value;
        edges = edges.value;
        own = has.own;
        labels_there = labels.there;
        edges_there = edges.there;
        homes_there = has.there;
        ready = fun_ready typed.low number fun labels.value edges.value short e t;
        apart = subst (λ o. AreTypesApart fun labels.value has.own (λ at place. nat_lt place (places_of o) ≡ true)) (sym e) apart;
        states = labels_own has.own fun.places labels.value has.slots (differ has.own) (λ before label f. slotted.labels number fun labels.value before label e labels.there f);
      }

  pub acceptable : IsWellHeaded typed.low → main_number typed.low.funs ≡ Some typed.low.main → AreAcceptable typed homes (λ number at place. all_kept typed number at place ≡ true)
  acceptable headed main = record { each = fun_acceptable; headed = headed; main_is = main }
