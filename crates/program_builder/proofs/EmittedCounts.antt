-- How many instructions and conditional branches emission writes for one instruction, and for code.
use Rattle.std.proofs.Common.{◌≡◌, ◌∙◌, ℕ, zero, suc, ◌+◌, ◌<◌, ◌≤◌, ℤ, Bool, true, false, List, [], ◌∷◌, ◌++◌, length, map, take, drop, Option, Some, None, if◌then◌else◌, refl, sym, ap, subst, arith, length-append, take_all}
use Rattle.std.proofs.lemmas.Bool.Decides.{nat_tests}
use Rattle.std.proofs.lemmas.Option.{none-some, same_Some}
use Rattle.std.proofs.lemmas.List.{length-map}
use Rattle.operation_rules.specs.declared.operation.Operation.{Operation}
use Rattle.operation_rules.specs.declared.operation.Operation.TheVariants.{Untuple}
use Rattle.operation_rules.specs.Operations.{needs}
use Rattle.three_address.specs.Instructions.{Instruction, are_enough, with_places, with_operation, operation_of, instruction_of}
use Rattle.three_address.specs.Splits.{parts_of}
use Rattle.three_address.proofs.SplitParts.{parts_in, parts_are}
use Rattle.three_address.specs.declared.instruction.LowInstr.{LowInstr}
use Rattle.three_address.specs.declared.instruction.Op22.{Op22}
use Rattle.three_address.specs.declared.instruction.Op22.TheVariants as low
use Rattle.three_address.specs.declared.typed.Edge.{Edge}
use Rattle.lowering.specs.Lowered.{places_reach, code_reach}
use Rattle.value_lowering.specs.OneInstruction.{one_if}
use Rattle.lowering.specs.TestLeaves as leaves
use Rattle.lowering.specs.TestLeaves.{conditional_branches}
use Rattle.dtal_code.specs.declared.instruction.Instr.{Instr}
use Rattle.dtal_emit.specs.Acting.{takes_places, acting}
use Rattle.dtal_emit.specs.Homes.{home_of, homes_of, is_slot, moved_if, scratch_behind, loads, registers, results, stores, entry_moves}
use Rattle.dtal_emit.specs.Emitted.{by_kind, with_parts, emitted_instr, emitted_all}
use Rattle.emission_laws.specs.ApartHomes.{AreSlots}
use Rattle.emission_laws.specs.EmittedRanges.{Each}
use Rattle.emission_laws.proofs.ActingForms.{are_few}
use Rattle.program_builder.specs.Counts.{is_conditional, code_branches, size_by, code_size}
use Rattle.program_builder.proofs.BuiltFunctions.{HasForm, HaveForms}

-- ---- conditional branches

pub branches_and : (one two : List Instr) → code_branches (one ++ two) ≡ code_branches one + code_branches two
unfolding code_branches
branches_and [] two = omega arith
branches_and (i ∷ one) two = (let rest = branches_and one two in omega (arith, rest))

moved_branches : (b : Bool) (to from : ℕ) → code_branches (moved_if b to from) ≡ 0
unfolding code_branches
moved_branches true to from = refl
moved_branches false to from = refl

loads_branches : (scratch : ℕ) (homes : List ℕ) → code_branches (loads scratch homes) ≡ 0
unfolding code_branches loads
loads_branches scratch [] = refl
loads_branches scratch (home ∷ homes) =
    let both = branches_and (moved_if (is_slot home) scratch home) _ in
    both ∙ (let one = moved_branches (is_slot home) scratch home in let rest = loads_branches (scratch_behind scratch home) homes in omega (arith, one, rest))

stores_branches : (homes : List ℕ) → code_branches (stores homes) ≡ 0
unfolding code_branches
stores_branches [] = refl
stores_branches (home ∷ homes) = moved_branches (is_slot home) home 13

pub entry_branches : (homes : List ℕ) (n : ℕ) → code_branches (entry_moves homes n) ≡ 0
unfolding code_branches entry_moves
entry_branches homes zero = refl
entry_branches homes (suc n) =
    branches_and (entry_moves homes n) _
    ∙ (let one = moved_branches (is_slot (home_of homes n)) (home_of homes n) n in let rest = entry_branches homes n in omega (arith, one, rest))

acting_branches : (o : Op22) (number : ℤ) (target : ℕ) (writes reads : List ℕ) → is_conditional (acting o number target writes reads) ≡ leaves.is_conditional o
acting_branches low.Li number target writes reads = refl
acting_branches low.Lb number target writes reads = refl
acting_branches low.Mv number target writes reads = refl
acting_branches low.Add number target writes reads = refl
acting_branches low.Sub number target writes reads = refl
acting_branches low.Mul number target writes reads = refl
acting_branches low.Div number target writes reads = refl
acting_branches low.Mod number target writes reads = refl
acting_branches low.Set number target writes reads = refl
acting_branches low.Br number target writes reads = refl
acting_branches low.Bt number target writes reads = refl
acting_branches low.Bf number target writes reads = refl
acting_branches low.Jmp number target writes reads = refl
acting_branches low.Call number target writes reads = refl
acting_branches low.Ret number target writes reads = refl
acting_branches low.Len number target writes reads = refl
acting_branches low.Ld number target writes reads = refl
acting_branches low.St number target writes reads = refl
acting_branches low.New number target writes reads = refl
acting_branches low.Tup number target writes reads = refl
acting_branches low.Untup number target writes reads = refl
acting_branches low.Print number target writes reads = refl

kind_branches : (b : Bool) (homes : List ℕ) (i : LowInstr) (edge : Edge) (writes reads : List ℕ)
    → code_branches (by_kind b homes i edge writes reads) ≡ one_if (leaves.is_conditional i.op)
unfolding code_branches
kind_branches true homes i edge writes reads =
    let same = ap one_if (acting_branches i.op i.number i.target writes reads) in omega (arith, same)
kind_branches false homes i edge writes reads =
    let same = ap one_if (acting_branches i.op i.number i.target (results writes) (registers 13 reads)) in
    branches_and (loads 13 reads) _
    ∙ (let front = loads_branches 13 reads in let back = stores_branches writes in omega (arith, same, front, back))

form_emitted : (homes : List ℕ) (i : LowInstr) (edge : Edge) (form : Instruction) → instruction_of i ≡ Some form
    → emitted_instr homes i edge ≡ by_kind (takes_places i.op) homes i edge (homes_of homes form.writes) (homes_of homes form.reads)
unfolding emitted_instr
form_emitted homes i edge form e = ap (with_parts homes i edge) (parts_are i ∙ ap parts_in e)

instr_branches : (homes : List ℕ) (i : LowInstr) (edge : Edge) → HasForm i → code_branches (emitted_instr homes i edge) ≡ one_if (leaves.is_conditional i.op)
instr_branches homes i edge has = ap code_branches (form_emitted homes i edge has.form has.is) ∙ kind_branches (takes_places i.op) homes i edge _ _

pub all_branches : (homes : List ℕ) (code : List LowInstr) (edges : List Edge) → HaveForms code → length edges ≡ length code
    → code_branches (emitted_all homes code edges) ≡ conditional_branches code
unfolding HaveForms emitted_all code_branches conditional_branches
all_branches homes [] edges forms each = refl
all_branches homes (i ∷ code) [] forms each = absurd (omega (arith, each))
all_branches homes (i ∷ code) (edge ∷ edges) forms each =
    let both = branches_and (emitted_instr homes i edge) (emitted_all homes code edges) in
    let one = instr_branches homes i edge forms.0 in
    let rest = all_branches homes code edges forms.1 (omega (arith, each)) in
    omega (arith, both, one, rest)

-- ---- places in slots

reach_take : (n : ℕ) (places : List ℕ) → places_reach (take n places) ≤ places_reach places
unfolding places_reach
reach_take zero places = omega arith
reach_take (suc n) [] = omega arith
reach_take (suc n) (place ∷ places) = (let rest = reach_take n places in omega (arith, rest))

reach_drop : (n : ℕ) (places : List ℕ) → places_reach (drop n places) ≤ places_reach places
unfolding places_reach
reach_drop zero places = omega arith
reach_drop (suc n) [] = omega arith
reach_drop (suc n) (place ∷ places) = (let rest = reach_drop n places in omega (arith, rest))

-- ---- how many instructions

moved_one : (b : Bool) (to from : ℕ) → b ≡ true → length (moved_if b to from) ≡ 1
moved_one true to from e = refl
moved_one false to from e = absurd (let bad : ⊥ = cc in bad)

loads_each : (scratch : ℕ) (homes : List ℕ) → Each (λ home. is_slot home ≡ true) homes → length (loads scratch homes) ≡ length homes
unfolding loads
loads_each scratch [] all = refl
loads_each scratch (home ∷ homes) all =
    length-append (moved_if (is_slot home) scratch home) _
    ∙ (let one = moved_one (is_slot home) scratch home all.0 in let rest = loads_each (scratch_behind scratch home) homes all.1 in omega (arith, one, rest))

stores_each : (homes : List ℕ) → length homes ≤ 1 → Each (λ home. is_slot home ≡ true) homes → length (stores homes) ≡ length homes
stores_each [] few all = refl
stores_each (home ∷ []) few all = moved_one (is_slot home) home 13 all.0
stores_each (home ∷ other ∷ homes) few all = absurd (omega (arith, few))

-- those that are written and those that are read are all places
parts_sum : (o : Operation) (places : List ℕ) → length (with_places o places).writes + length (with_places o places).reads ≡ length places
parts_sum (Untuple number count) places = sum 1 places
  where
    sum : (n : ℕ) (places : List ℕ) → length (drop n places) + length (take n places) ≡ length places
    sum zero places = omega arith
    sum (suc n) [] = refl
    sum (suc n) (place ∷ places) = (let rest = sum n places in omega (arith, rest))
parts_sum o places = sum (needs o).writes places
  where
    sum : (n : ℕ) (places : List ℕ) → length (take n places) + length (drop n places) ≡ length places
    sum zero places = omega arith
    sum (suc n) [] = refl
    sum (suc n) (place ∷ places) = (let rest = sum n places in omega (arith, rest))

-- ... and each of them is one of these
pub record IsPart (places : List ℕ) (form : Instruction) : Type 0 where
  pub sum : length form.writes + length form.reads ≡ length places
  pub writes : places_reach form.writes ≤ places_reach places
  pub reads : places_reach form.reads ≤ places_reach places

with_part : (o : Operation) (places : List ℕ) → IsPart places (with_places o places)
with_part (Untuple number count) places = record { sum = parts_sum (Untuple number count) places; writes = reach_drop 1 places; reads = reach_take 1 places }
with_part o places = record { sum = parts_sum o places; writes = reach_take (needs o).writes places; reads = reach_drop (needs o).writes places }

part_if : (b : Bool) (o : Operation) (places : List ℕ) (form : Instruction) → (if b then Some (with_places o places) else None) ≡ Some form → IsPart places form
part_if true o places form e = subst (IsPart places) (same_Some (with_places o places) form e) (with_part o places)
part_if false o places form e = absurd (none-some form e)

part_of : (o : Option Operation) (places : List ℕ) (form : Instruction) → with_operation o places ≡ Some form → IsPart places form
part_of None places form e = absurd (none-some form e)
part_of (Some o) places form e = part_if (are_enough (needs o).reads (needs o).writes (length places)) o places form e

form_part : (i : LowInstr) (form : Instruction) → instruction_of i ≡ Some form → IsPart i.places form
unfolding instruction_of
form_part i form e = part_of (operation_of i.op i.number i.target (length i.places)) i.places form e

module _ (homes : List ℕ) (count : ℕ) (slots : AreSlots homes count) where
  slot_of : (place : ℕ) → place < count → is_slot (home_of homes place) ≡ true
  slot_of place lt = (let e = slots.each place lt in grind (arith, nat_tests, e))

  slots_of : (places : List ℕ) → places_reach places ≤ count → Each (λ home. is_slot home ≡ true) (map (home_of homes) places)
  unfolding places_reach
  slots_of [] h = tt
  slots_of (place ∷ places) h = (slot_of place (omega (arith, h)), slots_of places (omega (arith, h)))

  kind_size : (b : Bool) (i : LowInstr) (edge : Edge) (form : Instruction) → takes_places i.op ≡ b → instruction_of i ≡ Some form → IsPart i.places form
      → places_reach i.places ≤ count → length form.writes ≤ 8 → length form.reads ≤ 8
      → length (by_kind b homes i edge (homes_of homes form.writes) (homes_of homes form.reads)) ≡ size_by b (length i.places)
  unfolding parts_of
  kind_size true i edge form t e part small written read = refl
  kind_size false i edge form t e part small written read =
      let few = are_few i.op i.number i.places (form.writes, form.reads) t (parts_are i ∙ ap parts_in e) in
      let all_written : take 8 form.writes ≡ form.writes = take_all 8 form.writes written in
      let all_read : take 8 form.reads ≡ form.reads = take_all 8 form.reads read in
      let ws = homes_of homes form.writes in
      let rs = homes_of homes form.reads in
      let many_ws : length ws ≡ length form.writes = length-map _ (home_of homes) ∙ ap length all_written in
      let many_rs : length rs ≡ length form.reads = length-map _ (home_of homes) ∙ ap length all_read in
      let one = few.few_written in
      let w = part.writes in
      let r = part.reads in
      let front = loads_each 13 rs (subst (λ ps. Each (λ home. is_slot home ≡ true) (map (home_of homes) ps)) (sym all_read) (slots_of form.reads (omega (arith, r, small)))) in
      let back = stores_each ws (omega (arith, many_ws, one))
      (subst (λ ps. Each (λ home. is_slot home ≡ true) (map (home_of homes) ps)) (sym all_written) (slots_of form.writes (omega (arith, w, small)))) in
      let all = part.sum in
      length-append (loads 13 rs) _ ∙ omega (arith, front, back, many_ws, many_rs, all)

  instr_size : (i : LowInstr) (edge : Edge) → HasForm i → places_reach i.places ≤ count → length (emitted_instr homes i edge) ≡ size_by (takes_places i.op) (length i.places)
  instr_size i edge has small =
      ap length (form_emitted homes i edge has.form has.is)
      ∙ kind_size (takes_places i.op) i edge has.form refl has.is (form_part i has.form has.is) small has.few_written has.few_read

  pub all_size : (code : List LowInstr) (edges : List Edge) → HaveForms code → length edges ≡ length code → code_reach code ≤ count
      → length (emitted_all homes code edges) ≡ code_size code
  unfolding HaveForms emitted_all code_size code_reach
  all_size [] edges forms each small = refl
  all_size (i ∷ code) [] forms each small = absurd (omega (arith, each))
  all_size (i ∷ code) (edge ∷ edges) forms each small =
      let both = length-append (emitted_instr homes i edge) (emitted_all homes code edges) in
      let one = instr_size i edge forms.0 (omega (arith, small)) in
      let rest = all_size code edges forms.1 (omega (arith, each)) (omega (arith, small)) in
      omega (arith, both, one, rest)

  pub entry_size : (n : ℕ) → n ≤ count → length (entry_moves homes n) ≡ n
  unfolding entry_moves
  entry_size zero h = refl
  entry_size (suc n) h =
      length-append (entry_moves homes n) _
      ∙ (let one = moved_one (is_slot (home_of homes n)) (home_of homes n) n (slot_of n (omega (arith, h))) in let rest = entry_size n (omega (arith, h)) in omega (arith, one, rest))
