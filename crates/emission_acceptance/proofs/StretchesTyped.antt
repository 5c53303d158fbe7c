-- The stretch of an instruction is typed where the instruction is: loads, the instruction that acts, stores.
use Rattle.std.proofs.Common.{◌≡◌, ◌≢◌, ◌⊎◌, inl, inr, ℕ, zero, suc, ◌<◌, ◌≤◌, ◌==◌, Bool, true, false, List, [], ◌∷◌, ◌++◌, length, map, Option, Some, Ok, slice_get, if◌then◌else◌, refl, sym, ap, subst, ◌∙◌, arith}
use Rattle.std.specs.List.{All, Contains, list_any}
use Rattle.std.proofs.lemmas.Bool.{cases_lt}
use Rattle.std.proofs.lemmas.Bool.Decides.{nat_tests}
use Rattle.std.proofs.lemmas.List.Elements.{All-head, All-tail}
use Rattle.std.proofs.lemmas.Option.{none-some, same_Some}
use Rattle.std.proofs.lemmas.List.{length-map}
use Rattle.index_sorts.specs.Context.{IndexContext}
use Rattle.state_types.specs.PlaceTypes.{type_at, with_type}
use Rattle.state_types.specs.declared.state.StateType.{StateType}
use Rattle.state_types.specs.declared.types.Ty.{Ty}
use Rattle.operation_rules.specs.Applied.{ruled}
use Rattle.operation_rules.specs.Operations.{needs}
use Rattle.operation_rules.specs.Rules.{Setting}
use Rattle.operation_rules.specs.declared.operation.Operation.{Operation}
use Rattle.operation_rules.specs.declared.operation.Operation.TheVariants.{Branch, BranchTruth, Jump, Return}
use Rattle.three_address.proofs.SplitParts.{parts_in, parts_are}
use Rattle.three_address.specs.Flow.{label_at, ways_from, ways, instruction_at, with_instruction}
use Rattle.three_address.specs.Instructions as places
use Rattle.three_address.specs.Splits.{parts_of}
use Rattle.three_address.specs.Typing.{Allows, GoesTo, Stops, StandsAgain, ruled_in}
use Rattle.three_address.specs.Typing as low_types
use Rattle.three_address.specs.declared.function.LowFun.{LowFun}
use Rattle.three_address.specs.declared.instruction.LowInstr.{LowInstr}
use Rattle.three_address.specs.declared.typed.Edge.{Edge}
use Rattle.dtal_code.specs.Declarations.{state_of}
use Rattle.dtal_code.specs.Instructions.{instruction_in}
use Rattle.dtal_code.specs.Passing as text_types
use Rattle.dtal_code.specs.Passing.{are_different}
use Rattle.dtal_code.specs.declared.instruction.Instr.{Instr}
use Rattle.dtal_code.specs.declared.instruction.Op.TheVariants as op
use Rattle.dtal_emit.specs.Acting.{takes_places, acting}
use Rattle.dtal_emit.specs.Emitted.{emitted_instr, with_edge, over_registers, by_kind, with_parts}
use Rattle.dtal_emit.specs.Homes.{home_of, homes_of, is_slot, alone, moved_if, loads, registers, results, stores}
use Rattle.emission_laws.proofs.ActingForms.{target_for, acts_so, are_few}
use Rattle.emission_laws.proofs.KeptHeap.{kind_of}
use Rattle.emission_laws.proofs.KindsOfInstructions.{kind_by, kind_same, is_going, going_target, is_formed, same_operation, goes_on, on_way, label_way}
use Rattle.emission_laws.proofs.PlacesHeld.{all_homes, contains_first, contains_more}
use Rattle.emission_laws.proofs.PoisedStates.{length_registers, length_results, reads_there, writes_there, ways_there}
use Rattle.emission_laws.specs.ApartHomes.{Kept, IsHome, IsReady}
use Rattle.emission_acceptance.specs.TypesThrough.{AreTyped, Through, AreTypesApart, LabelsPass, Walks, WalkEnds, StretchStands}
use Rattle.emission_acceptance.proofs.ActsTyped.{IsActed, WayPasses, is_silent_kind, going_silent, by_operation, few_vars}
use Rattle.emission_acceptance.proofs.MovesTyped.{walk_joined, walk_one, move_verdict, AreClear, loaded}
use Rattle.emission_acceptance.proofs.RuledCounts.{HaveCells, RuledParts, ruled_parts, types_count, form_writes}
use Rattle.emission_acceptance.proofs.TypesHeld.{type_same, type_other, AreThere, there_found, there_listed, there_alike, AreAside, aside_all, one_aside, write_all}

-- ---- pieces

emitted_is : (homes : List ℕ) (i : LowInstr) (edge : Edge) (form : places.Instruction) → places.instruction_of i ≡ Some form
    → emitted_instr homes i edge ≡ by_kind (takes_places i.op) homes i edge (homes_of homes form.writes) (homes_of homes form.reads)
unfolding emitted_instr
emitted_is homes i edge form e = ap (with_parts homes i edge) (parts_are i ∙ ap parts_in e)

silent_needs : (o : Operation) → is_silent_kind (kind_of o) ≡ true → (needs o).writes ≡ 0
silent_needs (Branch c) e = refl
silent_needs (BranchTruth b) e = refl
silent_needs Jump e = refl
silent_needs Return e = refl
silent_needs o e = absurd (let bad : ⊥ = cc in bad)

none_written : (xs : List ℕ) → length xs ≤ 0 → xs ≡ []
none_written [] h = refl
none_written (x ∷ xs) h = absurd (omega (arith, h))

stops_silent : (o : Operation) → goes_on (kind_of o) ≡ false → is_silent_kind (kind_of o) ≡ true
stops_silent Jump e = refl
stops_silent Return e = refl
stops_silent o e = absurd (let bad : ⊥ = cc in bad)

it_stops : (o : Operation) → goes_on (kind_of o) ≡ false → Stops o
it_stops Jump e = tt
it_stops Return e = tt
it_stops o e = absurd (let bad : ⊥ = cc in bad)

-- at most one place is different from all others
one_differs : (xs : List ℕ) → length xs ≤ 1 → are_different xs ≡ true
unfolding are_different
one_differs [] h = refl
one_differs (x ∷ []) h = refl
one_differs (x ∷ y ∷ xs) h = absurd (omega (arith, h))

unwritten : (ws : List ℕ) (types : List Ty) (now : List (ℕ × Ty)) → ws ≡ [] → text_types.with_types ws types now ≡ now
unfolding text_types.with_types
unwritten ws types now e = ap (λ l. text_types.with_types l types now) e

first_one : (ws : List ℕ) (written : List Ty) (t : Ty) (types : List Ty) (now : List (ℕ × Ty)) → ws ≡ 13 ∷ [] → written ≡ t ∷ types
    → text_types.with_types ws written now ≡ with_type 13 t now
unfolding text_types.with_types
first_one ws written t types now e f = ap (λ l. text_types.with_types l written now) e ∙ ap (λ l. text_types.with_types (13 ∷ []) l now) f

low_one : (writes : List ℕ) (written : List Ty) (place : ℕ) (t : Ty) (types : List Ty) (now : List (ℕ × Ty)) → writes ≡ place ∷ [] → written ≡ t ∷ types
    → low_types.with_types writes written now ≡ with_type place t now
unfolding low_types.with_types
low_one writes written place t types now e f = ap (λ l. low_types.with_types l written now) e ∙ ap (λ l. low_types.with_types (place ∷ []) l now) f

not_scratch : (homes : List ℕ) → ((place : ℕ) → IsHome (home_of homes place)) → (place : ℕ) → 13 ≢ home_of homes place
not_scratch homes are place e = (let h = are place in let l : 13 ≤ home_of homes place = omega (arith, e) in let g = h.low l in absurd (omega (arith, e, g)))

beside : (homes : List ℕ) → ((place : ℕ) → IsHome (home_of homes place)) → (place : ℕ) → (home_of homes place < 13) ⊎ (16 ≤ home_of homes place)
beside homes are place = by_test (cases_lt (home_of homes place) 13)
  where
    by_test : (home_of homes place < 13) ⊎ (13 ≤ home_of homes place) → (home_of homes place < 13) ⊎ (16 ≤ home_of homes place)
    by_test (inl lt) = inl lt
    by_test (inr le) = inr ((are place).low le)

module _ (homes : List ℕ) where
  no_other : (place : ℕ) (others : List ℕ) → All (λ other. place ≢ other) others
      → ((other : ℕ) → Contains others other → place ≢ other → home_of homes place ≢ home_of homes other)
      → list_any (λ h. home_of homes place == h) (map (home_of homes) others) ≡ false
  no_other place [] all differ = refl
  no_other place (other ∷ others) all differ =
      let apart = differ other (contains_first other others) (All-head (λ x. place ≢ x) other others all) in
      let t : home_of homes place == home_of homes other ≡ false = grind (arith, nat_tests, apart) in
      rw t (no_other place others (All-tail (λ x. place ≢ x) other others all) (λ x c d. differ x (contains_more other x others c) d))

  homes_differ : (writes : List ℕ) → places.AreDifferent writes
      → ((one other : ℕ) → Contains writes one → Contains writes other → one ≢ other → home_of homes one ≢ home_of homes other)
      → are_different (map (home_of homes) writes) ≡ true
  unfolding are_different
  homes_differ [] all differ = refl
  homes_differ (place ∷ writes) all differ =
      let first = no_other place writes all.0 (λ other c d. differ place other (contains_first place writes) (contains_more place other writes c) d) in
      let rest = homes_differ writes all.1 (λ one other c d e. differ one other (contains_more place one writes c) (contains_more place other writes d) e) in
      rw first rest

-- ---- a position of a function

module _ (st : Setting) (funs : List LowFun) (fun : LowFun) (labels : List StateType) (edges : List Edge) (states : List StateType) (homes : List ℕ) (kept : Kept) (texts : List StateType)
    (apart : AreTypesApart fun labels homes kept) (pass : LabelsPass st fun labels homes kept texts) (cells : HaveCells st.table) (label_each : length labels ≡ length fun.labels)
    (again : (at : ℕ) → StandsAgain fun states at) where
  module _ (at : ℕ) (low : StateType) (instr : LowInstr) (edge : Edge) (is_there : slice_get fun.code at ≡ Some instr) (edge_there : slice_get edges at ≡ Some edge)
      (state_there : slice_get states at ≡ Some low) (ready : IsReady funs instr) (allows : Allows st fun.places labels low instr edge (slice_get states (suc at))) where
    abbrev form : places.Instruction
    form = allows.i

    abbrev operation : Operation
    operation = form.operation

    abbrev next : Option StateType
    next = slice_get states (suc at)

    -- ---- its form

    few_written : length form.writes ≤ 8
    few_written = subst (λ (x : places.Instruction). length x.writes ≤ 8) (same_Some ready.form form (sym ready.is_form ∙ allows.is)) ready.few_written

    few_read : length form.reads ≤ 8
    few_read = subst (λ (x : places.Instruction). length x.reads ≤ 8) (same_Some ready.form form (sym ready.is_form ∙ allows.is)) ready.few_read

    same_op : operation ≡ (is_formed instr form allows.is).operation
    same_op = (let f = is_formed instr form allows.is in ap (λ (x : places.Instruction). x.operation) f.is_form ∙ same_operation f.operation instr.places)

    is_kind : kind_of operation ≡ kind_by instr.op
    is_kind = (let f = is_formed instr form allows.is in ap kind_of same_op ∙ kind_same instr.op instr.number instr.target (length instr.places) f.operation f.is_operation)

    operation_is : (ws rs : List ℕ) → length ws ≡ length form.writes → length rs ≡ length form.reads
        → instruction_in (acting instr.op instr.number instr.target ws rs) ≡ record { operation = operation; writes = ws; reads = rs; target = target_for instr.op instr.target }
    unfolding parts_of
    operation_is ws rs many as_many =
        let f = is_formed instr form allows.is in
        acts_so (λ label. label) instr.target ws rs instr.places f.operation (form.writes, form.reads) many as_many instr.op instr.number ready.named f.is_operation
        (parts_are instr ∙ ap parts_in allows.is)
        ∙ ap (λ o. record { operation = o; writes = ws; reads = rs; target = target_for instr.op instr.target }) (sym same_op)

    -- ---- what is kept

    all_read : (place : ℕ) → Contains form.reads place → kept at place
    all_read place c = apart.apart.read at place (subst (λ l. Contains l place) (sym (reads_there fun at instr form is_there allows.is)) c)

    stays : (to : ℕ) → Contains (ways_from fun at) to → (place : ℕ) → ¬ (Contains form.writes place) → kept to place → kept at place
    stays to way place out keeps = apart.apart.stays at to place way (λ c. out (subst (λ l. Contains l place) (writes_there fun at instr form is_there allows.is) c)) keeps

    way_on : goes_on (kind_of operation) ≡ true → Contains (ways_from fun at) (suc at)
    way_on e = subst (λ l. Contains l (suc at)) (sym (ways_there fun at instr form is_there allows.is)) (on_way operation at (label_at fun.labels instr.target) e)

    way_to : (to : ℕ) → is_going (kind_of operation) ≡ true → label_at fun.labels instr.target ≡ Some to → Contains (ways_from fun at) to
    way_to to e l =
        subst (λ x. Contains x to) (sym (ways_there fun at instr form is_there allows.is ∙ ap (ways operation at) l)) (label_way operation at to e)

    none_behind : is_silent_kind (kind_of operation) ≡ true → form.writes ≡ []
    none_behind s = (let a = form_writes instr form allows.is in let b = silent_needs operation s in none_written form.writes (omega (arith, a, b)))

    written_apart : goes_on (kind_of operation) ≡ true → (written other : ℕ) → Contains form.writes written → kept (suc at) other → written ≢ other
        → home_of homes written ≢ home_of homes other
    written_apart e written other c keeps differ =
        apart.apart.apart at (suc at) written other (way_on e) (subst (λ l. Contains l written) (sym (writes_there fun at instr form is_there allows.is)) c) keeps differ

    stopped : goes_on (kind_of operation) ≡ false → ¬ (Contains fun.labels (suc at)) → (place : ℕ) → kept (suc at) place → kept at place
    unfolding instruction_at
    stopped e out place keeps =
        apart.again at place form (ap (λ o. with_instruction o places.instruction_of) is_there ∙ allows.is) (it_stops operation e) out keeps

    -- ---- its rule

    rules : ruled st operation (map (λ place. type_at place low.places) form.reads) low.ctx ≡ Ok allows.ruled
    unfolding ruled_in
    rules = allows.by_rule

    parts : RuledParts st operation (map (λ place. type_at place low.places) form.reads) low.ctx allows.ruled
    parts = ruled_parts st operation (map (λ place. type_at place low.places) form.reads) low.ctx allows.ruled rules

    enough : length form.writes ≤ length allows.ruled.types
    enough =
        let a = form_writes instr form allows.is in
        let b = types_count st operation (map (λ place. type_at place low.places) form.reads) low.ctx allows.ruled cells parts in
        omega (arith, a, b)

    few : low.ctx.vars ≤ 1024
    few = (few_vars parts.r low.ctx allows.ruled parts.does).before

    low_there : AreThere low.places form.reads allows.types
    low_there = there_found low.places form.reads allows.types allows.read

    -- ---- ways to labels

    position : (before : ℕ) (label : StateType) → slice_get labels before ≡ Some label → (to : ℕ) × (slice_get fun.labels before ≡ Some to)
    position before label e = by_length labels fun.labels before label e label_each
      where
        by_length : (xs : List StateType) (ys : List ℕ) (n : ℕ) (x : StateType) → slice_get xs n ≡ Some x → length xs ≡ length ys → (y : ℕ) × (slice_get ys n ≡ Some y)
        by_length [] ys n x e same = absurd (none-some x e)
        by_length (a ∷ xs) [] n x e same = absurd (omega (arith, same))
        by_length (a ∷ xs) (y ∷ ys) zero x e same = (y, refl)
        by_length (a ∷ xs) (y ∷ ys) (suc n) x e same = by_length xs ys n x e (omega (arith, same))

    module _ (now : List (ℕ × Ty)) (typed : AreTyped homes (kept at) low.places now) where
      way_passes : is_going (kind_of operation) ≡ true → (ws rs : List ℕ) (taken : IndexContext) → low.ctx.vars ≡ taken.vars
          → GoesTo st.own labels (state_of taken low.places) instr.target edge
          → WayPasses st labels texts homes instr edge form low allows.types allows.ruled next now ws rs (target_for instr.op instr.target) taken
      way_passes going ws rs taken vars goes =
          let p = position goes.before goes.target goes.there in
          let label = pass.each goes.before p.0 goes.target goes.there p.1 in
          let is_label : label_at fun.labels instr.target ≡ Some p.0 = ap (label_at fun.labels) goes.number ∙ p.1 in
          let way = way_to p.0 going is_label in
          let none = none_behind (going_silent (kind_of operation) going) in
          let held : AreTyped homes (kept p.0) low.places now
          = record { typed = λ place t keeps e. typed.typed place t (stays p.0 way place (λ c. nothing place (subst (λ l. Contains l place) none c)) keeps) e } in
          record {
            to = label.target;
            there = ap (text_types.label_at texts) (going_target instr.op instr.target (ap is_going (sym is_kind) ∙ going) ∙ goes.number) ∙ label.there;
            passes = label.passes low.places now low.ctx taken edge vars held goes.reaches;
          }
        where
          nothing : (place : ℕ) → ¬ (Contains [] place)
          nothing place (k, lt, e) = absurd (omega (arith, lt))

      -- ---- the instruction that acts, and stores behind it

      module _ (ws rs : List ℕ) (many : length ws ≡ length form.writes) (as_many : length rs ≡ length form.reads) (there : AreThere now rs allows.types)
          (differ : are_different ws ≡ true) (none : form.writes ≡ [] → ws ≡ []) where
        abbrev Acted : Type 0
        Acted = IsActed st labels texts homes instr edge form low allows.types allows.ruled next now ws rs (target_for instr.op instr.target) operation

        acted : Acted
        acted =
            by_operation st labels texts homes instr edge form low allows.types allows.ruled next now ws rs (target_for instr.op instr.target)
            (operation_is ws rs many as_many) rules allows.read (there_listed low.places form.reads allows.types low_there) there differ enough
            (λ s. (let n = none_behind s in (n, none n))) (λ going taken vars goes. way_passes going ws rs taken vars goes)
            operation refl allows.leads

        -- what stands behind the stores
        record IsStored (code : List Instr) : Type 0 where
          pub befores : List StateType
          pub last : List (ℕ × Ty)
          pub walks : Walks st texts (state_of low.ctx now) (with_edge homes instr edge ws rs ∷ code) befores (state_of acted.ctx last)
          pub on : goes_on (kind_of operation) ≡ true → AreTyped homes (kept (suc at)) (low_types.with_types form.writes acted.written low.places) last
          pub stops : goes_on (kind_of operation) ≡ false → ¬ (Contains fun.labels (suc at)) → AreTyped homes (kept (suc at)) low.places last

        aside : goes_on (kind_of operation) ≡ true → AreAside homes (kept (suc at)) form.writes low.places now
        aside e = record { typed = λ place t keeps out is. typed.typed place t (stays (suc at) (way_on e) place out keeps) is }

        -- places are written at once
        stored_there : ws ≡ map (home_of homes) form.writes → IsStored []
        stored_there same = record {
          befores = state_of low.ctx now ∷ [];
          last = text_types.with_types ws acted.written now;
          walks = walk_one st texts (state_of low.ctx now) (state_of acted.ctx (text_types.with_types ws acted.written now)) (with_edge homes instr edge ws rs) acted.is;
          on = λ e. subst (λ l. AreTyped homes (kept (suc at)) (low_types.with_types form.writes acted.written low.places) (text_types.with_types l acted.written now)) (sym same)
              (write_all homes (kept (suc at)) form.writes acted.written low.places now acted.many (written_apart e) (aside e));
          stops = λ e out. subst (AreTyped homes (kept (suc at)) low.places) (sym (unwritten ws acted.written now (none (none_behind (stops_silent operation e)))))
              (record { typed = λ place t keeps is. typed.typed place t (stopped e out place keeps) is });
        }

        -- what is written goes to the first scratch register, and from there to its slot
        stored_slot : (place : ℕ) → form.writes ≡ place ∷ [] → ws ≡ 13 ∷ [] → IsStored (alone (op.Mv (home_of homes place) 13) ∷ [])
        stored_slot place is wrote = by_types acted.written refl
          where
            slot_held : goes_on (kind_of operation) ≡ true → (t : Ty) (types : List Ty) → acted.written ≡ t ∷ types
                → AreTyped homes (kept (suc at)) (low_types.with_types form.writes acted.written low.places) (with_type (home_of homes place) t (text_types.with_types ws acted.written now))
            slot_held goes t types e =
                let mid = with_type 13 t now in
                let before : AreAside homes (kept (suc at)) (place ∷ []) low.places now = subst (λ l. AreAside homes (kept (suc at)) l low.places now) is (aside goes) in
                let behind : AreAside homes (kept (suc at)) (place ∷ []) low.places mid
                = record { typed = λ other u keeps out f. type_other 13 (home_of homes other) t now (not_scratch homes (apart.apart.homes_are) other) ∙ before.typed other u keeps out f } in
                let held = one_aside homes (kept (suc at)) place [] t low.places mid
                (λ other keeps differ. written_apart goes place other (subst (λ l. Contains l place) (sym is) (contains_first place [])) keeps differ) behind in
                let all = aside_all homes (kept (suc at)) (with_type place t low.places) (with_type (home_of homes place) t mid) held in
                subst (λ l. AreTyped homes (kept (suc at)) l (with_type (home_of homes place) t (text_types.with_types ws acted.written now))) (sym (low_one form.writes acted.written place t types low.places is e))
                (subst (λ l. AreTyped homes (kept (suc at)) (with_type place t low.places) (with_type (home_of homes place) t l)) (sym (first_one ws acted.written t types now wrote e)) all)

            by_types : (types : List Ty) → acted.written ≡ types → IsStored (alone (op.Mv (home_of homes place) 13) ∷ [])
            by_types [] e = (let m = acted.many in let a : length acted.written ≡ 0 = ap length e in let b : length form.writes ≡ 1 = ap length is in absurd (omega (arith, m, a, b)))
            by_types (t ∷ types) e =
                let home = home_of homes place in
                let mid = with_type 13 t now in
                let first = text_types.with_types ws acted.written now in
                let first_is : first ≡ mid = first_one ws acted.written t types now wrote e in
                let moved = move_verdict st texts (state_of acted.ctx first) home 13 t acted.few (ap (type_at 13) first_is ∙ type_same 13 t now) in
                let last = with_type home t first in
                record {
                  befores = state_of low.ctx now ∷ state_of acted.ctx first ∷ [];
                  last = last;
                  walks = walk_joined st texts (state_of low.ctx now) (state_of acted.ctx first) (state_of acted.ctx last) (with_edge homes instr edge ws rs ∷ [])
                      (alone (op.Mv home 13) ∷ []) (state_of low.ctx now ∷ []) (state_of acted.ctx first ∷ [])
                      (walk_one st texts (state_of low.ctx now) (state_of acted.ctx first) (with_edge homes instr edge ws rs) acted.is)
                      (walk_one st texts (state_of acted.ctx first) (state_of acted.ctx last) (alone (op.Mv home 13)) moved);
                  on = λ goes. slot_held goes t types e;
                  stops = λ stop out. absurd (let n = none_behind (stops_silent operation stop) in let b : length form.writes ≡ 1 = ap length is in let a : length form.writes ≡ 0 = ap length n in let no : ⊥ = omega (arith, a, b) in no);
                }

        -- over registers, by what is written
        Stored : Type 0
        Stored = IsStored (stores (map (home_of homes) form.writes))

        register_stored : ws ≡ map (home_of homes) form.writes → stores (map (home_of homes) form.writes) ≡ [] → Stored
        unfolding Stored
        register_stored same none_there = subst IsStored (sym none_there) (stored_there same)

        one_stored : (place : ℕ) → form.writes ≡ place ∷ [] → ws ≡ results (map (home_of homes) form.writes) → (slot : Bool) → is_slot (home_of homes place) ≡ slot → Stored
        unfolding Stored
        one_stored place e same true s =
            let stores_are : stores (map (home_of homes) form.writes) ≡ alone (op.Mv (home_of homes place) 13) ∷ []
            = ap (λ l. stores (map (home_of homes) l)) e ∙ ap (λ k. moved_if k (home_of homes place) 13) s in
            let ws_are : ws ≡ 13 ∷ [] = same ∙ ap (λ l. results (map (home_of homes) l)) e ∙ ap (λ k. (if k then 13 else home_of homes place) ∷ []) s in
            subst IsStored (sym stores_are) (stored_slot place e ws_are)
        one_stored place e same false s =
            register_stored (same ∙ ap (λ l. results (map (home_of homes) l)) e ∙ ap (λ k. (if k then 13 else home_of homes place) ∷ []) s ∙ ap (map (home_of homes)) (sym e))
            (ap (λ l. stores (map (home_of homes) l)) e ∙ ap (λ k. moved_if k (home_of homes place) 13) s)

        stored_by : (writes : List ℕ) → form.writes ≡ writes → length form.writes ≤ 1 → ws ≡ results (map (home_of homes) form.writes) → Stored
        stored_by [] e few_w same =
            register_stored (same ∙ ap (λ l. results (map (home_of homes) l)) e ∙ ap (map (home_of homes)) (sym e)) (ap (λ l. stores (map (home_of homes) l)) e)
        stored_by (place ∷ []) e few_w same = one_stored place e same (is_slot (home_of homes place)) refl
        stored_by (x ∷ y ∷ writes) e few_w same = (let l : length form.writes ≡ suc (suc (length writes)) = ap length e in absurd (omega (arith, l, few_w)))

        stored_so : (writes : List ℕ) → form.writes ≡ writes → length form.writes ≤ 1 → ws ≡ results (map (home_of homes) form.writes)
            → IsStored (stores (map (home_of homes) form.writes))
        unfolding Stored
        stored_so writes e few_w same = stored_by writes e few_w same

        -- behind it, in the same block
        through : (last : List (ℕ × Ty)) → (goes_on (kind_of operation) ≡ true → AreTyped homes (kept (suc at)) (low_types.with_types form.writes acted.written low.places) last)
            → (goes_on (kind_of operation) ≡ false → ¬ (Contains fun.labels (suc at)) → AreTyped homes (kept (suc at)) low.places last)
            → suc at < length fun.code → ¬ (Contains fun.labels (suc at)) → (behind : StateType) → slice_get states (suc at) ≡ Some behind
            → Through homes (kept (suc at)) behind (state_of acted.ctx last)
        through last on stops within out behind e = by_kind_of (goes_on (kind_of operation)) refl
          where
            by_kind_of : (b : Bool) → goes_on (kind_of operation) ≡ b → Through homes (kept (suc at)) behind (state_of acted.ctx last)
            by_kind_of true g =
                let same = same_Some (state_of acted.ctx (low_types.with_types form.writes acted.written low.places)) behind (sym (acted.on g) ∙ e) in
                subst (λ s. Through homes (kept (suc at)) s (state_of acted.ctx last)) same (record { ctx = refl; places = on g })
            by_kind_of false g =
                let back = (again at).by instr form is_there allows.is (it_stops operation g) out within in
                let same = same_Some low behind (sym state_there ∙ sym back ∙ e) in
                subst (λ s. Through homes (kept (suc at)) s (state_of acted.ctx last)) same (record { ctx = acted.stops g; places = stops g out })

        -- behind moves to scratch registers
        made : (start : List (ℕ × Ty)) (front : List Instr) (befores : List StateType) → Walks st texts (state_of low.ctx start) front befores (state_of low.ctx now)
            → (code : List Instr) → IsStored code → StretchStands st fun states homes kept texts at (front ++ (with_edge homes instr edge ws rs ∷ code)) (state_of low.ctx start)
        made start front befores walk code stored = record {
          befores = befores ++ stored.befores;
          last = state_of acted.ctx stored.last;
          walks = walk_joined st texts (state_of low.ctx start) (state_of low.ctx now) (state_of acted.ctx stored.last) front (with_edge homes instr edge ws rs ∷ code) befores stored.befores
              walk stored.walks;
          through = through stored.last stored.on stored.stops;
        }

    -- ---- both ways

    module _ (now : List (ℕ × Ty)) (typed : AreTyped homes (kept at) low.places now) where
      abbrev Stretch : List Instr → Type 0
      Stretch code = StretchStands st fun states homes kept texts at code (state_of low.ctx now)

      text_there : AreThere now (map (home_of homes) form.reads) allows.types
      text_there = there_alike homes (kept at) low.places now form.reads allows.types typed all_read low_there

      -- places are taken as they are
      places_stand : takes_places instr.op ≡ true → Stretch (emitted_instr homes instr edge)
      places_stand t =
          let ws = map (home_of homes) form.writes in
          let rs = map (home_of homes) form.reads in
          let is : emitted_instr homes instr edge ≡ with_edge homes instr edge ws rs ∷ []
          = emitted_is homes instr edge form allows.is
          ∙ ap (λ k. by_kind k homes instr edge (homes_of homes form.writes) (homes_of homes form.reads)) t
          ∙ ap (λ l. with_edge homes instr edge l (homes_of homes form.reads) ∷ []) (all_homes homes form.writes few_written)
          ∙ ap (λ l. with_edge homes instr edge ws l ∷ []) (all_homes homes form.reads few_read) in
          let many = length-map form.writes (home_of homes) in
          let as_many = length-map form.reads (home_of homes) in
          let differ = homes_differ homes form.writes allows.differ (λ one other c d. apart.differ at one other
          (subst (λ l. Contains l one) (sym (writes_there fun at instr form is_there allows.is)) c) (subst (λ l. Contains l other) (sym (writes_there fun at instr form is_there allows.is)) d)) in
          let none : form.writes ≡ [] → ws ≡ [] = λ e. ap (map (home_of homes)) e in
          subst Stretch (sym is)
          (made now typed ws rs many as_many text_there differ none now [] [] (WalkEnds (state_of low.ctx now)) [] (stored_there now typed ws rs many as_many text_there differ none refl))

      -- ---- over registers

      clear : (ps : List ℕ) → AreClear (map (home_of homes) ps)
      clear [] = tt
      clear (p ∷ ps) = ((apart.apart.homes_are p).low, clear ps)

      registers_stand : takes_places instr.op ≡ false → Stretch (emitted_instr homes instr edge)
      unfolding parts_of
      registers_stand t =
          let counts = are_few instr.op instr.number instr.places (form.writes, form.reads) t (parts_are instr ∙ ap parts_in allows.is) in
          let few_r = counts.few_read in
          let few_w = counts.few_written in
          let hs = map (home_of homes) form.reads in
          let vs = map (home_of homes) form.writes in
          let hs_many = length-map form.reads (home_of homes) in
          let vs_many = length-map form.writes (home_of homes) in
          let l = loaded st texts low.ctx few 13 hs allows.types now (omega arith) (omega (arith, few_r, hs_many)) (clear form.reads) text_there in
          let rs = registers 13 hs in
          let ws = results vs in
          let typed_loaded : AreTyped homes (kept at) low.places l.last
          = record { typed = λ place u keeps e. l.same (home_of homes place) (beside homes (apart.apart.homes_are) place) ∙ typed.typed place u keeps e } in
          let many : length ws ≡ length form.writes = length_results vs (omega (arith, few_w, vs_many)) ∙ vs_many in
          let as_many : length rs ≡ length form.reads = length_registers hs 13 ∙ hs_many in
          let differ : are_different ws ≡ true = one_differs ws (omega (arith, many, few_w)) in
          let none : form.writes ≡ [] → ws ≡ [] = λ e. ap (λ x. results (map (home_of homes) x)) e in
          let is : emitted_instr homes instr edge ≡ loads 13 hs ++ (with_edge homes instr edge ws rs ∷ stores vs)
          = emitted_is homes instr edge form allows.is
          ∙ ap (λ k. by_kind k homes instr edge (homes_of homes form.writes) (homes_of homes form.reads)) t
          ∙ ap (λ x. over_registers homes instr edge x (homes_of homes form.reads)) (all_homes homes form.writes few_written)
          ∙ ap (λ x. over_registers homes instr edge vs x) (all_homes homes form.reads few_read) in
          subst Stretch (sym is)
          (made l.last typed_loaded ws rs many as_many l.there differ none now (loads 13 hs) l.befores l.walks (stores vs)
          (stored_so l.last typed_loaded ws rs many as_many l.there differ none form.writes refl few_w refl))

    pub stands : (text : StateType) → Through homes (kept at) low text → StretchStands st fun states homes kept texts at (emitted_instr homes instr edge) text
    stands text through = subst (λ c. StretchStands st fun states homes kept texts at (emitted_instr homes instr edge) (state_of c text.places)) (sym through.ctx) (by_places (takes_places instr.op) refl)
      where
        by_places : (k : Bool) → takes_places instr.op ≡ k → StretchStands st fun states homes kept texts at (emitted_instr homes instr edge) (state_of low.ctx text.places)
        by_places true t = places_stand text.places through.places t
        by_places false t = registers_stand text.places through.places t
