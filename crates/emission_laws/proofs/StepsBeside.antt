-- A step of the code over places, and the steps of the emitted program beside it.
use Rattle.std.proofs.Common.{◌≡◌, ℕ, zero, suc, ◌<◌, ◌≤◌, ℤ, Bool, true, false, List, [], ◌∷◌, length, map, Option, Some, None, nat_lt, slice_get, slice_set, if◌then◌else◌, refl, sym, ap, subst, ◌∙◌, arith}
use Rattle.std.specs.List.{Contains}
use Rattle.std.proofs.lemmas.Bool.Decides.{nat_tests}
use Rattle.std.proofs.lemmas.Option.{none-some, same_Some}
use Rattle.xan_io.specs.Outcome.{Returned, NoStore, Stuck}
use Rattle.operation_rules.specs.Effects.{Effect, Writes, Prints, Takes, Calls, Gives, Ends, effect}
use Rattle.operation_rules.specs.FlatWords.{Flat, flat_words}
use Rattle.operation_rules.specs.declared.operation.Operation.{Operation}
use Rattle.operation_rules.specs.declared.operation.Operation.TheVariants.{Call}
use Rattle.three_address.specs.Flow.{ways_from, ways, label_at}
use Rattle.three_address.specs.Instructions as places
use Rattle.three_address.specs.Machine as low
use Rattle.three_address.specs.declared.function.LowFun.{LowFun}
use Rattle.three_address.specs.declared.instruction.LowInstr.{LowInstr}
use Rattle.dtal_code.specs.Instructions.{Instruction}
use Rattle.dtal_code.specs.Machine as text
use Rattle.dtal_code.specs.Machine.{Activation, State, On, Off}
use Rattle.dtal_code.specs.ObjectCode.{Code}
use Rattle.dtal_code.specs.Running as run
use Rattle.dtal_code.specs.Running.{step, words_in, with_words}
use Rattle.dtal_emit.specs.Homes.{home_of}
use Rattle.dtal_emit.proofs.WordMoves.{Leads}
use Rattle.dtal_safety.proofs.Lookups.{within_there}
use Rattle.emission_laws.specs.ApartHomes.{IsReady}
use Rattle.emission_laws.proofs.ActingForms.{target_for}
use Rattle.emission_laws.proofs.KeptHeap.{Kind, Onward, Printing, Branching, Leaping, Calling, kind_of, IsAbout, effect_about}
use Rattle.emission_laws.proofs.KindsOfInstructions.{kind_by, kind_same, is_going, is_calling, is_silent, goes_on, going_target, silent_writes, on_way, label_way, is_formed, same_operation}
use Rattle.emission_laws.proofs.PlacesHeld.{AreHeld, one_aside, aside_all, contains_first, contains_none}
use Rattle.emission_laws.proofs.PoisedStates.{IsPoised, poised, ways_there, writes_there}
use Rattle.emission_laws.proofs.RunsBeside.{stretch_at, Stands, IsWaiting, Callers, Nobody, Caller, low_state, text_state, Beside, Reaches, reaches_step, leads_reaches, reaches_leads, finishes_step, leads_finishes, GoesOn, DoesSo}

get_bound : {A : Type 0} (xs : List A) (n : ℕ) (x : A) → slice_get xs n ≡ Some x → n < length xs
get_bound [] n x e = absurd (none-some x e)
get_bound (y ∷ xs) zero x e = omega arith
get_bound (y ∷ xs) (suc n) x e = (let r = get_bound xs n x e in omega (arith, r))

module _ (code : Code) (funs : List LowFun) (kept : (fun at place : ℕ) → Type 0)
    -- every function's instructions stand in the object code, and a new activation comes to its first stretch
    (begins : (number : ℕ) (fun : LowFun) → slice_get funs number ≡ Some fun → Stands code funs kept number fun) where
  abbrev Texts : Flat → ℕ → List Activation → State
  Texts store depth bs = text_state code funs kept store depth bs

  abbrev Lows : Flat → ℕ → List low.Activation → low.State
  Lows store depth cs = low_state code funs kept store depth cs

  calls_are : (o : Operation) (words : List ℤ) (store : Flat) (number : ℕ) (given : List ℤ) → is_calling (kind_of o) ≡ true → effect flat_words o words store ≡ Calls number given
      → (o ≡ Call number) × (words ≡ given)
  calls_are (Call fun) words store number given k e = (let f : fun ≡ number = cc in ap Call f, (let w : words ≡ given = cc in w))
  calls_are _ words store number given k e = absurd (let bad : ⊥ = cc in bad)

  -- ---- what an effect says of the kind

  written_kind : (heap : ℕ) (words : List ℤ) (new : Flat) (k : Kind) → IsAbout heap (Writes words new) k → (goes_on k ≡ true) × (new.heap ≡ heap)
  written_kind heap words new Onward h = (refl, h)
  written_kind heap words new _ h = absurd h

  printed_kind : (heap : ℕ) (number : ℤ) (k : Kind) → IsAbout heap (Prints number) k → (goes_on k ≡ true) × (is_silent k ≡ true)
  printed_kind heap number Printing h = (refl, refl)
  printed_kind heap number _ h = absurd h

  passed_kind : (heap : ℕ) (k : Kind) → IsAbout heap (Takes false) k → (goes_on k ≡ true) × (is_silent k ≡ true)
  passed_kind heap Branching h = (refl, refl)
  passed_kind heap _ h = absurd h

  taken_kind : (heap : ℕ) (k : Kind) → IsAbout heap (Takes true) k → (is_going k ≡ true) × (is_silent k ≡ true)
  taken_kind heap Branching h = (refl, refl)
  taken_kind heap Leaping h = (refl, refl)
  taken_kind heap _ h = absurd h

  called_kind : (heap : ℕ) (number : ℕ) (words : List ℤ) (k : Kind) → IsAbout heap (Calls number words) k → (is_calling k ≡ true) × (goes_on k ≡ true)
  called_kind heap number words Calling h = (refl, refl)
  called_kind heap number words _ h = absurd h

  -- ---- one instruction that has its words

  -- a new activation comes through the moves of its parameters
  pub record Enters (store : Flat) (depth number start : ℕ) (given : List ℤ) (result : Option ℕ) (bs : List Activation) (fun : LowFun) (stands : Stands code funs kept number fun) : Type 0 where
    pub places : List ℤ
    pub leads : Leads code (Texts store depth (run.first_activation start given result ∷ bs))
        (Texts store depth (record { at = stretch_at stands.start stands.homes fun stands.edges 0; places = places; result_to = result } ∷ bs))
    pub held : AreHeld stands.homes (kept number 0) (low.places_of given) places

  module _ (enters : (store : Flat) (depth number : ℕ) (given : List ℤ) (result : Option ℕ) (bs : List Activation) (fun : LowFun) (stands : Stands code funs kept number fun)
      → length given ≤ length fun.sig.params → Enters store depth number stands.start given result bs fun stands)
      (jumps_there : (number to : ℕ) (fun : LowFun) (stands : Stands code funs kept number fun) → to < length fun.code → stretch_at stands.start stands.homes fun stands.edges to < length code.ops) where
    module _ (store : Flat) (depth : ℕ) (a : low.Activation) (cs : List low.Activation) (b : Activation) (bs : List Activation) (beside : Beside code funs kept a cs b bs)
        (fun : LowFun) (is_fun : slice_get funs a.fun ≡ Some fun) (stands : Stands code funs kept a.fun fun)
        (i : LowInstr) (form : places.Instruction) (found : List ℤ) (is_there : slice_get fun.code a.at ≡ Some i) (is_form : places.instruction_of i ≡ Some form) (ready : IsReady funs i)
        (same_form : ready.form ≡ form) (count_is : length found ≡ length form.reads)
        (p : IsPoised code funs kept store depth a.fun a.at a.places b bs fun stands i form found) where
      abbrev b1 : Activation
      b1 = record b { at = p.here; places = p.places }

      abbrev t1 : State
      t1 = Texts store depth (b1 ∷ bs)

      abbrev from : State
      from = Texts store depth (b ∷ bs)

      abbrev label : Option ℕ
      label = label_at fun.labels i.target

      abbrev over : Instruction
      over = record { operation = form.operation; writes = p.ws; reads = p.rs; target = target_for i.op (stands.at_label i.target) }

      abbrev kind : Kind
      kind = kind_of form.operation

      way_on : goes_on kind ≡ true → Contains (ways_from fun a.at) (suc a.at)
      way_on k = subst (λ l. Contains l (suc a.at)) (sym (ways_there fun a.at i form is_there is_form)) (on_way form.operation a.at label k)

      way_to : (to : ℕ) → label ≡ Some to → is_going kind ≡ true → Contains (ways_from fun a.at) to
      way_to to e k = subst (λ l. Contains l to) (sym (ways_there fun a.at i form is_there is_form)) (subst (λ o. Contains (ways form.operation a.at o) to) (sym e) (label_way form.operation a.at to k))

      none_written : is_silent kind ≡ true → form.writes ≡ []
      none_written k =
          let f = is_formed i form is_form in
          let same : form.operation ≡ f.operation = ap (λ (x : places.Instruction). x.operation) f.is_form ∙ same_operation f.operation i.places in
          ap (λ (x : places.Instruction). x.writes) f.is_form ∙ silent_writes f.operation i.places (ap (λ o. is_silent (kind_of o)) (sym same) ∙ k)

      kind_is : kind ≡ kind_by i.op
      kind_is =
          let f = is_formed i form is_form in
          let same : form.operation ≡ f.operation = ap (λ (x : places.Instruction). x.operation) f.is_form ∙ same_operation f.operation i.places in
          ap kind_of same ∙ kind_same i.op i.number i.target (length i.places) f.operation f.is_operation

      -- places stay as they are
      still : is_silent kind ≡ true → (next : ℕ) → Contains (ways_from fun a.at) next → AreHeld stands.homes (kept a.fun next) a.places p.places
      still k next way = record {
        as_many = p.held.as_many;
        held = λ place word keeps e. p.held.held place word
            (stands.apart.stays a.at next place way (λ c. contains_none place (subst (λ l. Contains l place) (writes_there fun a.at i form is_there is_form ∙ none_written k) c)) keeps) e;
      }

      -- the activation goes on elsewhere with the same callers
      goes : (new : Flat) (out : Option ℤ) (next : ℕ) (low_places places : List ℤ) → AreHeld stands.homes (kept a.fun next) low_places places
          → Reaches code funs kept t1 out (Texts new depth (record b { at = stretch_at stands.start stands.homes fun stands.edges next; places = places } ∷ bs))
          → GoesOn code funs kept out (Lows new depth (low.moved a next low_places ∷ cs)) from
      goes new out next low_places places held reaches = record {
        store = new;
        depth = depth;
        a = low.moved a next low_places;
        cs = cs;
        b = record b { at = stretch_at stands.start stands.homes fun stands.edges next; places = places };
        bs = bs;
        is_next = refl;
        reaches = leads_reaches code funs kept from t1 out _ p.leads reaches;
        beside = record {
          top = record { fun = fun; is_fun = is_fun; stands = stands; here = refl; held = held };
          callers = beside.callers;
          as_many = beside.as_many;
        };
      }

      writes_beside : (words : List ℤ) (new : Flat) (o : Option (List ℤ)) → IsAbout store.heap (Writes words new) kind → step code t1 ≡ run.acts code t1 b1 bs over (Writes words new)
          → low.with_words a.places form.writes words ≡ o → DoesSo code funs kept from (low.goes_with (record (Lows store depth (a ∷ cs)) { store = new }) a cs o)
      writes_beside words new None about e f = λ h. absurd (h refl)
      writes_beside words new (Some low_places) about e f =
          let k = written_kind store.heap words new kind about in
          let q = p.puts (way_on k.0) words low_places f in
          let mid = Texts new depth (record b { at = suc p.here; places = q.first } ∷ bs) in
          let stepped : step code t1 ≡ On None mid
          = e ∙ ap (run.goes_with (record t1 { words = new.words }) b1 bs) q.is_first
          ∙ ap (λ heap. On None (record { words = new.words; heap = heap; depth = depth; activations = record b { at = suc p.here; places = q.first } ∷ bs })) (sym k.1) in
          goes new None (suc a.at) low_places q.last q.held (reaches_leads code funs kept t1 mid None _ (reaches_step code funs kept t1 None mid stepped) (q.leads new))

      on_beside : (out : Option ℤ) → goes_on kind ≡ true → is_silent kind ≡ true → step code t1 ≡ text.goes_on t1 b1 bs out b1.places
          → DoesSo code funs kept from (low.goes_on (Lows store depth (a ∷ cs)) a cs out a.places)
      on_beside out on silent e =
          let stepped : step code t1 ≡ On out (Texts store depth (record b { at = stretch_at stands.start stands.homes fun stands.edges (suc a.at); places = p.places } ∷ bs))
          = e ∙ ap (λ n. On out (Texts store depth (record b { at = n; places = p.places } ∷ bs))) (p.silent (none_written silent)) in
          goes store out (suc a.at) a.places p.places (still silent (suc a.at) (way_on on)) (reaches_step code funs kept t1 out _ stepped)

      jumps_beside : (o : Option ℕ) → label ≡ o → is_going kind ≡ true → is_silent kind ≡ true → step code t1 ≡ run.jumps code t1 b1 bs over.target
          → DoesSo code funs kept from (low.jumps (Lows store depth (a ∷ cs)) a cs o)
      jumps_beside None f going silent e = λ h. absurd (h refl)
      jumps_beside (Some to) f going silent e =
          let there = jumps_there a.fun to fun stands (stands.ready.within i.target to f) in
          let target_is : over.target ≡ stretch_at stands.start stands.homes fun stands.edges to
          = going_target i.op (stands.at_label i.target) (ap is_going (sym kind_is) ∙ going) ∙ stands.labelled i.target to f in
          let fits : nat_lt (stretch_at stands.start stands.homes fun stands.edges to) (length code.ops) ≡ true = grind (arith, nat_tests, there) in
          let stepped : step code t1 ≡ On None (Texts store depth (record b { at = stretch_at stands.start stands.homes fun stands.edges to; places = p.places } ∷ bs))
          = e ∙ ap (run.jumps code t1 b1 bs) target_is
          ∙ ap (λ t. if t then On None (Texts store depth (record b { at = stretch_at stands.start stands.homes fun stands.edges to; places = p.places } ∷ bs)) else Off Stuck) fits in
          goes store None to a.places p.places (still silent to (way_to to f going)) (reaches_step code funs kept t1 None _ stepped)

      -- ---- a call

      waits : (place : ℕ) → form.writes ≡ place ∷ [] → goes_on kind ≡ true → suc p.here ≡ stretch_at stands.start stands.homes fun stands.edges (suc a.at)
          → IsWaiting code funs kept place (home_of stands.homes place) a b1
      waits place w on next =
          let written : ways_from fun a.at ≡ ways_from fun a.at = refl in
          let writes_are = writes_there fun a.at i form is_there is_form ∙ w in
          record {
            fun = fun;
            is_fun = is_fun;
            stands = stands;
            next = next;
            home_is = refl;
            aside = record {
              as_many = p.held.as_many;
              held = λ other word keeps out e. p.held.held other word (stands.apart.stays a.at (suc a.at) other (way_on on) (λ c. out (subst (λ l. Contains l other) writes_are c)) keeps) e;
            };
            apart = λ other keeps differ. stands.apart.apart a.at (suc a.at) place other (way_on on) (subst (λ l. Contains l place) (sym writes_are) (contains_first place [])) keeps differ;
          }

      begins_if : (t : Bool) (number place : ℕ) (given : List ℤ) (callee : LowFun) (callee_stands : Stands code funs kept number callee) → slice_get funs number ≡ Some callee
          → length given ≤ length callee.sig.params → IsWaiting code funs kept place (home_of stands.homes place) a b1
          → step code t1 ≡ (if t then On None (Texts store depth (run.first_activation callee_stands.start given (Some (home_of stands.homes place)) ∷ b1 ∷ bs)) else Off NoStore)
          → DoesSo code funs kept from (if t then low.On None (Lows store depth (record { fun = number; at = 0; places = low.places_of given; result_to = Some place } ∷ a ∷ cs)) else low.Off NoStore)
      begins_if false number place given callee callee_stands is_callee few waiting e =
          λ h. leads_finishes code funs kept from t1 NoStore p.leads (finishes_step code funs kept t1 NoStore e)
      begins_if true number place given callee callee_stands is_callee few waiting e =
          let entered = enters store depth number given (Some (home_of stands.homes place)) (b1 ∷ bs) callee callee_stands few in
          let mid = Texts store depth (run.first_activation callee_stands.start given (Some (home_of stands.homes place)) ∷ b1 ∷ bs) in
          let many = beside.as_many in
          record {
            store = store;
            depth = depth;
            a = record { fun = number; at = 0; places = low.places_of given; result_to = Some place };
            cs = a ∷ cs;
            b = record { at = stretch_at callee_stands.start callee_stands.homes callee callee_stands.edges 0; places = entered.places; result_to = Some (home_of stands.homes place) };
            bs = b1 ∷ bs;
            is_next = refl;
            reaches = leads_reaches code funs kept from t1 None _ p.leads (reaches_leads code funs kept t1 mid None _ (reaches_step code funs kept t1 None mid e) entered.leads);
            beside = record {
              top = record { fun = callee; is_fun = is_callee; stands = callee_stands; here = refl; held = entered.held };
              callers = Caller place (home_of stands.homes place) a b1 cs bs waiting beside.callers;
              as_many = ap suc many;
            };
          }

      calls_writes : (writes : List ℕ) (number : ℕ) (given : List ℤ) (callee : LowFun) → form.writes ≡ writes → slice_get funs number ≡ Some callee
          → is_calling kind ≡ true → goes_on kind ≡ true → length given ≤ length callee.sig.params
          → step code t1 ≡ run.begins t1 (b1 ∷ bs) (slice_get code.starts number) p.ws given
          → DoesSo code funs kept from (low.begins (Lows store depth (a ∷ cs)) (a ∷ cs) number (Some callee) writes given)
      calls_writes [] number given callee w is_callee calling on few e = λ h. absurd (h refl)
      calls_writes (place ∷ q ∷ writes) number given callee w is_callee calling on few e = λ h. absurd (h refl)
      calls_writes (place ∷ []) number given callee w is_callee calling on few e =
          let callee_stands = begins number callee is_callee in
          let c = p.calls calling in
          let many = beside.as_many in
          let stepped : step code t1 ≡ (if nat_lt (length (a ∷ cs)) depth then On None (Texts store depth (run.first_activation callee_stands.start given (Some (home_of stands.homes place)) ∷ b1 ∷ bs)) else Off NoStore)
          = e ∙ ap (λ s. run.begins t1 (b1 ∷ bs) s p.ws given) callee_stands.starts
          ∙ ap (λ ws. run.begins t1 (b1 ∷ bs) (Some callee_stands.start) ws given) (c.0 ∙ ap (map (home_of stands.homes)) w)
          ∙ ap (λ n. if nat_lt (suc n) depth then On None (Texts store depth (run.first_activation callee_stands.start given (Some (home_of stands.homes place)) ∷ b1 ∷ bs)) else Off NoStore) (sym many) in
          begins_if (nat_lt (length (a ∷ cs)) depth) number place given callee callee_stands is_callee few (waits place w on c.1) stepped

      calls_beside : (number : ℕ) (given : List ℤ) (o : Option LowFun) → slice_get funs number ≡ o → form.operation ≡ Call number → found ≡ given → is_calling kind ≡ true → goes_on kind ≡ true
          → step code t1 ≡ run.begins t1 (b1 ∷ bs) (slice_get code.starts number) p.ws given
          → DoesSo code funs kept from (low.begins (Lows store depth (a ∷ cs)) (a ∷ cs) number o form.writes given)
      calls_beside number given None f op_is words_are calling on e = λ h. absurd (h refl)
      calls_beside number given (Some callee) f op_is words_are calling on e =
          let few = ready.calls number callee (ap (λ (x : places.Instruction). x.operation) same_form ∙ op_is) f in
          let same_reads : length ready.form.reads ≡ length form.reads = ap (λ (x : places.Instruction). length x.reads) same_form in
          let same_words : length found ≡ length given = ap length words_are in
          calls_writes form.writes number given callee refl f calling on (omega (arith, few, same_reads, same_words, count_is)) e

      -- ---- a return

      returns_beside : (r s : Option ℕ) (ds : List low.Activation) (es : List Activation) (word : ℤ) → Callers code funs kept r s ds es → length ds ≡ length es
          → step code t1 ≡ text.returns t1 s es word → DoesSo code funs kept from (low.returns (Lows store depth (a ∷ cs)) r ds word)
      unfolding low.with_words
      returns_beside None None [] [] word Nobody many e = λ h. leads_finishes code funs kept from t1 (Returned word) p.leads (finishes_step code funs kept t1 (Returned word) e)
      returns_beside (Some place) (Some home) (c ∷ ds) (d ∷ es) word (Caller _ _ _ _ _ _ waiting more) many e =
          returned (nat_lt place (length c.places)) refl
        where
          returned : (t : Bool) → nat_lt place (length c.places) ≡ t
              → DoesSo code funs kept from (low.goes_with (Lows store depth (a ∷ cs)) c ds (if t then low.with_words (slice_set c.places place word) [] [] else None))
          returned false f = λ h. absurd (h refl)
          returned true f =
              let hs = waiting.stands.homes in
              let within : place < length c.places = grind (arith, nat_tests) in
              let home_there = (waiting.stands.apart.homes_are place).within in
              let aside = one_aside hs (kept c.fun (suc c.at)) place [] word c.places d.places home_there within waiting.apart waiting.aside in
              let held = aside_all hs (kept c.fun (suc c.at)) (slice_set c.places place word) (slice_set d.places (home_of hs place) word) aside in
              let as_many_places = waiting.aside.as_many in
              let fits : nat_lt (home_of hs place) (length d.places) ≡ true = grind (arith, nat_tests, home_there, as_many_places) in
              let next = stretch_at waiting.stands.start hs waiting.fun waiting.stands.edges (suc c.at) in
              let stepped : step code t1 ≡ On None (Texts store depth (record d { at = next; places = slice_set d.places (home_of hs place) word } ∷ es))
              = e ∙ ap (λ h. text.writes t1 d es h word) waiting.home_is
              ∙ ap (λ k. if k then text.goes_on t1 d es None (slice_set d.places (home_of hs place) word) else Off Stuck) fits
              ∙ ap (λ n. On None (Texts store depth (record d { at = n; places = slice_set d.places (home_of hs place) word } ∷ es))) waiting.next in
              record {
                store = store;
                depth = depth;
                a = low.moved c (suc c.at) (slice_set c.places place word);
                cs = ds;
                b = record d { at = next; places = slice_set d.places (home_of hs place) word };
                bs = es;
                is_next = refl;
                reaches = leads_reaches code funs kept from t1 None _ p.leads (reaches_step code funs kept t1 None _ stepped);
                beside = record {
                  top = record { fun = waiting.fun; is_fun = waiting.is_fun; stands = waiting.stands; here = refl; held = held };
                  callers = more;
                  as_many = omega (arith, many);
                };
              }
      returns_beside None None [] (d ∷ es) word called many e = elim called [ ]
      returns_beside None None (c ∷ ds) es word called many e = elim called [ ]
      returns_beside None (Some home) ds es word called many e = elim called [ ]
      returns_beside (Some place) None ds es word called many e = elim called [ ]
      returns_beside (Some place) (Some home) [] es word called many e = elim called [ ]
      returns_beside (Some place) (Some home) (c ∷ ds) [] word called many e = elim called [ ]

      effects_beside : (f : Effect Flat) → IsAbout store.heap f kind → effect flat_words form.operation found store ≡ f → step code t1 ≡ run.acts code t1 b1 bs over f
          → DoesSo code funs kept from (low.acts funs (Lows store depth (a ∷ cs)) a cs form.writes label f)
      effects_beside (Writes words new) about is e = writes_beside words new (low.with_words a.places form.writes words) about e refl
      effects_beside (Prints number) about is e = (let k = printed_kind store.heap number kind about in on_beside (Some number) k.0 k.1 e)
      effects_beside (Takes true) about is e = (let k = taken_kind store.heap kind about in jumps_beside label refl k.0 k.1 e)
      effects_beside (Takes false) about is e = (let k = passed_kind store.heap kind about in on_beside None k.0 k.1 e)
      effects_beside (Calls number given) about is e =
          let k = called_kind store.heap number given kind about in
          let c = calls_are form.operation found store number given k.0 is in
          calls_beside number given (slice_get funs number) refl c.0 c.1 k.0 k.1 e
      effects_beside (Gives word) about is e = returns_beside a.result_to b.result_to cs bs word beside.callers beside.as_many e
      effects_beside (Ends how) about is e = λ h. leads_finishes code funs kept from t1 how p.leads (finishes_step code funs kept t1 how e)

      pub acts_beside : DoesSo code funs kept from (low.acts funs (Lows store depth (a ∷ cs)) a cs form.writes label (effect flat_words form.operation found store))
      unfolding step
      acts_beside =
          effects_beside (effect flat_words form.operation found store) (effect_about form.operation found store) refl
          (ap (run.fetched code t1 b1 bs) p.there ∙ ap (run.performed code t1 b1 bs) p.acts ∙ ap (run.done code t1 b1 bs over) p.read)

    count_words : (places : List ℤ) (reads : List ℕ) (found : List ℤ) → low.words_in places reads ≡ Some found → length found ≡ length reads
    unfolding low.words_in
    count_words places [] found e = ap length (sym (same_Some [] found e))
    count_words places (place ∷ reads) found e = by_first (slice_get places place) (low.words_in places reads) e (λ xs f. count_words places reads xs f)
      where
        by_first : (w : Option ℤ) (ws : Option (List ℤ)) → low.with_word w ws ≡ Some found → ((xs : List ℤ) → ws ≡ Some xs → length xs ≡ length reads) → length found ≡ suc (length reads)
        by_first None ws g rest = absurd (none-some found g)
        by_first (Some x) None g rest = absurd (none-some found g)
        by_first (Some x) (Some xs) g rest = ap length (sym (same_Some (x ∷ xs) found g)) ∙ ap suc (rest xs refl)

    -- one step, from states that stand beside one another
    pub step_beside : (store : Flat) (depth : ℕ) (a : low.Activation) (cs : List low.Activation) (b : Activation) (bs : List Activation) → Beside code funs kept a cs b bs
        → DoesSo code funs kept (Texts store depth (b ∷ bs)) (low.step funs (Lows store depth (a ∷ cs)))
    unfolding low.step
    step_beside store depth a cs b bs beside =
        subst (λ o. DoesSo code funs kept (Texts store depth (b ∷ bs)) (low.within funs (Lows store depth (a ∷ cs)) a cs o)) (sym beside.top.is_fun) (by_instr (slice_get fun.code a.at) refl)
      where
        fun : LowFun
        fun = beside.top.fun

        stands : Stands code funs kept a.fun fun
        stands = beside.top.stands

        by_words : (i : LowInstr) (is_there : slice_get fun.code a.at ≡ Some i) (ready : IsReady funs i) (o : Option (List ℤ)) → low.words_in a.places ready.form.reads ≡ o
            → DoesSo code funs kept (Texts store depth (b ∷ bs)) (low.done funs (Lows store depth (a ∷ cs)) a cs ready.form (label_at fun.labels i.target) o)
        by_words i is_there ready None e = λ h. absurd (h refl)
        by_words i is_there ready (Some found) e =
            let each = stands.ready.edge_each in
            let there = get_bound fun.code a.at i is_there in
            let edge = within_there stands.edges a.at (omega (arith, each, there)) in
            acts_beside store depth a cs b bs beside fun beside.top.is_fun stands i ready.form found is_there ready.is_form ready refl (count_words a.places ready.form.reads found e)
            (poised code funs kept store depth a.fun a.at a.places b bs fun stands i ready.form edge.value found is_there edge.there ready.is_form ready ready.few_written ready.few_read
            beside.top.here beside.top.held e)

        by_instr : (o : Option LowInstr) → slice_get fun.code a.at ≡ o → DoesSo code funs kept (Texts store depth (b ∷ bs)) (low.fetched funs (Lows store depth (a ∷ cs)) a cs fun.labels o)
        by_instr None e = λ h. absurd (h refl)
        by_instr (Some i) e =
            let ready = stands.ready.instrs a.at i e in
            subst (λ o. DoesSo code funs kept (Texts store depth (b ∷ bs)) (low.performed funs (Lows store depth (a ∷ cs)) a cs (label_at fun.labels i.target) o)) (sym ready.is_form)
            (by_words i e ready (low.words_in a.places ready.form.reads) refl)
