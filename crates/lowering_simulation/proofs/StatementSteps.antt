-- What a statement does behind its operands, and the one instruction that does it.
use Rattle.std.proofs.Common.{◌≡◌, ◌∙◌, ℕ, suc, ◌<◌, ◌≤◌, ℤ, List, [], ◌∷◌, ◌++◌, length, slice_get, slice_set, Bool as Flag, true, false, nat_lt, Option, Some, None, Ok, Err, refl, sym, ap, subst, arith}
use Rattle.std.specs.List.{AllZip}
use Rattle.xan_io.specs.Outcome.{Stuck}
use Rattle.xan_seq.specs.Answers.{◌>>=◌}
use Rattle.xan_seq.proofs.NumberTests.{less, is_less}
use Rattle.operation_rules.specs.Effects.{Effect, Writes, Prints, Takes, Calls as Called, Gives as Returns, Ends, effect}
use Rattle.operation_rules.specs.FlatWords.{Flat, flat_words}
use Rattle.operation_rules.specs.declared.operation.Operation.TheVariants as operation
use Rattle.three_address.specs.Machine.{On, words_in, with_words, goes_with, writes, acts}
use Rattle.three_address.specs.declared.function.LowFun.{LowFun}
use Rattle.three_address.specs.declared.function.TheConstants.{PLACES}
use Rattle.three_address.specs.declared.instruction.LowInstr.{LowInstr}
use Rattle.typed_core.specs.SourceRuns.{Run, Answer, End, Env, Flow, Next, Gives, stuck, all_of}
use Rattle.typed_core.specs.SourceStatements.{set_if, set_variable, set_all, completes, parts_if, parts_read, cell_put_if, cell_put, printed_if, number_printed}
use Rattle.typed_core.specs.SourceValues.{Tag, Number, Array, Tuple, Value, Blocks, words_of, have_tags, tags_of, cells_of, cell_tag, with_tags}
use Rattle.lowering.specs.Lowered.{places_reach}
use Rattle.value_lowering.specs.OneInstruction.{stored, parted, printed, returned}
use Rattle.lowering_simulation.proofs.BlocksLaid.{IsLaid}
use Rattle.lowering_simulation.proofs.CellsAlike.{PutAlike, put_alike, PartsAlike, parts_alike}
use Rattle.lowering_simulation.proofs.CodeStands.{IsCode, Here, act_at, state_at, config, instruction_acts}
use Rattle.lowering_simulation.proofs.InstructionForms.{stored_form, parted_form, printed_form}
use Rattle.lowering_simulation.proofs.ListPlaces.{length_set}
use Rattle.lowering_simulation.proofs.RunsAhead.{Config, Comes, Arrives, comes_none, comes_step, arrives_there, arrives_stuck, arrives_nowhere}
use Rattle.lowering_simulation.proofs.StepsMade.{comes_quiet, comes_free}
use Rattle.lowering_simulation.proofs.StoresHold.{StoreHolds, PlacesHold, sizes, places_set}
use Rattle.lowering_simulation.proofs.TagsAsked.{tags_asked, number_word, array_address, tuple_address}
use Rattle.lowering_simulation.proofs.WordsFit.{Fits, Extends}

module _ {L : Type 0} (here : Here) (base : List ℕ) (limit : ℕ) (code : List LowInstr) where
  -- The statement has completed, and the code is behind it; it may do so by what it is.
  pub record Completed (vars : ℕ) (can : Flag) (past : ℕ) (env : Env) (st : Run L) (c : Config) : Type 0 where
    pub flat : Flat
    pub regs : List ℤ
    pub is : c ≡ config here st.printed flat past regs
    pub store : StoreHolds base limit st flat
    pub places : PlacesHold (sizes st) env regs
    pub sized : length env ≡ vars
    pub can_complete : can ≡ true

  -- the code stands at a return, whose place has the value
  pub record Returning (v : Value) (st : Run L) (c : Config) : Type 0 where
    pub flat : Flat
    pub regs : List ℤ
    pub at : ℕ
    pub place : ℕ
    pub word : ℤ
    pub is : c ≡ config here st.printed flat at regs
    pub there : slice_get code at ≡ Some (returned place)
    pub has : slice_get regs place ≡ Some word
    pub store : StoreHolds base limit st flat
    pub fits : Fits (sizes st) v word

  abbrev pub FlowIs : (vars : ℕ) (can : Flag) (past : ℕ) → Flow → Run L → Config → Type 0
  FlowIs vars can past (Next env) st c = Completed vars can past env st c
  FlowIs vars can past (Gives v) st c = Returning v st c

  pub record Flowed (vars : ℕ) (can : Flag) (past : ℕ) (flow : Flow) (st : Run L) (c : Config) : Type 0 where
    pub flow_is : FlowIs vars can past flow st c

behind_first : (from : ℕ) (xs : List ℕ) → places_reach (from ∷ xs) ≤ PLACES → places_reach xs ≤ PLACES
unfolding places_reach
behind_first from xs h = omega (arith, h)

none_written : (regs : List ℤ) → with_words regs [] [] ≡ Some regs
unfolding with_words
none_written regs = refl

-- the store is the same in another run, with no more units
pub store_later : {L : Type 0} (base : List ℕ) (limit : ℕ) (st : Run L) (flat : Flat) (new : Flat) (other : Run L) → IsLaid other.store new
    → sizes other ≡ sizes st → other.units ≡ st.units → StoreHolds base limit st flat → StoreHolds base limit other new
store_later base limit st flat new other laid same units store = record {
  is = laid;
  more = subst (λ ns. Extends base ns) (sym same) store.more;
  below = subst (λ n. n < limit) (sym units) store.below;
}

module _ {L : Type 0} (funs : List LowFun) (here : Here) (code : List LowInstr) (is : IsCode funs here.fun code) (base : List ℕ) (limit : ℕ) where
  -- ---- variables

  module _ (vars at : ℕ) (st : Run L) (flat : Flat) (store : StoreHolds base limit st flat) where
    -- the value has come to the place of the variable
    pub variable_set : (env : Env) (regs : List ℤ) (x : ℕ) (v : Value) (w : ℤ) → length env ≡ vars → PlacesHold (sizes st) env regs → x < PLACES → Fits (sizes st) v w
        → Arrives funs st.units (config here st.printed flat at (slice_set regs x w)) (Flowed here base limit code vars true at)
        (set_variable env x v st >>= λ done. completes done.0 done.1)
    variable_set env regs x v w sized places small fits = by (nat_lt x (length env)) refl
      where
        by : (there : Flag) → nat_lt x (length env) ≡ there
            → Arrives funs st.units (config here st.printed flat at (slice_set regs x w)) (Flowed here base limit code vars true at)
            (set_if there env x v st >>= λ done. completes done.0 done.1)
        by false e = arrives_stuck funs st.units _ _ st
        by true e =
            arrives_there funs st.units _ _ (Next (slice_set env x (Some v))) st (config here st.printed flat at (slice_set regs x w)) (comes_none funs st.units _)
            (record {
              flow_is = record {
                flat = flat;
                regs = slice_set regs x w;
                is = refl;
                store = store;
                places = places_set (sizes st) env regs x v w (is_less x (length env) e) small fits places;
                sized = length_set env x (Some v) ∙ sized;
                can_complete = refl;
              };
            })

  -- ---- several variables

  -- the variables are set, and the places have their words
  record AllSet (xs : List ℕ) (ws : List ℤ) (regs : List ℤ) (ns : List ℕ) (env more : Env) (st new : Run L) : Type 0 where
    same : new ≡ st
    regs_then : List ℤ
    put_there : with_words regs xs ws ≡ Some regs_then
    places : PlacesHold ns more regs_then
    sized : length more ≡ length env

  record SetsAll (xs : List ℕ) (ws : List ℤ) (regs : List ℤ) (ns : List ℕ) (env : Env) (st : Run L) (answer : Answer L Env) : Type 0 where
    sets : (more : Env) (new : Run L) → answer ≡ Ok (more, new) → AllSet xs ws regs ns env more st new
    only_stuck : (end : End L) → answer ≡ Err end → end.how ≡ Stuck

  sets_none : (xs : List ℕ) (ws : List ℤ) (regs : List ℤ) (ns : List ℕ) (env : Env) (st : Run L) → SetsAll xs ws regs ns env st (stuck st)
  sets_none xs ws regs ns env st = record {
    sets = λ more new e. (let bad : ⊥ = cc in absurd bad);
    only_stuck = λ end e. ap (λ x. x.how) (sym (same (record { how = Stuck; run = st }) end e));
  }
    where
      same : (a b : End L) → (let r : Answer L Env = Err a in r) ≡ Err b → a ≡ b
      same a b e = cc

  sets_first : (x : ℕ) (xs : List ℕ) (w : ℤ) (ws : List ℤ) (regs : List ℤ) (ns : List ℕ) (env : Env) (v : Value) (st : Run L) (answer : Answer L Env) → x < length regs
      → SetsAll xs ws (slice_set regs x w) ns (slice_set env x (Some v)) st answer → SetsAll (x ∷ xs) (w ∷ ws) regs ns env st answer
  unfolding with_words
  sets_first x xs w ws regs ns env v st answer lt rest = record {
    sets = λ more new e.
        let it = rest.sets more new e in
        record {
          same = it.same;
          regs_then = it.regs_then;
          put_there = rw (less x (length regs) lt) it.put_there;
          places = it.places;
          sized = it.sized ∙ length_set env x (Some v);
        };
    only_stuck = rest.only_stuck;
  }

  pair_same : (one two : Env × Run L) → (let r : Answer L Env = Ok one in r) ≡ Ok two → one ≡ two
  pair_same one two e = cc

  sets_all : (xs : List ℕ) (vs : List Value) (ws : List ℤ) (env : Env) (st : Run L) (regs : List ℤ) (ns : List ℕ) → places_reach xs ≤ PLACES → AllZip (Fits ns) vs ws
      → PlacesHold ns env regs → SetsAll xs ws regs ns env st (set_all env xs vs st)
  unfolding set_all with_words places_reach
  sets_all [] [] [] env st regs ns small fit places = record {
    sets = λ more new e.
        let same = both more new e in
        record { same = sym same.1; regs_then = regs; put_there = refl; places = subst (λ x. PlacesHold ns x regs) same.0 places; sized = ap length (sym same.0) };
    only_stuck = λ end e. (let bad : ⊥ = cc in absurd bad);
  }
    where
      both : (more : Env) (new : Run L) → (let r : Answer L Env = Ok (env, st) in r) ≡ Ok (more, new) → (env ≡ more) × (st ≡ new)
      both more new e = (let s = pair_same (env, st) (more, new) e in (ap (λ (p : Env × Run L). p.0) s, ap (λ (p : Env × Run L). p.1) s))
  sets_all [] [] (w ∷ ws) env st regs ns small fit places = absurd fit
  sets_all [] (v ∷ vs) ws env st regs ns small fit places = sets_none [] ws regs ns env st
  sets_all (x ∷ xs) [] ws env st regs ns small fit places = sets_none (x ∷ xs) ws regs ns env st
  sets_all (x ∷ xs) (v ∷ vs) [] env st regs ns small fit places = absurd fit
  sets_all (x ∷ xs) (v ∷ vs) (w ∷ ws) env st regs ns small fit places = by (nat_lt x (length env)) refl (λ lt. sets_all xs vs ws (slice_set env x (Some v)) st (slice_set regs x w) ns (omega (arith, small)) fit.1
      (places_set ns env regs x v w lt (omega (arith, small)) fit.0 places))
    where
      by : (there : Flag) → nat_lt x (length env) ≡ there
          → (x < length env → SetsAll xs ws (slice_set regs x w) ns (slice_set env x (Some v)) st (set_all (slice_set env x (Some v)) xs vs st))
          → SetsAll (x ∷ xs) (w ∷ ws) regs ns env st (set_if there env x v st >>= λ done. set_all done.0 xs vs done.1)
      by false e later = sets_none (x ∷ xs) (w ∷ ws) regs ns env st
      by true e later =
          let room = places.room in
          sets_first x xs w ws regs ns env v st _ (omega (arith, small, room)) (later (is_less x (length env) e))

  -- ---- what one instruction does

  module _ (vars at : ℕ) (st : Run L) (flat : Flat) (regs : List ℤ) (store : StoreHolds base limit st flat) (whole env : Env) (hold : PlacesHold (sizes st) whole regs)
      (places : PlacesHold (sizes st) env regs) (sized : length env ≡ vars) where
    abbrev Behind : Answer L Flow → Type 0
    Behind answer = Arrives funs st.units (config here st.printed flat at regs) (Flowed here base limit code vars true (suc at)) answer

    -- the words go to several places
    all_written : (xs : List ℕ) (words regs_then : List ℤ) (new : Flat) → with_words regs xs words ≡ Some regs_then
        → writes (state_at here new at regs) (act_at here at regs) here.callers xs words ≡ On None (state_at here new (suc at) regs_then)
    all_written xs words regs_then new e = ap (λ o. goes_with (state_at here new at regs) (act_at here at regs) here.callers o) e

    -- ---- the parts of a tuple

    variables_then : (xs : List ℕ) (words : List ℤ) (new : Blocks) (answer : Answer L Env) → new ≡ st.store → SetsAll xs words regs (sizes st) env (record st { store = new }) answer
        → ((regs_then : List ℤ) → with_words regs xs words ≡ Some regs_then
        → Comes funs st.units st.units (config here st.printed flat at regs) (config here st.printed flat (suc at) regs_then))
        → Behind (answer >>= λ q. completes q.0 q.1)
    variables_then xs words new (Err end) same all comes = arrives_nowhere funs st.units _ _ end (all.only_stuck end refl)
    variables_then xs words new (Ok done) same all comes =
        let it = all.sets done.0 done.1 refl in
        let is_st : done.1 ≡ st = it.same ∙ ap (λ x. let r : Run L = record st { store = x } in r) same in
        subst (λ (r : Run L). Behind (Ok (Next done.0, r))) (sym is_st)
        (arrives_there funs st.units _ _ (Next done.0) st (config here st.printed flat (suc at) it.regs_then) (comes it.regs_then it.put_there)
        (record {
          flow_is = record {
            flat = flat;
            regs = it.regs_then;
            is = refl;
            store = store;
            places = it.places;
            sized = it.sized ∙ sized;
            can_complete = refl;
          };
        }))

    parts_set : (t from : ℕ) (xs : List ℕ) (words : List ℤ) → slice_get code at ≡ Some (parted t from xs) → words_in regs (from ∷ []) ≡ Some words
        → (tags : List Tag) (one : Effect Blocks) → PartsAlike st.store flat store.is tags one (effect flat_words (operation.Untuple t (length xs)) words flat)
        → Behind (all_of tags st one >>= λ p. set_all env xs p.0 p.1 >>= λ q. completes q.0 q.1)
    parts_set t from xs words there have tags (Writes us new) alike =
        let done = alike.parts us new refl in
        let act = instruction_acts funs here code is flat at regs _ (operation.Untuple t (length xs)) xs (from ∷ []) words there (parted_form t from xs) have in
        let small : places_reach xs ≤ PLACES = (let h = is.places at _ there in behind_first from xs h) in
        variables_then xs done.words new (set_all env xs (with_tags tags us) (record st { store = new })) done.same
        (sets_all xs (with_tags tags us) done.words env (record st { store = new }) regs (sizes st) small done.fit places)
        (λ regs_then e.
        comes_free funs st.units _ _ (comes_quiet funs st.units (config here st.printed flat at regs) _
        (act.step ∙ ap (acts funs (state_at here flat at regs) (act_at here at regs) here.callers xs act.label) done.is ∙ all_written xs done.words regs_then flat e)))
    parts_set t from xs words there have tags (Ends how) alike = arrives_nowhere funs st.units _ _ (record { how = how; run = st }) (alike.ends how refl)
    parts_set t from xs words there have tags (Prints n) alike = arrives_stuck funs st.units _ _ st
    parts_set t from xs words there have tags (Takes b) alike = arrives_stuck funs st.units _ _ st
    parts_set t from xs words there have tags (Called fun ws) alike = arrives_stuck funs st.units _ _ st
    parts_set t from xs words there have tags (Returns w) alike = arrives_stuck funs st.units _ _ st

    pub split_step : (t from : ℕ) (xs : List ℕ) (v : Value) → slice_get code at ≡ Some (parted t from xs) → slice_get whole from ≡ Some (Some v)
        → Behind (parts_read (length xs) v st >>= λ p. set_all env xs p.0 p.1 >>= λ q. completes q.0 q.1)
    unfolding parts_read words_of words_in
    split_step t from xs v there has = by (have_tags (v ∷ []) (Tuple ∷ [])) refl
      where
        by : (fit : Flag) → have_tags (v ∷ []) (Tuple ∷ []) ≡ fit → Behind (parts_if fit (length xs) v st >>= λ p. set_all env xs p.0 p.1 >>= λ q. completes q.0 q.1)
        by false e = arrives_stuck funs st.units _ _ st
        by true e =
            let w = hold.by from v has in
            parts_set t from xs (w.word ∷ []) there (let g = w.there in rw g refl) (tags_of (cells_of st.store v.word)) _
            (parts_alike st.store flat store.is v.word w.word t (length xs) (tuple_address (sizes st) v w.word w.fits (tags_asked v [] Tuple [] e).0))

    -- ---- a cell

    cell_then : (a i v : ℕ) (words : List ℤ) → slice_get code at ≡ Some (stored a i v) → words_in regs (a ∷ i ∷ v ∷ []) ≡ Some words
        → (one : Effect Blocks) → PutAlike st.store one (effect flat_words operation.Store words flat) → Behind (all_of [] st one >>= λ p. completes env p.1)
    cell_then a i v words there have (Writes us new) alike =
        let done = alike.puts us new refl in
        let act = instruction_acts funs here code is flat at regs _ operation.Store [] (a ∷ i ∷ v ∷ []) words there (stored_form a i v) have in
        arrives_there funs st.units _ _ (Next env) (record st { store = new }) (config here st.printed done.flat (suc at) regs)
        (comes_free funs st.units _ _ (comes_quiet funs st.units (config here st.printed flat at regs) _
        (act.step ∙ ap (acts funs (state_at here flat at regs) (act_at here at regs) here.callers [] act.label) done.is ∙ all_written [] [] regs done.flat (none_written regs))))
        (record {
          flow_is = record {
            flat = done.flat;
            regs = regs;
            is = refl;
            store = store_later base limit st flat done.flat (record st { store = new }) done.laid done.same refl store;
            places = subst (λ ns. PlacesHold ns env regs) (sym done.same) places;
            sized = sized;
            can_complete = refl;
          };
        })
    cell_then a i v words there have (Ends how) alike = arrives_nowhere funs st.units _ _ (record { how = how; run = st }) (alike.ends how refl)
    cell_then a i v words there have (Prints n) alike = arrives_stuck funs st.units _ _ st
    cell_then a i v words there have (Takes b) alike = arrives_stuck funs st.units _ _ st
    cell_then a i v words there have (Called fun ws) alike = arrives_stuck funs st.units _ _ st
    cell_then a i v words there have (Returns w) alike = arrives_stuck funs st.units _ _ st

    pub store_step : (pa pi pv : ℕ) (a i v : Value) → slice_get code at ≡ Some (stored pa pi pv) → slice_get whole pa ≡ Some (Some a) → slice_get whole pi ≡ Some (Some i)
        → slice_get whole pv ≡ Some (Some v) → Behind (cell_put a i v st >>= λ p. completes env p.1)
    unfolding cell_put words_of words_in
    store_step pa pi pv a i v there one two three = by (have_tags (a ∷ i ∷ v ∷ []) (Array ∷ Number ∷ cell_tag st.store a.word i.word ∷ [])) refl
      where
        by : (fit : Flag) → have_tags (a ∷ i ∷ v ∷ []) (Array ∷ Number ∷ cell_tag st.store a.word i.word ∷ []) ≡ fit → Behind (cell_put_if fit a i v st >>= λ p. completes env p.1)
        by false e = arrives_stuck funs st.units _ _ st
        by true e =
            let tag_a = tags_asked a (i ∷ v ∷ []) Array (Number ∷ cell_tag st.store a.word i.word ∷ []) e in
            let tag_i = tags_asked i (v ∷ []) Number (cell_tag st.store a.word i.word ∷ []) tag_a.1 in
            let tag_v = tags_asked v [] (cell_tag st.store a.word i.word) [] tag_i.1 in
            let wa = hold.by pa a one in
            let wi = hold.by pi i two in
            let wv = hold.by pv v three in
            let same_i = number_word (sizes st) i wi.word wi.fits tag_i.0 in
            let ga = wa.there in
            let gi : slice_get regs pi ≡ Some i.word = wi.there ∙ ap (λ n. let o : Option ℤ = Some n in o) same_i in
            let gv = wv.there in
            cell_then pa pi pv (wa.word ∷ i.word ∷ wv.word ∷ []) there (rw ga (rw gi (rw gv refl))) _
            (put_alike st.store flat store.is a.word wa.word i.word v wv.word (array_address (sizes st) a wa.word wa.fits tag_a.0) tag_v.0 wv.fits)

    -- ---- a number

    pub print_step : (place : ℕ) (v : Value) → slice_get code at ≡ Some (printed place) → slice_get whole place ≡ Some (Some v)
        → Behind (number_printed v st >>= λ p. completes env p.1)
    unfolding number_printed words_of words_in
    print_step place v there has = by (have_tags (v ∷ []) (Number ∷ [])) refl
      where
        by : (fit : Flag) → have_tags (v ∷ []) (Number ∷ []) ≡ fit → Behind (printed_if fit v st >>= λ p. completes env p.1)
        by false e = arrives_stuck funs st.units _ _ st
        by true e =
            let w = hold.by place v has in
            let same = number_word (sizes st) v w.word w.fits (tags_asked v [] Number [] e).0 in
            let g : slice_get regs place ≡ Some v.word = w.there ∙ ap (λ n. let o : Option ℤ = Some n in o) same in
            let act = instruction_acts funs here code is flat at regs _ operation.Print [] (place ∷ []) (v.word ∷ []) there (printed_form place) (rw g refl) in
            arrives_there funs st.units _ _ (Next env) (record st { printed = st.printed ++ v.word ∷ [] }) (config here (st.printed ++ v.word ∷ []) flat (suc at) regs)
            (comes_free funs st.units _ _ (comes_step funs st.units (config here st.printed flat at regs) (Some v.word) (state_at here flat (suc at) regs) act.step))
            (record {
              flow_is = record {
                flat = flat;
                regs = regs;
                is = refl;
                store = record { is = store.is; more = store.more; below = store.below };
                places = places;
                sized = sized;
                can_complete = refl;
              };
            })
