-- One instruction of the code beside one act of the source: both write a word, or both end.
use Rattle.std.proofs.Common.{◌≡◌, ◌∙◌, ℕ, suc, ◌<◌, ◌≤◌, ℤ, List, [], ◌∷◌, append-nil, length, Bool as Flag, true, false, slice_get, slice_set, Some, None, Ok, refl, sym, ap, subst, arith}
use Rattle.std.specs.List.{AllZip}
use Rattle.xan_seq.specs.Answers.{◌>>=◌}
use Rattle.xan_seq.proofs.NumberTests.{less}
use Rattle.operation_rules.specs.Effects.{Effect, Writes, Prints, Takes, Calls as Called, Gives, Ends, effect}
use Rattle.operation_rules.specs.FlatWords.{Flat, flat_words}
use Rattle.operation_rules.specs.declared.operation.Operation.{Operation}
use Rattle.three_address.specs.Instructions.{instruction_of}
use Rattle.three_address.specs.Machine.{State, On, words_in, with_words, writes, acts, step}
use Rattle.three_address.specs.declared.function.LowFun.{LowFun}
use Rattle.three_address.specs.declared.function.TheConstants.{PLACES}
use Rattle.three_address.specs.declared.instruction.LowInstr.{LowInstr}
use Rattle.xanadu_tree.specs.Plain as core
use Rattle.typed_core.specs.Places.{behind}
use Rattle.typed_core.specs.SourceOperands.{value_if}
use Rattle.typed_core.specs.SourceRuns.{Run, Answer, Env, Calls, one_of}
use Rattle.typed_core.specs.SourceValues.{Tag, Value, Blocks, words_of, separate}
use Rattle.value_lowering.specs.Frames.{operand_place}
use Rattle.value_lowering.specs.OneInstruction.{called}
use Rattle.value_lowering.specs.ValueCode.{operand_places}
use Rattle.lowering_simulation.proofs.BlocksLaid.{sizes_of}
use Rattle.lowering_simulation.proofs.CodeStands.{IsCode, Here, act_at, state_at, config, instruction_acts, first_place}
use Rattle.lowering_simulation.proofs.EffectsAlike.{tagged_word, Wrote, AlikeWord}
use Rattle.lowering_simulation.proofs.RunsAhead.{Config, Comes, Arrives, comes_step, comes_with, finishes_step, arrives_there, arrives_stuck, arrives_end, arrives_then}
use Rattle.lowering_simulation.proofs.StoresHold.{StoreHolds, PlacesHold, Keeps, Pending, AtPlaces, sizes, places_fewer, places_more, words_read}
use Rattle.lowering_simulation.proofs.WordsFit.{Fits, Extends, extends_then}

-- ---- steps

module _ (funs : List LowFun) where
  -- a step that prints nothing
  pub comes_quiet : (n : ℕ) (a : Config) (state : State) → step funs a.state ≡ On None state → Comes funs (suc n) n a (record { printed = a.printed; state = state })
  comes_quiet n a state e =
      subst (λ (ps : List ℤ). Comes funs (suc n) n a (record { printed = ps; state = state })) (append-nil a.printed) (comes_step funs n a None state e)

  -- its word is not counted
  pub comes_free : (n : ℕ) (a b : Config) → Comes funs (suc n) n a b → Comes funs n n a b
  comes_free n a b h = comes_with funs (suc n) n n n a b (omega arith) h

-- a word goes to a place that exists
pub writes_one_word : (state : State) (here : Here) (flat : Flat) (at to : ℕ) (regs : List ℤ) (word : ℤ) → to < length regs
    → writes (state_at here flat at regs) (act_at here at regs) here.callers (to ∷ []) (word ∷ []) ≡ On None (state_at here flat (suc at) (slice_set regs to word))
unfolding with_words
writes_one_word state here flat at to regs word h = rw (less to (length regs) h) refl

-- ---- a value

module _ {L : Type 0} (here : Here) (base : List ℕ) (limit : ℕ) where
  -- The code is behind the piece, and the value has just come to its place. What waits had its words before that.
  pub record Valued (all : Env) (next to : ℕ) (v : Value) (st : Run L) (c : Config) : Type 0 where
    pub flat : Flat
    pub regs : List ℤ
    pub word : ℤ
    pub is : c ≡ config here st.printed flat next (slice_set regs to word)
    pub store : StoreHolds base limit st flat
    pub places : PlacesHold (sizes st) all regs
    pub fits : Fits (sizes st) v word
    pub small : to < PLACES

  -- The code is behind an operand, and the value is in the operand's place.
  pub record Taken (env all : Env) (vars : ℕ) (e : core.Expr) (d next : ℕ) (v : Value) (st : Run L) (c : Config) : Type 0 where
    pub flat : Flat
    pub regs : List ℤ
    pub whole : Env
    pub is : c ≡ config here st.printed flat next regs
    pub store : StoreHolds base limit st flat
    pub places : PlacesHold (sizes st) whole regs
    pub pending : Pending env whole vars (behind e d)
    pub there : slice_get whole (operand_place vars e d) ≡ Some (Some v)
    pub keeps : Keeps all whole

  -- the same of operands in order
  pub record AllTaken (env all : Env) (vars : ℕ) (es : core.Exprs) (d next : ℕ) (vs : List Value) (st : Run L) (c : Config) : Type 0 where
    pub flat : Flat
    pub regs : List ℤ
    pub whole : Env
    pub is : c ≡ config here st.printed flat next regs
    pub store : StoreHolds base limit st flat
    pub places : PlacesHold (sizes st) whole regs
    pub there : AtPlaces whole (operand_places vars es d) vs
    pub keeps : Keeps all whole

  -- behind a call
  pub record CallDone (before : List ℕ) (regs : List ℤ) (next to : ℕ) (v : Value) (st : Run L) (c : Config) : Type 0 where
    pub flat : Flat
    pub word : ℤ
    pub is : c ≡ config here st.printed flat next (slice_set regs to word)
    pub store : StoreHolds base limit st flat
    pub grown : Extends before (sizes st)
    pub fits : Fits (sizes st) v word

-- What a call of the source does, with so many activations at it, the code does from its instruction on.
pub record CallsGo {L : Type 0} (funs : List LowFun) (depth : ℕ) (call : Calls L) (live bound : ℕ) : Type 0 where
  pub by : (here : Here) → here.depth ≡ depth → suc (length here.callers) ≡ live → (code : List LowInstr) → IsCode funs here.fun code
      → (base : List ℕ) (limit at to : ℕ) (reads : List ℕ) (fun : ℕ) (vs : List Value) (st : Run L) (flat : Flat) (regs words : List ℤ)
      → slice_get code at ≡ Some (called fun to reads) → words_in regs reads ≡ Some words → AllZip (Fits (sizes st)) vs words → StoreHolds base limit st flat
      → limit ≤ bound → PLACES ≤ length regs
      → Arrives funs st.units (config here st.printed flat at regs) (CallDone here base limit (sizes st) regs (suc at) to) (call fun vs st)

module _ {L : Type 0} (funs : List LowFun) (here : Here) (code : List LowInstr) (is : IsCode funs here.fun code) (base : List ℕ) (limit : ℕ) where
  -- ---- what comes behind a value, and behind an operand

  pub valued_then : {B : Type 0} (n : ℕ) (a : Config) (all : Env) (next to : ℕ) (S : B → Run L → Config → Type 0) (m : Answer L Value) (more : Value × Run L → Answer L B)
      → Arrives funs n a (Valued here base limit all next to) m
      → ((v : Value) (st : Run L) (c : Config) (r : Valued here base limit all next to v st c)
      → Arrives funs st.units (config here st.printed r.flat next (slice_set r.regs to r.word)) S (more (v, st)))
      → Arrives funs n a S (m >>= more)
  valued_then n a all next to S m more first later =
      arrives_then funs n a (Valued here base limit all next to) S m more first
      (λ v st c r. subst (λ x. Arrives funs st.units x S (more (v, st))) (sym r.is) (later v st c r))

  pub taken_then : {B : Type 0} (n : ℕ) (a : Config) (env all : Env) (vars : ℕ) (e : core.Expr) (d next : ℕ) (S : B → Run L → Config → Type 0) (m : Answer L Value)
      (more : Value × Run L → Answer L B) → Arrives funs n a (Taken here base limit env all vars e d next) m
      → ((v : Value) (st : Run L) (c : Config) (r : Taken here base limit env all vars e d next v st c)
      → Arrives funs st.units (config here st.printed r.flat next r.regs) S (more (v, st)))
      → Arrives funs n a S (m >>= more)
  taken_then n a env all vars e d next S m more first later =
      arrives_then funs n a (Taken here base limit env all vars e d next) S m more first
      (λ v st c r. subst (λ x. Arrives funs st.units x S (more (v, st))) (sym r.is) (later v st c r))

  pub all_taken_then : {B : Type 0} (n : ℕ) (a : Config) (env all : Env) (vars : ℕ) (es : core.Exprs) (d next : ℕ) (S : B → Run L → Config → Type 0) (m : Answer L (List Value))
      (more : List Value × Run L → Answer L B) → Arrives funs n a (AllTaken here base limit env all vars es d next) m
      → ((vs : List Value) (st : Run L) (c : Config) (r : AllTaken here base limit env all vars es d next vs st c)
      → Arrives funs st.units (config here st.printed r.flat next r.regs) S (more (vs, st)))
      → Arrives funs n a S (m >>= more)
  all_taken_then n a env all vars es d next S m more first later =
      arrives_then funs n a (AllTaken here base limit env all vars es d next) S m more first
      (λ v st c r. subst (λ x. Arrives funs st.units x S (more (v, st))) (sym r.is) (later v st c r))

  -- ---- an instruction that writes one word

  module _ (all whole : Env) (at to : ℕ) (rest : List ℕ) (i : LowInstr) (o : Operation) (reads : List ℕ) (st : Run L) (flat : Flat) (regs : List ℤ)
      (there : slice_get code at ≡ Some i) (places : i.places ≡ to ∷ rest) (form : instruction_of i ≡ Some (record { operation = o; writes = to ∷ []; reads = reads }))
      (keeps : Keeps all whole) (store : StoreHolds base limit st flat) (hold : PlacesHold (sizes st) whole regs) where
    wrote : (words : List ℤ) → words_in regs reads ≡ Some words → (gives : Tag) (w : ℤ) (new : Blocks) → Wrote gives st.store w new (effect flat_words o words flat)
        → Arrives funs st.units (config here st.printed flat at regs) (Valued here base limit all (suc at) to) (Ok (tagged_word gives w, record st { store = new }))
    wrote words have gives w new it =
        let act = instruction_acts funs here code is flat at regs i o (to ∷ []) reads words there form have in
        let small = first_place funs here code is flat at regs i to rest there places in
        let room = hold.room in
        let lt : to < length regs = omega (arith, small, room) in
        let goes : step funs (state_at here flat at regs) ≡ On None (state_at here it.flat (suc at) (slice_set regs to it.word)) =
        act.step ∙ ap (acts funs (state_at here flat at regs) (act_at here at regs) here.callers (to ∷ []) act.label) it.is
        ∙ writes_one_word (state_at here flat at regs) here it.flat at to regs it.word lt in
        arrives_there funs st.units (config here st.printed flat at regs) (Valued here base limit all (suc at) to) (tagged_word gives w) (record st { store = new })
        (config here st.printed it.flat (suc at) (slice_set regs to it.word))
        (comes_free funs st.units _ _ (comes_quiet funs st.units (config here st.printed flat at regs) _ goes))
        (record {
          flat = it.flat;
          regs = regs;
          word = it.word;
          is = refl;
          store = record { is = it.laid; more = extends_then base (sizes st) (sizes_of new.blocks) store.more it.more; below = store.below };
          places = places_more (sizes st) (sizes_of new.blocks) all regs it.more (places_fewer (sizes st) all whole regs keeps hold);
          fits = it.fits;
          small = small;
        })

    by_effect : (words : List ℤ) → words_in regs reads ≡ Some words → (gives : Tag) (one : Effect Blocks) → AlikeWord gives st.store one (effect flat_words o words flat)
        → Arrives funs st.units (config here st.printed flat at regs) (Valued here base limit all (suc at) to) (one_of gives st one)
    by_effect words have gives (Writes [] new) alike = arrives_stuck funs st.units _ _ st
    by_effect words have gives (Writes (w ∷ []) new) alike = wrote words have gives w new (alike.writes w new refl)
    by_effect words have gives (Writes (w ∷ v ∷ ws) new) alike = arrives_stuck funs st.units _ _ st
    by_effect words have gives (Prints n) alike = arrives_stuck funs st.units _ _ st
    by_effect words have gives (Takes b) alike = arrives_stuck funs st.units _ _ st
    by_effect words have gives (Called fun ws) alike = arrives_stuck funs st.units _ _ st
    by_effect words have gives (Gives w) alike = arrives_stuck funs st.units _ _ st
    by_effect words have gives (Ends how) alike =
        arrives_end funs st.units _ _ how st
        (λ not_stuck.
        let end = alike.ends how refl not_stuck in
        let act = instruction_acts funs here code is flat at regs i o (to ∷ []) reads words there form have in
        finishes_step funs st.units (config here st.printed flat at regs) how
        (act.step ∙ ap (acts funs (state_at here flat at regs) (act_at here at regs) here.callers (to ∷ []) act.label) end.0) end.1)

    -- the values that it reads are in its places
    pub word_step : (vs : List Value) → AtPlaces whole reads vs → (gives : Tag) (one : Effect Blocks)
        → ((words : List ℤ) → AllZip (Fits (sizes st)) vs words → AlikeWord gives st.store one (effect flat_words o words flat))
        → Arrives funs st.units (config here st.printed flat at regs) (Valued here base limit all (suc at) to) (one_of gives st one)
    word_step vs have gives one alike =
        let read = words_read (sizes st) whole regs reads vs hold have in
        by_effect read.words read.there gives one (alike read.words read.fit)

  -- where tags are looked at, they are as they are asked
  pub if_tags : (n : ℕ) (a : Config) (R : Value → Run L → Config → Type 0) (fit : Flag) (cells : ℕ → Tag) (o : Operation) (gives : Tag) (vs : List Value) (st : Run L)
      → (fit ≡ true → Arrives funs n a R (one_of gives st (effect (separate cells) o (words_of vs) st.store))) → Arrives funs n a R (value_if fit cells o gives vs st)
  if_tags n a R true cells o gives vs st h = h refl
  if_tags n a R false cells o gives vs st h = arrives_stuck funs n a R st
