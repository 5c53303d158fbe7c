-- Calls: a function begins with the words of its arguments, and its result comes to the place that the call writes. By induction on the bound on calls.
use Rattle.std.proofs.Common.{◌≡◌, ◌∙◌, ℕ, zero, suc, ◌+◌, ◌-◌, ◌<◌, ◌≤◌, ◌==◌, ℤ, pos, List, [], ◌∷◌, ◌++◌, map, take, replicate, length, length-append, slice_get, slice_set, Bool as Flag, true, false, nat_lt, Option, Some, None, refl, sym, ap, subst, arith}
use Rattle.std.specs.List.{AllZip}
use Rattle.std.proofs.lemmas.Bool.{eqb-true}
use Rattle.std.proofs.lemmas.List.{length-replicate, length-map}
use Rattle.xan_io.specs.Outcome.{NoStore, Running}
use Rattle.xan_seq.specs.Answers.{◌>>=◌}
use Rattle.xan_seq.proofs.NumberTests.{less}
use Rattle.operation_rules.specs.FlatWords.{Flat}
use Rattle.operation_rules.specs.declared.operation.Operation.TheVariants as operation
use Rattle.three_address.specs.Machine.{On, Off, words_in, with_words, places_of, writes, begins}
use Rattle.three_address.specs.declared.function.LowFun.{LowFun}
use Rattle.three_address.specs.declared.function.TheConstants.{PLACES}
use Rattle.three_address.specs.declared.instruction.LowInstr.{LowInstr}
use Rattle.xanadu_tree.specs.BodyRules.{completes_all}
use Rattle.xanadu_tree.specs.KindRules.{kind_of, header}
use Rattle.xanadu_tree.specs.Plain as core
use Rattle.xanadu_tree.specs.Shaped.{IsFunction, body_start, setting}
use Rattle.typed_core.specs.SourceCalls.{env_of, result, body_if, body, begun, called}
use Rattle.typed_core.specs.SourceRuns.{Run, Answer, Recorder, Calls, Next, Gives, spent, units_taken}
use Rattle.typed_core.specs.SourceValues.{Value}
use Rattle.value_lowering.specs.Frames.{frame_of}
use Rattle.lowering.specs.Lowered.{code_of}
use Rattle.value_lowering.specs.OneInstruction.{called as called_instr, returned}
use Rattle.lowering.specs.StatementCode.{block_size}
use Rattle.lowering_simulation.proofs.CodeStands.{IsCode, Here, act_at, state_at, config, instruction_acts, first_place}
use Rattle.lowering_simulation.proofs.InstructionForms.{called_form, returned_form}
use Rattle.lowering_simulation.proofs.RunsAhead.{Config, Comes, Finishes, Arrived, Arrives, comes_none, finishes_step, finishes_running, arrives_there, arrives_stuck, arrives_end, arrives_later, arrives_then, arrives_on}
use Rattle.lowering_simulation.proofs.StatementSteps.{Returning, Flowed}
use Rattle.lowering_simulation.proofs.BlocksArrive.{block_goes}
use Rattle.lowering_simulation.proofs.StepsMade.{CallDone, CallsGo, comes_quiet, comes_free}
use Rattle.lowering_simulation.proofs.StoresHold.{StoreHolds, PlacesHold, HasWord, sizes}
use Rattle.lowering_simulation.proofs.WordsFit.{Fits, Extends, extends_same, extends_then}

-- ---- where a function begins

none_there : (k : ℕ) (place : ℕ) (v : Value) → slice_get (replicate k (let o : Option Value = None in o)) place ≡ Some (Some v) → ⊥
none_there zero place v e = cc
none_there (suc k) zero v e = cc
none_there (suc k) (suc place) v e = none_there k place v e

front_holds : (ns : List ℕ) (vs : List Value) (ws pad : List ℤ) (k place : ℕ) (v : Value) → AllZip (Fits ns) vs ws
    → slice_get (map Some vs ++ replicate k None) place ≡ Some (Some v) → HasWord ns (ws ++ pad) place v
front_holds ns [] [] pad k place v fit e = absurd (none_there k place v e)
front_holds ns [] (w ∷ ws) pad k place v fit e = absurd fit
front_holds ns (x ∷ vs) [] pad k place v fit e = absurd fit
front_holds ns (x ∷ vs) (w ∷ ws) pad k zero v fit e = (let same : x ≡ v = cc in record { word = w; there = refl; fits = subst (λ y. Fits ns y w) same fit.0 })
front_holds ns (x ∷ vs) (w ∷ ws) pad k (suc place) v fit e = (let it = front_holds ns vs ws pad k place v fit.1 e in record { word = it.word; there = it.there; fits = it.fits })

places_begin : (ns : List ℕ) (f : core.Fun) (vs : List Value) (ws : List ℤ) → AllZip (Fits ns) vs ws → PlacesHold ns (env_of f vs) (places_of ws)
unfolding places_of
places_begin ns f vs ws fit = record {
  room =
      let a = length-append ws (replicate (PLACES - length ws) (pos 0)) in
      let b = length-replicate (PLACES - length ws) (pos 0) in
      omega (arith, a, b);
  by = λ place v e. front_holds ns vs ws (replicate (PLACES - length ws) (pos 0)) (length f.kinds - length vs) place v fit e;
}

length_some : (vs : List Value) → length (map Some vs) ≡ length vs
length_some [] = refl
length_some (v ∷ vs) = ap suc (length_some vs)

take_shorter : {A : Type 0} (n : ℕ) (xs : List A) → length (take n xs) ≤ length xs
take_shorter zero xs = omega arith
take_shorter (suc n) [] = omega arith
take_shorter (suc n) (x ∷ xs) = (let h = take_shorter n xs in omega (arith, h))

env_sized : (f : core.Fun) (vs : List Value) → length vs ≤ length f.kinds → length (env_of f vs) ≡ length f.kinds
env_sized f vs le =
    let pad : List (Option Value) = replicate (length f.kinds - length vs) None in
    length-append (map Some vs) pad
    ∙ (let a = length_some vs in let b : length pad ≡ length f.kinds - length vs = length-replicate (length f.kinds - length vs) None in omega (arith, a, b, le))

module _ {L : Type 0} (recorder : Recorder L) (low : List LowFun) (program : core.Program) where
  -- a function stands in the code with its own code, and keeps the rules of a function
  pub record FunGoes (fun : ℕ) (f : core.Fun) : Type 0 where
    pub code_is : IsCode low fun (code_of program f)
    pub rules : IsFunction program.types (map header program.funs) f

  pub record FunsGo : Type 0 where
    pub by : (fun : ℕ) (f : core.Fun) → slice_get program.funs fun ≡ Some f → FunGoes fun f

  -- ---- a body

  module _ (here : Here) (f : core.Fun) (goes : FunGoes here.fun f) (call : Calls L) (bound limit : ℕ) (calls : CallsGo low here.depth call (suc (length here.callers)) bound)
      (le : limit ≤ bound) (base : List ℕ) (vs : List Value) (ws : List ℤ) (st : Run L) (flat : Flat) (store : StoreHolds base limit st flat) (fit : AllZip (Fits (sizes st)) vs ws) where
    abbrev code : List LowInstr
    code = code_of program f

    fewer : length vs ≡ length f.params → length vs ≤ length f.kinds
    fewer same =
        let shorter = take_shorter (length f.params) f.kinds in
        let long : length (take (length f.params) f.kinds) ≡ length f.params = ap length goes.rules.param_kinds ∙ length-map f.params kind_of in
        omega (arith, same, shorter, long)

    pub body_goes : Arrives low st.units (config here st.printed flat 0 (places_of ws)) (Returning here base limit code) (body recorder call here.fun bound f vs st)
    unfolding body
    body_goes = by (length vs == length f.params) refl
      where
        by : (fits : Flag) → (length vs == length f.params) ≡ fits
            → Arrives low st.units (config here st.printed flat 0 (places_of ws)) (Returning here base limit code) (body_if recorder fits call here.fun bound f vs st)
        by false e = arrives_stuck low st.units _ _ st
        by true e =
            let sized = env_sized f vs (fewer (eqb-true (length vs) (length f.params) e)) in
            let S = Returning here base limit code in
            let frame = frame_of program f in
            arrives_then low st.units _ (Flowed here base limit code (length f.kinds) (completes_all f.body) (0 + block_size f.body)) S _ _
            ((block_goes low here code goes.code_is base frame call bound calls (setting program.types (map header program.funs) f) recorder here.fun f.body (body_start f) goes.rules.end
            goes.rules.body).by bound limit le le [] 0 (env_of f vs) sized 0 (0 + block_size f.body) st flat (places_of ws)
            (record { by = λ n i h. ap (slice_get code) (let s : 0 + n ≡ n = omega arith in s) ∙ h }) refl store (places_begin (sizes st) f vs ws fit))
            (λ flow one c g. elim flow as (λ x. Flowed here base limit code (length f.kinds) (completes_all f.body) (0 + block_size f.body) x one c → Arrives low one.units c S (result x one)) [
              | Next env ↦ λ q. arrives_stuck low one.units _ _ one
              | Gives v ↦ λ q. arrives_there low one.units c _ v one c (comes_none low one.units c) q.flow_is
            ] g)

  -- ---- a call

  module _ (here : Here) (base : List ℕ) (limit at to : ℕ) (regs : List ℤ) (lt : to < length regs) (fun : ℕ) where
    -- the activation of the function
    abbrev inner : Here
    inner = record { depth = here.depth; fun = fun; result_to = Some to; callers = act_at here at regs ∷ here.callers }

    result_comes_back : (flat : Flat) (from : ℕ) (places : List ℤ) (word : ℤ)
        → writes (state_at inner flat from places) (act_at here at regs) here.callers (to ∷ []) (word ∷ []) ≡ On None (state_at here flat (suc at) (slice_set regs to word))
    unfolding with_words
    result_comes_back flat from places word = rw (less to (length regs) lt) refl

    -- a return brings the value to the place of the call
    comes_back : (code : List LowInstr) → IsCode low fun code → (one : Run L) (inner_limit : ℕ) → Extends base (sizes one) → inner_limit ≤ limit
        → (v : Value) (st : Run L) (c : Config) → Returning inner (sizes one) inner_limit code v st c → Arrived low st.units c (CallDone here base limit (sizes one) regs (suc at) to) v st
    unfolding words_in
    comes_back code is one inner_limit more le v st c r =
        let has = r.has in
        let act = instruction_acts low inner code is r.flat r.at r.regs (returned r.place) operation.Return [] (r.place ∷ []) (r.word ∷ []) r.there (returned_form r.place) (rw has refl) in
        let below = r.store.below in
        record {
          config = config here st.printed r.flat (suc at) (slice_set regs to r.word);
          comes = subst (λ x. Comes low st.units st.units x (config here st.printed r.flat (suc at) (slice_set regs to r.word))) (sym r.is)
              (comes_free low st.units _ _ (comes_quiet low st.units (config inner st.printed r.flat r.at r.regs) _ (act.step ∙ result_comes_back r.flat r.at r.regs r.word)));
          is = record {
            flat = r.flat;
            word = r.word;
            is = refl;
            store = record { is = r.store.is; more = extends_then base (sizes one) (sizes st) more r.store.more; below = omega (arith, below, le) };
            grown = r.store.more;
            fits = r.fits;
          };
        }

  module _ (depth b live : ℕ) (funs_go : FunsGo) (later : CallsGo low depth (called recorder program.funs depth b (suc live)) (suc live) b)
      (here : Here) (same_depth : here.depth ≡ depth) (same_live : suc (length here.callers) ≡ live) (code : List LowInstr) (is : IsCode low here.fun code)
      (base : List ℕ) (limit at to : ℕ) (reads : List ℕ) (fun : ℕ) (vs : List Value) (st : Run L) (flat : Flat) (regs words : List ℤ)
      (there : slice_get code at ≡ Some (called_instr fun to reads)) (have : words_in regs reads ≡ Some words) (fit : AllZip (Fits (sizes st)) vs words)
      (store : StoreHolds base limit st flat) (le : limit ≤ suc b) (room : PLACES ≤ length regs) where
    abbrev start : Config
    start = config here st.printed flat at regs

    abbrev Done : Answer L Value → Type 0
    Done answer = Arrives low st.units start (CallDone here base limit (sizes st) regs (suc at) to) answer

    place_there : to < length regs
    place_there = (let small = first_place low here code is flat at regs (called_instr fun to reads) to reads there refl in omega (arith, small, room))

    same_room : nat_lt (suc (length here.callers)) here.depth ≡ nat_lt live depth
    same_room = ap (λ n. nat_lt n here.depth) same_live ∙ ap (nat_lt live) same_depth

    abbrev within : Here
    within = inner here base limit at to regs place_there fun

    begins_there : (g : LowFun) → slice_get low fun ≡ Some g → nat_lt (suc (length here.callers)) here.depth ≡ true
        → begins (state_at here flat at regs) (act_at here at regs ∷ here.callers) fun (slice_get low fun) (to ∷ []) words ≡ On None (state_at within flat 0 (places_of words))
    begins_there g e may = rw e (rw may refl)

    begins_not : (g : LowFun) → slice_get low fun ≡ Some g → nat_lt (suc (length here.callers)) here.depth ≡ false
        → begins (state_at here flat at regs) (act_at here at regs ∷ here.callers) fun (slice_get low fun) (to ∷ []) words ≡ Off NoStore
    begins_not g e may = rw e (rw may refl)

    paid : (f : core.Fun) → FunGoes fun f → nat_lt live depth ≡ true → (units : ℕ) → st.units ≡ units
        → Done (units_taken units st >>= λ p. body recorder (called recorder program.funs depth b (suc live)) fun b f vs p.1)
    paid f goes may zero e =
        arrives_end low st.units start _ Running st
        (λ not_stuck. subst (λ n. Finishes low n start (record { printed = st.printed; how = Running })) (sym e) (finishes_running low start))
    paid f goes may (suc u) e =
        let two : Run L = record st { units = u } in
        let act = instruction_acts low here code is flat at regs (called_instr fun to reads) (operation.Call fun) (to ∷ []) reads words there (called_form fun to reads) have in
        let goes_in = act.step ∙ begins_there goes.code_is.low goes.code_is.there (same_room ∙ may) in
        let below = store.below in
        let fits : suc u ≤ b = omega (arith, below, e, le) in
        let few : suc u ≤ limit = omega (arith, below, e) in
        let call = called recorder program.funs depth b (suc live) in
        let calls = subst (λ d. CallsGo low d call (suc (length within.callers)) b) (sym same_depth) (subst (λ n. CallsGo low depth call n b) (sym (ap suc same_live)) later) in
        arrives_later low st.units u start (config within st.printed flat 0 (places_of words)) _ _
        (subst (λ n. Comes low n u start (config within st.printed flat 0 (places_of words))) (sym e) (comes_quiet low u start _ goes_in))
        (arrives_on low u _ (Returning within (sizes st) (suc u) (code_of program f)) (CallDone here base limit (sizes st) regs (suc at) to) _
        (comes_back here base limit at to regs place_there fun (code_of program f) goes.code_is st (suc u) store.more few)
        (body_goes within f goes call b (suc u) calls fits (sizes st) vs words two flat
        (record { is = store.is; more = extends_same (sizes st); below = omega arith }) fit))

    function_begun : (o : Option core.Fun) → slice_get program.funs fun ≡ o → (may : Flag) → nat_lt live depth ≡ may
        → Done (begun recorder program.funs depth may (called recorder program.funs depth b (suc live)) fun b o vs st)
    unfolding spent
    function_begun None e may m = arrives_stuck low st.units _ _ st
    function_begun (Some f) e false m =
        let goes = funs_go.by fun f e in
        let act = instruction_acts low here code is flat at regs (called_instr fun to reads) (operation.Call fun) (to ∷ []) reads words there (called_form fun to reads) have in
        arrives_end low st.units start _ NoStore st
        (λ not_stuck. finishes_step low st.units start NoStore (act.step ∙ begins_not goes.code_is.low goes.code_is.there (same_room ∙ m)) (λ r. cc))
    function_begun (Some f) e true m = paid f (funs_go.by fun f e) m st.units refl

    pub call_done : Done (called recorder program.funs depth (suc b) live fun vs st)
    unfolding called
    call_done = function_begun (slice_get program.funs fun) refl (nat_lt live depth) refl

  -- any bound on calls that is greater than the units
  pub calls_go : (depth : ℕ) → FunsGo → (bound live : ℕ) → CallsGo low depth (called recorder program.funs depth bound live) live bound
  calls_go depth funs_go zero live = record {
    by = λ here same_depth same_live code is base limit at to reads fun vs st flat regs words there have fit store le room.
        absurd (let below = store.below in omega (arith, below, le));
  }
  calls_go depth funs_go (suc b) live = record {
    by = λ here same_depth same_live code is base limit at to reads fun vs st flat regs words there have fit store le room.
        call_done depth b live funs_go (calls_go depth funs_go b (suc live)) here same_depth same_live code is base limit at to reads fun vs st flat regs words there have fit store le room;
  }
