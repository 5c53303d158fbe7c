-- A step from a state that fits ends other than stuck, or leaves a state that fits.
use Rattle.std.proofs.Common.{◌≡◌, ◌≢◌, ◌∙◌, ℕ, suc, ◌≤◌, ◌<◌, ℤ, cond, List, [], ◌∷◌, ◌++◌, length, nat_lt, Bool as Test, true, false, Option, Some, None, Ok, refl, sym, ap, subst, arith}
use Rattle.std.specs.Prelude.{slice_get, slice_set}
use Rattle.std.specs.List.{All, AllZip}
use Rattle.std.proofs.lemmas.List.Elements.{All-head}
use Rattle.std.proofs.lemmas.Option.{same_Some}
use Rattle.index_sorts.specs.Entails.{AllHold}
use Rattle.xan_io.specs.Outcome.{How, Returned, NoStore, Overflow, Stuck, Running}
use Rattle.xan_seq.proofs.NumberTests.{less, is_less}
use Rattle.state_types.specs.Words.{Headers, HasType, Keeps, header_at}
use Rattle.state_types.specs.declared.closed.Signature.{Signature}
use Rattle.state_types.specs.declared.state.StateType.{StateType}
use Rattle.state_types.specs.declared.types.Ty.{Ty}
use Rattle.operation_rules.specs.Applied.{Ruled}
use Rattle.operation_rules.specs.Effects.{Effect, Writes, Prints, Takes, Calls, Gives, Ends}
use Rattle.operation_rules.specs.FlatWords.{Flat, flat_words}
use Rattle.operation_rules.specs.Operations.{needs}
use Rattle.operation_rules.specs.Rules.{Setting}
use Rattle.operation_rules.specs.Sound.{Written, Calling, Giving, EndsWell, Fares}
use Rattle.operation_rules.specs.Stored.{StoreFits}
use Rattle.operation_rules.specs.declared.operation.Operation.{Operation}
use Rattle.operation_rules.specs.declared.operation.Operation.TheVariants.{Call}
use Rattle.dtal_code.specs.Acceptance.{Accepted}
use Rattle.dtal_code.specs.Declarations.{table_of, setting_of, state_of}
use Rattle.dtal_code.specs.Instructions.{Instruction, instruction_in}
use Rattle.dtal_code.specs.Machine.{Activation, State, Next, On, Off, moved_on, goes_on, writes, returns}
use Rattle.dtal_code.specs.ObjectCode.{code_of}
use Rattle.dtal_code.specs.Passing.{with_types, ruled_verdict}
use Rattle.dtal_code.specs.Running.{store_of, with_words, goes_with, puts, first_activation, begins, acts}
use Rattle.dtal_code.specs.declared.program.DtalProgram.{DtalProgram}
use Rattle.dtal_code.specs.declared.program.Function.{Function}
use Rattle.dtal_safety.specs.Fitting.{Located, Stands, HasCaller, AllWait, StateFits}
use Rattle.dtal_safety.proofs.FunctionsBegin.{places_count, begun_holds, own_taken}
use Rattle.dtal_safety.proofs.InstructionParts.{with_target, writes_in, writes_count}
use Rattle.dtal_safety.proofs.LocatedStates.{placed_is, IsBegun, function_begins, function_is}
use Rattle.dtal_safety.proofs.Lookups.{map_back, zip_lengths}
use Rattle.dtal_safety.proofs.PlainEffects.{IsPlain}
use Rattle.dtal_safety.proofs.ProperStates.{IsProper}
use Rattle.dtal_safety.proofs.StandsOn.{all_stay, GoesOn, written_stands}
use Rattle.dtal_safety.proofs.VerdictKinds.{goes_straight, straight_next}

-- what a step may leave
abbrev pub Leaves : DtalProgram → List (List StateType) → Next → Type 0
Leaves program states (On printed next) = StateFits program states next
Leaves program states (Off how) = how ≢ Stuck

pub ends_well : (how : How) → EndsWell how → how ≢ Stuck
ends_well (Returned word) h = λ e. absurd (let bad : ⊥ = cc in bad)
ends_well NoStore h = λ e. absurd (let bad : ⊥ = cc in bad)
ends_well Overflow h = λ e. absurd (let bad : ⊥ = cc in bad)
ends_well Stuck h = absurd h
ends_well Running h = λ e. absurd (let bad : ⊥ = cc in bad)

same_headers : (headers : Headers) → Keeps headers headers
same_headers headers = record { keeps = λ address header e. e }

-- a state and the activation that stands uppermost in it
pub record At (program : DtalProgram) (states : List (List StateType)) (state : State) (top : Activation) (callers : List Activation) : Type 0 where
  pub store : StoreFits flat_words (table_of program) (store_of state)
  pub room : length state.words ≤ state.heap
  pub depth : length (top ∷ callers) ≤ state.depth
  pub number : ℕ
  pub fun : Function
  pub values : List ℤ
  pub stands : Stands program states (header_at state.words) number fun values top
  pub wait : AllWait program states (header_at state.words) callers number fun values top.result_to

module _ (program : DtalProgram) (accepted : Accepted program) (state : State) (top : Activation) (callers : List Activation)
    (at : At program accepted.states state top callers) where
  abbrev pub Here : Next → Type 0
  Here next = Leaves program accepted.states next

  abbrev pub own_setting : Setting
  own_setting = setting_of program at.fun.sig

  -- ---- an operation that writes, prints or ends

  -- the store and the uppermost activation are others then
  next_fits : (new : Flat) (act : Activation) → new.heap ≡ state.heap → length new.words ≤ state.heap → StoreFits flat_words (table_of program) new
      → Keeps (header_at state.words) (header_at new.words) → act.result_to ≡ top.result_to
      → Stands program accepted.states (header_at new.words) at.number at.fun at.values act
      → StateFits program accepted.states (record state { words = new.words; activations = act ∷ callers })
  next_fits new act same room fits keeps result stands = record {
    store = subst (λ h. StoreFits flat_words (table_of program) (record { words = new.words; heap = h })) same fits;
    room = room;
    top = act;
    callers = callers;
    uppermost = refl;
    depth = at.depth;
    number = at.number;
    fun = at.fun;
    values = at.values;
    stands = stands;
    wait = subst (λ r. AllWait program accepted.states (header_at new.words) callers at.number at.fun at.values r) (sym result)
        (all_stay program accepted.states (header_at state.words) (header_at new.words) callers at.number at.fun at.values top.result_to keeps at.wait);
  }

  put_leaves : (new : Flat) (i : Instruction) (words : List ℤ) → new.heap ≡ state.heap → length new.words ≤ state.heap → StoreFits flat_words (table_of program) new
      → Keeps (header_at state.words) (header_at new.words)
      → GoesOn program accepted.states (header_at new.words) at.number at.fun at.values top i.writes words
      → Here (puts (record state { words = new.words }) top callers i.writes words)
  put_leaves new i words same room fits keeps goes =
      subst (λ o. Leaves program accepted.states (goes_with (record state { words = new.words }) top callers o)) (sym goes.are)
      (next_fits new (moved_on top goes.places) same room fits keeps refl goes.stands)

  none_written : (places : List ℤ) (targets : List ℕ) (new : List ℤ) → length targets ≡ 0 → with_words places targets [] ≡ Some new → places ≡ new
  unfolding with_words
  none_written places [] new e f = same_Some places new f
  none_written places (p ∷ ps) new e f = absurd (let bad : ⊥ = omega (arith, e) in bad)

  print_leaves : (i : Instruction) (number : ℤ) → length i.writes ≡ 0
      → GoesOn program accepted.states (header_at state.words) at.number at.fun at.values top i.writes []
      → Here (goes_on state top callers (Some number) top.places)
  print_leaves i number none goes =
      let same = none_written top.places i.writes goes.places none goes.are in
      subst (λ ps. Leaves program accepted.states (goes_on state top callers (Some number) ps)) (sym same)
      (next_fits (store_of state) (moved_on top goes.places) refl at.room at.store (same_headers (header_at state.words)) refl goes.stands)

  pub plain_leaves : (i : Instruction) (target : ℕ) (op : Operation) (types : List Ty) (given : Ruled) (e : Effect Flat) → All (λ place. place < 256) i.writes
      → IsProper at.fun.sig.vars at.stands.state
      → Located program accepted.states (suc top.at) at.number at.fun (state_of given.ctx (with_types i.writes given.types at.stands.state.places))
      → IsPlain (length i.writes) state.heap e → Fares flat_words own_setting op types (store_of state) at.stands.assignment at.stands.state.ctx given e
      → Here (acts (code_of program) state top callers (with_target i target) e)
  plain_leaves i target op types given (Writes words new) within proper located plain fares =
      put_leaves new i words plain.1 plain.2 fares.fits fares.keeps
      (written_stands program accepted.states (header_at state.words) (header_at new.words) at.number at.fun at.values top at.stands proper fares.keeps given i.writes words
      fares.written within plain.0 located)
  plain_leaves i target op types given (Prints number) within proper located plain fares =
      print_leaves i number plain
      (written_stands program accepted.states (header_at state.words) (header_at state.words) at.number at.fun at.values top at.stands proper fares.keeps given i.writes []
      fares.written within (sym plain) located)
  plain_leaves i target op types given (Takes taken) within proper located plain fares = absurd plain
  plain_leaves i target op types given (Calls fun words) within proper located plain fares = absurd plain
  plain_leaves i target op types given (Gives word) within proper located plain fares = absurd plain
  plain_leaves i target op types given (Ends how) within proper located plain fares = ends_well how fares

  -- ---- calls

  -- the function that is called, of the signature that the call's rule looked at
  called_fits : (place : ℕ) (given : Ruled) (fun : ℕ) (words : List ℤ) (callee : Function) → slice_get program.funs fun ≡ Some callee
      → (instruction_in at.stands.located.instr.op).operation ≡ Call fun → (instruction_in at.stands.located.instr.op).writes ≡ place ∷ []
      → ruled_verdict own_setting at.stands.state (instruction_in at.stands.located.instr.op) at.stands.located.instr.by ≡ Ok given
      → (values : List ℤ) → length values ≡ callee.sig.vars → AllHold values callee.sig.rows → AllZip (HasType (header_at state.words) values) words callee.sig.params
      → ((later : Headers) (own : List ℤ) (word : ℤ) → length own ≡ callee.sig.result_vars → AllHold (values ++ own) callee.sig.result_rows
      → HasType later (values ++ own) word callee.sig.result → Written later at.stands.assignment at.stands.state.ctx given (word ∷ []))
      → (start : Option ℕ) → slice_get (code_of program).starts fun ≡ start
      → Here (begins state (top ∷ callers) start (place ∷ []) words)
  unfolding AllWait
  called_fits place given fun words callee there is_call is_place is_given values one hold fit back start is =
      let begun = function_begins program accepted fun callee there in
      subst (λ o. Leaves program accepted.states (begins state (top ∷ callers) o (place ∷ []) words)) (sym begun.is_start ∙ is)
      (by begun (nat_lt (length (top ∷ callers)) state.depth) refl)
    where
      count : length words ≤ 256
      count =
          let few = (function_is program accepted fun callee there).sig.few in
          let same = zip_lengths (HasType (header_at state.words) values) words callee.sig.params fit in
          omega (arith, few, same)

      by : (begun : IsBegun program accepted fun callee) (room : Test) → nat_lt (length (top ∷ callers)) state.depth ≡ room
          → Leaves program accepted.states (cond room
          (On None (record state { activations = first_activation begun.start words (Some place) ∷ top ∷ callers })) (Off NoStore))
      by begun true e = record {
        store = at.store;
        room = at.room;
        top = first_activation begun.start words (Some place);
        callers = top ∷ callers;
        uppermost = refl;
        depth = (let lt = is_less (length (top ∷ callers)) state.depth e in omega (arith, lt));
        number = fun;
        fun = callee;
        values = values;
        stands = record {
          state = begun.state;
          located = begun.located;
          places = places_count words count;
          assignment = values;
          own = own_taken callee.sig.vars values one;
          holds = begun_holds (header_at state.words) callee.sig begun.state values words begun.is_state one hold fit;
        };
        wait = record {
          lower = at.number;
          outer = at.fun;
          given = at.values;
          waits = record { stands = at.stands; is_call = is_call; is_place = is_place; ruled = given; is_ruled = is_given; back = back };
          others = at.wait;
        };
      }
      by begun false e = λ same. absurd (let bad : ⊥ = cc in bad)

  one_place : (places : List ℕ) → length places ≡ 1 → (place : ℕ) × (places ≡ place ∷ [])
  one_place [] e = absurd (let bad : ⊥ = omega (arith, e) in bad)
  one_place (p ∷ []) e = (p, refl)
  one_place (p ∷ q ∷ places) e = absurd (let bad : ⊥ = omega (arith, e) in bad)

  pub call_leaves : (given : Ruled) (fun : ℕ) (words : List ℤ)
      → (instruction_in at.stands.located.instr.op).operation ≡ Call fun
      → ruled_verdict own_setting at.stands.state (instruction_in at.stands.located.instr.op) at.stands.located.instr.by ≡ Ok given
      → Calling own_setting (header_at state.words) at.stands.assignment at.stands.state.ctx given fun words
      → Here (begins state (top ∷ callers) (slice_get (code_of program).starts fun) (instruction_in at.stands.located.instr.op).writes words)
  call_leaves given fun words is_call is_given calling =
      let i = instruction_in at.stands.located.instr.op in
      let many : length i.writes ≡ 1 = writes_count at.stands.located.instr.op ∙ ap (λ o. (needs o).writes) is_call in
      let place = one_place i.writes many in
      let callee = map_back (λ (f : Function). f.sig) program.funs fun calling.sig calling.there in
      subst (λ ps. Leaves program accepted.states (begins state (top ∷ callers) (slice_get (code_of program).starts fun) ps words)) (sym place.1)
      (called_fits place.0 given fun words callee.value callee.there is_call place.1 is_given calling.values
      (calling.one_each ∙ ap (λ (s : Signature). s.vars) (sym callee.is))
      (subst (λ (s : Signature). AllHold calling.values s.rows) (sym callee.is) calling.hold)
      (subst (λ (s : Signature). AllZip (HasType (header_at state.words) calling.values) words s.params) (sym callee.is) calling.fit)
      (subst (λ (s : Signature). (later : Headers) (own : List ℤ) (word : ℤ) → length own ≡ s.result_vars → AllHold (calling.values ++ own) s.result_rows
      → HasType later (calling.values ++ own) word s.result → Written later at.stands.assignment at.stands.state.ctx given (word ∷ [])) (sym callee.is) calling.back)
      (slice_get (code_of program).starts fun) refl)

  -- ---- returns

  -- the word stands in the caller's place, and the caller goes on
  back_fits : (caller : Activation) (others : List Activation) (place : ℕ) (word : ℤ) (wait : HasCaller program accepted.states (header_at state.words) at.number at.fun at.values place
      caller (AllWait program accepted.states (header_at state.words) others)) → suc (length others) ≤ state.depth
      → Giving at.fun.sig (header_at state.words) at.stands.assignment word → Here (writes state caller others place word)
  unfolding with_words
  back_fits caller others place word wait depth giving =
      let w = wait.waits in
      let l = w.stands.located in
      let i = instruction_in l.instr.op in
      let placed = placed_is program accepted caller.at wait.lower wait.outer w.stands.state l in
      let values = giving.own in
      let hold = subst (λ vs. AllHold (vs ++ values) at.fun.sig.result_rows) at.stands.own giving.hold in
      let fit = subst (λ vs. HasType (header_at state.words) (vs ++ values) word at.fun.sig.result) at.stands.own giving.fit in
      let written = w.back (header_at state.words) values word giving.one_each hold fit in
      let within : All (λ p. p < 256) (place ∷ []) = subst (λ ps. All (λ (p : ℕ). p < 256) ps) w.is_place (writes_in l.instr.op placed.op_in) in
      let straight : goes_straight i.operation ≡ true = ap goes_straight w.is_call in
      let located = subst (λ ps. Located program accepted.states (suc caller.at) wait.lower wait.outer (state_of w.ruled.ctx (with_types ps w.ruled.types w.stands.state.places))) w.is_place
      (straight_next program accepted caller.at wait.lower wait.outer w.stands.state l w.ruled straight w.is_ruled) in
      let goes = written_stands program accepted.states (header_at state.words) (header_at state.words) wait.lower wait.outer wait.given caller w.stands placed.proper
      (same_headers (header_at state.words)) w.ruled (place ∷ []) (word ∷ []) written within refl located in
      let inside : place < length caller.places = subst (λ n. place < n) (sym w.stands.places) (All-head (λ p. p < 256) place [] within) in
      let test = less place (length caller.places) inside in
      let new = slice_set caller.places place word in
      let none : Option (List ℤ) = None in
      let is : new ≡ goes.places = same_Some new goes.places (sym (ap (λ b. cond b (Some new) none) test) ∙ goes.are) in
      subst (λ b. Leaves program accepted.states (cond b (goes_on state caller others None new) (Off Stuck))) (sym test)
      (subst (λ ps. Leaves program accepted.states (goes_on state caller others None ps)) (sym is) (record {
        store = at.store;
        room = at.room;
        top = moved_on caller goes.places;
        callers = others;
        uppermost = refl;
        depth = depth;
        number = wait.lower;
        fun = wait.outer;
        values = wait.given;
        stands = goes.stands;
        wait = wait.others;
      }))

  pub return_by : (result_to : Option ℕ) (waiting : List Activation) (word : ℤ) → suc (length waiting) ≤ state.depth
      → AllWait program accepted.states (header_at state.words) waiting at.number at.fun at.values result_to
      → Giving at.fun.sig (header_at state.words) at.stands.assignment word → Here (returns state result_to waiting word)
  unfolding AllWait
  return_by None waiting word depth wait giving = λ e. absurd (let bad : ⊥ = cc in bad)
  return_by (Some place) [] word depth wait giving = absurd wait
  return_by (Some place) (caller ∷ others) word depth wait giving = back_fits caller others place word wait (omega (arith, depth)) giving
