-- The emitted program's runs follow those of the code over places.
use Rattle.std.proofs.Common.{◌≡◌, ◌≢◌, ℕ, zero, suc, ◌+◌, ◌-◌, ◌<◌, ◌≤◌, ◌==◌, ℤ, pos, Bool, true, false, ◌&&◌, List, [], ◌∷◌, ◌++◌, length, take, Option, Some, None, nat_lt, slice_get, if◌then◌else◌, option_map, refl, sym, ap, subst, ◌∙◌, arith}
use Rattle.std.specs.Prelude.{bytes_eq, codes}
use Rattle.std.proofs.lemmas.Bool.Decides.{nat_tests}
use Rattle.std.proofs.lemmas.Option.{none-some, same_Some}
use Rattle.xan_io.specs.declared.arg.Arg.{Arg}
use Rattle.xan_io.specs.declared.arg.Arg.TheVariants as arg
use Rattle.xan_io.specs.Agreement.{Follows}
use Rattle.xan_io.specs.Entry.{EntryFault, ArgCount, unless_faulty}
use Rattle.xan_io.specs.Outcome.{Stuck}
use Rattle.state_types.specs.declared.state.StateType.{StateType}
use Rattle.state_types.specs.declared.types.Ty.{Ty}
use Rattle.xan_lin.specs.Linear.{Linear}
use Rattle.operation_rules.specs.Effects.{truth_word}
use Rattle.operation_rules.specs.Entry as entry
use Rattle.operation_rules.specs.Entry.{entry_fault, placed}
use Rattle.operation_rules.specs.FlatWords.{Flat, flat_words}
use Rattle.three_address.specs.Entry as low_entry
use Rattle.three_address.specs.Flow.{label_at}
use Rattle.three_address.specs.Machine as low
use Rattle.three_address.specs.declared.assignment.Assignment.{Assignment}
use Rattle.three_address.specs.declared.function.LowFun.{LowFun}
use Rattle.three_address.specs.declared.typed.Edge.{Edge}
use Rattle.three_address.specs.declared.typed.Typed.{Typed}
use Rattle.dtal_code.specs.declared.instruction.Instr.{Instr}
use Rattle.state_types.specs.declared.closed.Signature.{Signature}
use Rattle.dtal_code.specs.declared.program.DtalProgram.{DtalProgram}
use Rattle.dtal_code.specs.declared.program.Function.{Function}
use Rattle.dtal_code.specs.Declarations.{main_of, main_or, at_first}
use Rattle.dtal_code.specs.Grammar.{size_of}
use Rattle.dtal_code.specs.Instructions.{resolved}
use Rattle.dtal_code.specs.Machine.{Activation}
use Rattle.dtal_code.specs.ObjectCode.{Code, code_of, target_in, program_size, start_of, start_or, main_start}
use Rattle.dtal_code.specs.Runs as runs
use Rattle.dtal_code.proofs.PlaceWords.{length-places_of}
use Rattle.dtal_emit.specs.Homes.{entry_moves}
use Rattle.dtal_emit.specs.Emitted.{fewer, emitted_all, emitted_fun, emitted_funs, emitted}
use Rattle.dtal_safety.proofs.CodeFound.{code_found, start_there}
use Rattle.dtal_safety.proofs.Lookups.{map_back}
use Rattle.emission_laws.specs.ApartHomes.{IsReadyFun}
use Rattle.emission_laws.specs.FollowedRuns.{main_number, AreReady, RunsFollow}
use Rattle.emission_laws.proofs.EnteredFunctions.{entered, first_there}
use Rattle.emission_laws.proofs.RunsBeside.{stretch_at, Stands, Nobody, Beside, runs_so}
use Rattle.emission_laws.proofs.StepsBeside.{Enters, step_beside}
use Rattle.emission_laws.proofs.StretchesStand.{offset, labelled, instrs_are, emitted_found}

-- ---- the arguments' words

one_word : (n : ℤ) (count : ℕ) (begun : List ℤ × Flat) (o : Option (List ℤ × Flat)) → entry.with_word n o ≡ Some begun → ((b : List ℤ × Flat) → o ≡ Some b → length b.0 ≡ count)
    → length begun.0 ≡ suc count
one_word n count begun None f rest = absurd (none-some begun f)
one_word n count begun (Some b) f rest = ap (λ (p : List ℤ × Flat). length p.0) (sym (same_Some (n ∷ b.0, b.1) begun f)) ∙ ap suc (rest b refl)

words_each : (args : List Arg) (store : Flat) (begun : List ℤ × Flat) → placed flat_words args store ≡ Some begun → length begun.0 ≡ length args
unfolding placed
words_each [] store begun e = ap (λ (p : List ℤ × Flat). length p.0) (sym (same_Some ([], store) begun e))
words_each (arg.Int n ∷ args) store begun e = one_word n (length args) begun (placed flat_words args store) e (λ b f. words_each args store b f)
words_each (arg.Bool t ∷ args) store begun e = one_word (truth_word t) (length args) begun (placed flat_words args store) e (λ b f. words_each args store b f)
words_each (arg.Array cells ∷ args) store begun e =
    by_room (flat_words.room store (length cells + 2)) e
    (λ f. (let made = flat_words.made store 0 cells in one_word (pos made.0) (length args) begun (placed flat_words args made.1) f (λ b g. words_each args made.1 b g)))
  where
    by_room : (t : Bool) → (if t then (let made = flat_words.made store 0 cells in entry.with_word (pos made.0) (placed flat_words args made.1)) else None) ≡ Some begun
        → ((let made = flat_words.made store 0 cells in entry.with_word (pos made.0) (placed flat_words args made.1)) ≡ Some begun → length begun.0 ≡ suc (length args))
        → length begun.0 ≡ suc (length args)
    by_room true f rest = rest f
    by_room false f rest = absurd (none-some begun f)

by_count : (more : Option EntryFault) (t : Bool) (m n : ℕ) → m == n ≡ t → (if t then more else Some ArgCount) ≡ None → m ≡ n
by_count more true m n f h = grind (arith, nat_tests)
by_count more false m n f h = absurd (none-some ArgCount (sym h))

as_many_args : (vars : ℕ) (rows : List Linear) (params : List Ty) (args : List Arg) → entry_fault vars rows params args ≡ None → length args ≡ length params
unfolding entry_fault
as_many_args vars rows params args e = by_count _ (length args == length params) (length args) (length params) refl e

-- ---- main

record IsMain (funs : List Function) (number : ℕ) (fun : LowFun) : Type 0 where
  main : Function
  there : slice_get funs number ≡ Some main
  found : main_of funs ≡ Some (number, main)
  same : main.sig ≡ fun.sig

-- every function has what emission takes
AreEach : List LowFun → List (List StateType) → List (List Edge) → List (List ℕ) → Type 0
AreEach funs states edges homes = (number : ℕ) (fun : LowFun) → slice_get funs number ≡ Some fun
    → (labels : List StateType) × (es : List Edge) × (hs : List ℕ) × (slice_get states number ≡ Some labels) × (slice_get edges number ≡ Some es) × (slice_get homes number ≡ Some hs)

main_found : (funs : List LowFun) (states : List (List StateType)) (edges : List (List Edge)) (homes : List (List ℕ)) (number : ℕ) (fun : LowFun) → AreEach funs states edges homes
    → main_number funs ≡ Some number → slice_get funs number ≡ Some fun → IsMain (emitted_funs funs states edges homes) number fun
unfolding main_number main_of emitted_funs AreEach
main_found [] states edges homes number fun each e f = absurd (none-some fun f)
main_found (x ∷ funs) [] edges homes number fun each e f = absurd (let a = each 0 x refl in none-some a.0 a.3)
main_found (x ∷ funs) (y ∷ states) [] homes number fun each e f = absurd (let a = each 0 x refl in none-some a.1 a.4)
main_found (x ∷ funs) (y ∷ states) (z ∷ edges) [] number fun each e f = absurd (let a = each 0 x refl in none-some a.2 a.5)
main_found (x ∷ funs) (y ∷ states) (z ∷ edges) (u ∷ homes) number fun each e f =
    by_name (bytes_eq x.name (codes "main")) refl number f e (λ n g h. main_found funs states edges homes n fun (λ k k_fun there. each (suc k) k_fun there) g h)
  where
    first : Function
    first = emitted_fun x y z u

    others : List Function
    others = emitted_funs funs states edges homes

    shifted : (n : ℕ) → IsMain others n fun → main_of (first ∷ others) ≡ at_first (main_of others) → IsMain (first ∷ others) (suc n) fun
    shifted n m e = record { main = m.main; there = m.there; found = e ∙ ap at_first m.found; same = m.same }

    by_rest : (o : Option ℕ) (number : ℕ) → main_number funs ≡ o → option_map suc o ≡ Some number → slice_get (x ∷ funs) number ≡ Some fun
        → ((n : ℕ) → main_number funs ≡ Some n → slice_get funs n ≡ Some fun → IsMain others n fun) → main_of (first ∷ others) ≡ at_first (main_of others) → IsMain (first ∷ others) number fun
    by_rest None number g h f rest e = absurd (none-some number h)
    by_rest (Some n) number g h f rest e =
        let same : suc n ≡ number = same_Some (suc n) number h in
        subst (λ k. IsMain (first ∷ others) k fun) same (shifted n (rest n g (subst (λ k. slice_get (x ∷ funs) k ≡ Some fun) (sym same) f)) e)

    by_name : (t : Bool) → bytes_eq x.name (codes "main") ≡ t → (number : ℕ) → slice_get (x ∷ funs) number ≡ Some fun → (if t then Some 0 else option_map suc (main_number funs)) ≡ Some number
        → ((n : ℕ) → main_number funs ≡ Some n → slice_get funs n ≡ Some fun → IsMain others n fun) → IsMain (first ∷ others) number fun
    by_name true t number f e rest =
        let zero_is : 0 ≡ number = same_Some 0 number e in
        subst (λ k. IsMain (first ∷ others) k fun) zero_is (record {
          main = first;
          there = refl;
          found = ap (λ b. main_or b first (main_of others)) t;
          same = ap (λ (g : LowFun). g.sig) (same_Some x fun (subst (λ k. slice_get (x ∷ funs) k ≡ Some fun) (sym zero_is) f));
        })
    by_name false t number f e rest = by_rest (main_number funs) number refl e f rest (ap (λ b. main_or b first (main_of others)) t)

-- ---- the program

module _ (typed : Typed) (homes : Assignment) (kept : (fun at place : ℕ) → Type 0) (are : AreReady typed homes kept) where
  program : DtalProgram
  program = emitted typed homes

  code : Code
  code = code_of (emitted typed homes)

  each_there : AreEach typed.low.funs typed.states typed.edges homes.homes
  unfolding AreEach
  each_there number fun e = (let r = are.each number fun e in (r.labels, r.edges, r.own, r.labels_there, r.edges_there, r.homes_there))

  begins : (number : ℕ) (fun : LowFun) → slice_get typed.low.funs number ≡ Some fun → Stands (code_of (emitted typed homes)) typed.low.funs kept number fun
  unfolding emitted
  begins number fun e =
      let r = are.each number fun e in
      let emitted_one = emitted_fun fun r.labels r.edges r.own in
      let funs = emitted_funs typed.low.funs typed.states typed.edges homes.homes in
      let moves = entry_moves r.own (fewer 8 (length fun.sig.params)) in
      let is_there : slice_get funs number ≡ Some emitted_one = emitted_found number typed.low.funs typed.states typed.edges homes.homes fun r.labels r.edges r.own e r.labels_there r.edges_there r.homes_there in
      let start = start_there 0 number funs emitted_one is_there in
      let at_label = target_in (program_size funs) start.value emitted_one.blocks in
      record {
        homes = r.own;
        edges = r.edges;
        labels = length r.labels;
        start = start.value;
        at_label = at_label;
        apart = r.apart;
        ready = r.ready;
        starts = start.there;
        has = record {
          by = λ k o g.
              let m = map_back (λ (i : Instr). resolved at_label i.op) (moves ++ emitted_all r.own fun.code r.edges) k o g in
              code_found (emitted typed homes) number start.value k emitted_one m.value is_there start.there
              (ap (λ l. slice_get l k) (instrs_are r.own 0 None fun.labels r.labels fun.code r.edges moves) ∙ m.there) ∙ ap Some m.is;
        };
        labelled = λ label to g. label_is fun r.labels r.edges r.own r.ready (program_size funs) start.value label to g;
      }
    where
      label_is : (fun : LowFun) (labels : List StateType) (edges : List Edge) (own : List ℕ) (ready : IsReadyFun typed.low.funs fun (length labels) edges) (past start : ℕ) (label to : ℕ)
          → label_at fun.labels label ≡ Some to → target_in past start (emitted_fun fun labels edges own).blocks label ≡ stretch_at start own fun edges to
      label_is fun labels edges own ready past start zero to g = absurd (none-some to g)
      label_is fun labels edges own ready past start (suc before) to g =
          let moves = entry_moves own (fewer 8 (length fun.sig.params)) in
          let l = labelled own 0 before None fun.labels labels fun.code edges moves to ready.rise ready.label_each g in
          let blocks = (emitted_fun fun labels edges own).blocks in
          let within = l.there in
          let one : nat_lt 0 (suc before) ≡ true = grind (arith, nat_tests) in
          let two : nat_lt (suc before) (length blocks) ≡ true = grind (arith, nat_tests, within) in
          let size = l.size in
          ap (λ b. if b && nat_lt (suc before) (length blocks) then start + size_of (take (suc before) blocks) else past) one
          ∙ ap (λ b. if b then start + size_of (take (suc before) blocks) else past) two
          ∙ ap (λ n. start + n) (size ∙ ap (λ n. length moves + offset own fun.code edges n) (let z : to - 0 ≡ to = omega arith in z))

  enters : (store : Flat) (depth number : ℕ) (given : List ℤ) (result : Option ℕ) (bs : List Activation) (fun : LowFun) (stands : Stands (code_of (emitted typed homes)) typed.low.funs kept number fun)
      → length given ≤ length fun.sig.params → Enters (code_of (emitted typed homes)) typed.low.funs kept begins store depth number stands.start given result bs fun stands
  enters store depth number given result bs fun stands few =
      let params = stands.ready.few_params in
      let e = entered (code_of (emitted typed homes)) typed.low.funs kept store depth number given result bs fun stands few (length-places_of given (omega (arith, few, params))) in
      record { places = e.0; leads = e.1; held = e.2 }

  jumps_there : (number to : ℕ) (fun : LowFun) (stands : Stands (code_of (emitted typed homes)) typed.low.funs kept number fun) → to < length fun.code
      → stretch_at stands.start stands.homes fun stands.edges to < length (code_of (emitted typed homes)).ops
  jumps_there number to fun stands h = first_there (code_of (emitted typed homes)) typed.low.funs kept number to fun stands h

  from_entry : (number : ℕ) (fun : LowFun) (is_fun : slice_get typed.low.funs number ≡ Some fun) (depth : ℕ) (o : Option (List ℤ × Flat))
      → ((b : List ℤ × Flat) → o ≡ Some b → length b.0 ≤ length fun.sig.params) → (n : ℕ)
      → (low_entry.outcome_from typed.low.funs (low_entry.entry_state number depth o) n).how ≢ Stuck
      → Follows (runs.outcome_from (code_of (emitted typed homes)) (runs.entry_state (begins number fun is_fun).start depth o)) n (low_entry.outcome_from typed.low.funs (low_entry.entry_state number depth o) n)
  unfolding low_entry.outcome_from runs.outcome_from
  from_entry number fun is_fun zero o few n good = record { steps = n; same = refl; as_long = λ r. omega arith }
  from_entry number fun is_fun (suc depth) None few n good = record { steps = n; same = refl; as_long = λ r. omega arith }
  from_entry number fun is_fun (suc depth) (Some begun) few n good =
      let program_code = code_of (emitted typed homes) in
      let stands = begins number fun is_fun in
      let e = enters begun.1 (suc depth) number begun.0 None [] fun stands (few begun refl) in
      let a : low.Activation = record { fun = number; at = 0; places = low.places_of begun.0; result_to = None } in
      let b : Activation = record { at = stretch_at stands.start stands.homes fun stands.edges 0; places = e.places; result_to = None } in
      let beside : Beside program_code typed.low.funs kept a [] b [] = record {
        top = record { fun = fun; is_fun = is_fun; stands = stands; here = refl; held = e.held };
        callers = Nobody;
        as_many = refl;
      } in
      let r = runs_so program_code typed.low.funs kept (step_beside program_code typed.low.funs kept begins enters jumps_there) n [] begun.1 (suc depth) a [] b [] beside good in
      record {
        steps = e.leads.steps + r.steps;
        same = e.leads.by r.steps [] ∙ r.same;
        as_long = λ running. (let l = r.as_long running in omega (arith, l));
      }

  -- whatever the first fault
  by_fault : (fault : Option EntryFault) (number : ℕ) (fun : LowFun) (is_fun : slice_get typed.low.funs number ≡ Some fun) (depth : ℕ) (o : Option (List ℤ × Flat))
      → (fault ≡ None → (b : List ℤ × Flat) → o ≡ Some b → length b.0 ≤ length fun.sig.params)
      → RunsFollow (unless_faulty fault (low_entry.outcome_from typed.low.funs (low_entry.entry_state number depth o)))
      (runs.outcomes (code_of (emitted typed homes)) (unless_faulty fault (runs.entry_state (begins number fun is_fun).start depth o)))
  by_fault (Some fault) number fun is_fun depth o few = refl
  by_fault None number fun is_fun depth o few = λ n good. from_entry number fun is_fun depth o (few refl) n good

  there_is : (funs : List LowFun) (number : ℕ) → main_number funs ≡ Some number → (fun : LowFun) × (slice_get funs number ≡ Some fun)
  unfolding main_number
  there_is [] number e = absurd (none-some number e)
  there_is (x ∷ funs) zero e = (x, refl)
  there_is (x ∷ funs) (suc n) e = by_name (bytes_eq x.name (codes "main")) (main_number funs) refl e (λ m g. there_is funs m g)
    where
      by_name : (t : Bool) (o : Option ℕ) → main_number funs ≡ o → (if t then Some 0 else option_map suc o) ≡ Some (suc n) → ((m : ℕ) → main_number funs ≡ Some m → (fun : LowFun) × (slice_get funs m ≡ Some fun))
          → (fun : LowFun) × (slice_get funs n ≡ Some fun)
      by_name true o f g rest = (let z : 0 ≡ suc n = same_Some 0 (suc n) g in absurd (omega (arith, z)))
      by_name false None f g rest = absurd (none-some (suc n) g)
      by_name false (Some m) f g rest = (let s : suc m ≡ suc n = same_Some (suc m) (suc n) g in let same : m ≡ n = omega (arith, s) in rest n (f ∙ ap Some same))

  pub program_follows : (args : List Arg) (heap depth : ℕ) → RunsFollow (low_entry.low_entry typed.low args heap depth) (runs.program_run (emitted typed homes) args heap depth)
  unfolding runs.program_run runs.program_entry emitted
  program_follows args heap depth =
      let there = there_is typed.low.funs typed.low.main are.main_is in
      let fun = there.0 in
      let is_fun = there.1 in
      let stands = begins typed.low.main fun is_fun in
      let funs = emitted_funs typed.low.funs typed.states typed.edges homes.homes in
      let main = main_found typed.low.funs typed.states typed.edges homes.homes typed.low.main fun each_there are.main_is is_fun in
      let o = placed flat_words args (record { words = []; heap = heap }) in
      let program_code = code_of (emitted typed homes) in
      let text_is : runs.entry_of (main_of funs) (main_start (emitted typed homes)) args heap depth
      ≡ unless_faulty (entry_fault fun.sig.vars fun.sig.rows fun.sig.params args) (runs.entry_state stands.start depth o)
      = ap (λ m. runs.entry_of m (main_start (emitted typed homes)) args heap depth) main.found
      ∙ ap (λ m. unless_faulty (entry_fault main.main.sig.vars main.main.sig.rows main.main.sig.params args) (runs.entry_state (start_of (emitted typed homes) m) depth o)) main.found
      ∙ ap (λ s. unless_faulty (entry_fault main.main.sig.vars main.main.sig.rows main.main.sig.params args) (runs.entry_state (start_or (program_size funs) s) depth o)) stands.starts
      ∙ ap (λ (sig : Signature). unless_faulty (entry_fault sig.vars sig.rows sig.params args) (runs.entry_state stands.start depth o)) main.same in
      let good = by_fault (entry_fault fun.sig.vars fun.sig.rows fun.sig.params args) typed.low.main fun is_fun depth o
      (λ none b e. (let w = words_each args _ b e in let c = as_many_args fun.sig.vars fun.sig.rows fun.sig.params args none in omega (arith, w, c))) in
      subst (λ f. RunsFollow (unless_faulty (low_entry.fault_of f args) (low_entry.low_outcome typed.low args heap depth)) (runs.outcomes program_code (runs.entry_of (main_of funs) (main_start (emitted typed homes)) args heap depth))) (sym is_fun)
      (subst (λ t. RunsFollow (unless_faulty (entry_fault fun.sig.vars fun.sig.rows fun.sig.params args) (low_entry.low_outcome typed.low args heap depth)) (runs.outcomes program_code t)) (sym text_is) good)
