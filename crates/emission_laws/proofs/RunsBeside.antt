-- When a state of the emitted program stands beside a state of the code over places: each kept place has its word in its home, and callers wait likewise.
use Rattle.std.proofs.Common.{◌≡◌, ◌≢◌, ℕ, zero, suc, ◌+◌, ◌≤◌, ℤ, List, [], ◌∷◌, ◌++◌, length, Option, Some, None, option_to_list, slice_get, refl, sym, ap, ◌∙◌, arith}
use Rattle.xan_io.specs.Outcome.{How, Stuck, Running, Outcome}
use Rattle.operation_rules.specs.FlatWords.{Flat}
use Rattle.three_address.specs.Flow.{label_at}
use Rattle.three_address.specs.Machine as low
use Rattle.three_address.specs.declared.function.LowFun.{LowFun}
use Rattle.three_address.specs.declared.typed.Edge.{Edge}
use Rattle.dtal_code.specs.Machine.{Activation, State, On, Off, after}
use Rattle.dtal_code.specs.ObjectCode.{Code}
use Rattle.dtal_code.specs.Running.{step, run}
use Rattle.dtal_emit.specs.Homes.{home_of, entry_moves}
use Rattle.dtal_emit.specs.Emitted.{fewer, emitted_all}
use Rattle.dtal_emit.proofs.CodePieces.{Has}
use Rattle.dtal_emit.proofs.WordMoves.{Leads, ops_of}
use Rattle.emission_laws.specs.ApartHomes.{AreApart, IsReadyFun}
use Rattle.emission_laws.proofs.PlacesHeld.{AreHeld, AreAside}
use Rattle.emission_laws.proofs.StretchesStand.{offset}

-- the number of the first instruction of a stretch
abbrev pub stretch_at : (start : ℕ) → (homes : List ℕ) → LowFun → List Edge → (at : ℕ) → ℕ
stretch_at start homes fun edges at = start + (length (entry_moves homes (fewer 8 (length fun.sig.params))) + offset homes fun.code edges at)

module _ (code : Code) (funs : List LowFun) (kept : (fun at place : ℕ) → Type 0) where
  -- the emitted instructions of a function stand in the object code
  pub record Stands (number : ℕ) (fun : LowFun) : Type 0 where
    pub homes : List ℕ
    pub edges : List Edge
    pub labels : ℕ
    pub start : ℕ
    pub at_label : ℕ → ℕ
    pub apart : AreApart fun homes (kept number)
    pub ready : IsReadyFun funs fun labels edges
    pub starts : slice_get code.starts number ≡ Some start
    pub has : Has code.ops start (ops_of at_label (entry_moves homes (fewer 8 (length fun.sig.params)) ++ emitted_all homes fun.code edges))
    pub labelled : (label to : ℕ) → label_at fun.labels label ≡ Some to → at_label label ≡ stretch_at start homes fun edges to

  -- the activation that runs
  pub record IsTop (a : low.Activation) (b : Activation) : Type 0 where
    pub fun : LowFun
    pub is_fun : slice_get funs a.fun ≡ Some fun
    pub stands : Stands a.fun fun
    pub here : b.at ≡ stretch_at stands.start stands.homes fun stands.edges a.at
    pub held : AreHeld stands.homes (kept a.fun a.at) a.places b.places

  -- one that waits for the word of a place
  pub record IsWaiting (place home : ℕ) (a : low.Activation) (b : Activation) : Type 0 where
    pub fun : LowFun
    pub is_fun : slice_get funs a.fun ≡ Some fun
    pub stands : Stands a.fun fun
    pub next : suc b.at ≡ stretch_at stands.start stands.homes fun stands.edges (suc a.at)
    pub home_is : home ≡ home_of stands.homes place
    pub aside : AreAside stands.homes (kept a.fun (suc a.at)) (place ∷ []) a.places b.places
    pub apart : (other : ℕ) → kept a.fun (suc a.at) other → place ≢ other → home_of stands.homes place ≢ home_of stands.homes other

  pub data Callers : Option ℕ → Option ℕ → List low.Activation → List Activation → Type 0 where
    Nobody : Callers None None [] []
    Caller : (place home : ℕ) (a : low.Activation) (b : Activation) (cs : List low.Activation) (bs : List Activation) → IsWaiting place home a b
        → Callers a.result_to b.result_to cs bs → Callers (Some place) (Some home) (a ∷ cs) (b ∷ bs)

  -- the states, part by part
  abbrev pub low_state : Flat → (depth : ℕ) → List low.Activation → low.State
  low_state store depth activations = record { store = store; depth = depth; activations = activations }

  abbrev pub text_state : Flat → (depth : ℕ) → List Activation → State
  text_state store depth activations = record { words = store.words; heap = store.heap; depth = depth; activations = activations }

  pub record Beside (a : low.Activation) (cs : List low.Activation) (b : Activation) (bs : List Activation) : Type 0 where
    pub top : IsTop a b
    pub callers : Callers a.result_to b.result_to cs bs
    pub as_many : length cs ≡ length bs

  -- ---- stretches of a run

  -- at least one step, with what is printed
  pub record Reaches (from : State) (out : Option ℤ) (to : State) : Type 0 where
    pub steps : ℕ
    pub by : (more : ℕ) (printed : List ℤ) → run code (suc steps + more) printed from ≡ run code more (printed ++ option_to_list out) to

  pub record Finishes (from : State) (how : How) : Type 0 where
    pub steps : ℕ
    pub by : (more : ℕ) (printed : List ℤ) → run code (suc steps + more) printed from ≡ record { printed = printed; how = how }

  pub reaches_step : (from : State) (out : Option ℤ) (to : State) → step code from ≡ On out to → Reaches from out to
  unfolding run
  reaches_step from out to e = record {
    steps = 0;
    by = λ more printed. let same : suc 0 + more ≡ suc more = omega arith in
        ap (λ n. run code n printed from) same ∙ ap (λ n. after n printed (run code more)) e;
  }

  pub leads_reaches : (from middle : State) (out : Option ℤ) (to : State) → Leads code from middle → Reaches middle out to → Reaches from out to
  leads_reaches from middle out to first second = record {
    steps = first.steps + second.steps;
    by = λ more printed.
        let same : suc (first.steps + second.steps) + more ≡ first.steps + (suc second.steps + more) = omega arith in
        ap (λ n. run code n printed from) same ∙ first.by (suc second.steps + more) printed ∙ second.by more printed;
  }

  pub reaches_leads : (from middle : State) (out : Option ℤ) (to : State) → Reaches from out middle → Leads code middle to → Reaches from out to
  reaches_leads from middle out to first second = record {
    steps = first.steps + second.steps;
    by = λ more printed.
        let same : suc (first.steps + second.steps) + more ≡ suc first.steps + (second.steps + more) = omega arith in
        ap (λ n. run code n printed from) same ∙ first.by (second.steps + more) printed ∙ second.by more (printed ++ option_to_list out);
  }

  pub finishes_step : (from : State) (how : How) → step code from ≡ Off how → Finishes from how
  unfolding run
  finishes_step from how e = record {
    steps = 0;
    by = λ more printed. let same : suc 0 + more ≡ suc more = omega arith in ap (λ n. run code n printed from) same ∙ ap (λ n. after n printed (run code more)) e;
  }

  pub leads_finishes : (from to : State) (how : How) → Leads code from to → Finishes to how → Finishes from how
  leads_finishes from to how first second = record {
    steps = first.steps + second.steps;
    by = λ more printed.
        let same : suc (first.steps + second.steps) + more ≡ first.steps + (suc second.steps + more) = omega arith in
        ap (λ n. run code n printed from) same ∙ first.by (suc second.steps + more) printed ∙ second.by more printed;
  }

  -- ---- what a step of the code over places leaves, and what the emitted program does beside it

  pub record GoesOn (out : Option ℤ) (next : low.State) (from : State) : Type 0 where
    pub store : Flat
    pub depth : ℕ
    pub a : low.Activation
    pub cs : List low.Activation
    pub b : Activation
    pub bs : List Activation
    pub is_next : next ≡ low_state store depth (a ∷ cs)
    pub reaches : Reaches from out (text_state store depth (b ∷ bs))
    pub beside : Beside a cs b bs

  abbrev pub DoesSo : State → low.Next → Type 0
  DoesSo from (low.On out next) = GoesOn out next from
  DoesSo from (low.Off how) = how ≢ Stuck → Finishes from how

  -- ---- whole runs

  pub record Runs (n : ℕ) (printed : List ℤ) (from : State) (outcome : Outcome) : Type 0 where
    pub steps : ℕ
    pub same : run code steps printed from ≡ outcome
    pub as_long : outcome.how ≡ Running → n ≤ steps

  module _ (each : (store : Flat) (depth : ℕ) (a : low.Activation) (cs : List low.Activation) (b : Activation) (bs : List Activation) → Beside a cs b bs
      → DoesSo (text_state store depth (b ∷ bs)) (low.step funs (low_state store depth (a ∷ cs)))) where
    abbrev AllRun : ℕ → Type 0
    AllRun n = (printed : List ℤ) (store : Flat) (depth : ℕ) (a : low.Activation) (cs : List low.Activation) (b : Activation) (bs : List Activation) → Beside a cs b bs
        → (low.run funs n printed (low_state store depth (a ∷ cs))).how ≢ Stuck
        → Runs n printed (text_state store depth (b ∷ bs)) (low.run funs n printed (low_state store depth (a ∷ cs)))

    by_next : (n : ℕ) (printed : List ℤ) (from : State) (next : low.Next) → AllRun n → DoesSo from next → (low.after next printed (low.run funs n)).how ≢ Stuck
        → Runs (suc n) printed from (low.after next printed (low.run funs n))
    by_next n printed from (low.Off how) rest does good =
        let f = does good in
        record { steps = suc f.steps + suc n; same = f.by (suc n) printed; as_long = λ r. omega arith }
    by_next n printed from (low.On out next) rest does good =
        let same_run : low.run funs n (printed ++ option_to_list out) next ≡ low.run funs n (printed ++ option_to_list out) (low_state does.store does.depth (does.a ∷ does.cs))
        = ap (λ s. low.run funs n (printed ++ option_to_list out) s) does.is_next in
        let later = rest (printed ++ option_to_list out) does.store does.depth does.a does.cs does.b does.bs does.beside (λ h. good (ap (λ (o : Outcome). o.how) same_run ∙ h)) in
        record {
          steps = suc does.reaches.steps + later.steps;
          same = does.reaches.by later.steps printed ∙ later.same ∙ sym same_run;
          as_long = λ r. (let l = later.as_long (ap (λ (o : Outcome). o.how) (sym same_run) ∙ r) in omega (arith, l));
        }

    pub runs_so : (n : ℕ) → AllRun n
    unfolding low.run run
    runs_so zero printed store depth a cs b bs beside ok = record { steps = 0; same = refl; as_long = λ r. omega arith }
    runs_so (suc n) printed store depth a cs b bs beside ok =
        by_next n printed (text_state store depth (b ∷ bs)) (low.step funs (low_state store depth (a ∷ cs))) (runs_so n) (each store depth a cs b bs beside) ok
