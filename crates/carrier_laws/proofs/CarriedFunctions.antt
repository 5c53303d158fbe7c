-- Each function of a carried program is typed.
use Rattle.std.proofs.Common.{◌≡◌, ◌∙◌, ℕ, zero, suc, ◌+◌, ◌<◌, ◌≤◌, ◌==◌, ◌⊎◌, inl, inr, cond, Bool as Truth, true, false, List, [], ◌∷◌, ◌++◌, length, map, take, slice_get, Option, Some, refl, sym, ap, ap₂, subst, arith, append_assoc, append-nil}
use Rattle.std.specs.List.{All, AllByRecursion, AllZip, enumerate_from}
use Rattle.std.proofs.lemmas.Bool.Decides.{Decides-eqb}
use Rattle.std.proofs.lemmas.List.{append_cancel_right, length-map}
use Rattle.std.proofs.lemmas.List.Elements.{All-nil, All-cons}
use Rattle.std.proofs.lemmas.Option.{same_Some}
use Rattle.lowering.specs.CodeBlocks.{Spaced, InBlocks}
use Rattle.value_lowering.specs.Frames.{frame_of}
use Rattle.lowering.specs.Lowered.{leads, renumbered, places_reach, code_reach, labels_of, code_of, function_of, lowered}
use Rattle.lowering.specs.StatementCode.{block_labels}
use Rattle.value_lowering.proofs.KindsFound.{number_is_found}
use Rattle.lowering.proofs.LoweredFunctions.{places_counted, in_blocks}
use Rattle.lowering.proofs.NumbersFound.{numbered_at}
use Rattle.operation_rules.specs.Rules.{Setting}
use Rattle.operation_rules.specs.Settings.{IsFew}
use Rattle.operation_rules.specs.Sound.{IsHeader}
use Rattle.state_types.specs.PlaceTypes.{type_at}
use Rattle.state_types.specs.declared.closed.Packed.{Packed}
use Rattle.state_types.specs.declared.closed.Signature.{Signature}
use Rattle.state_types.specs.declared.state.StateType.{StateType}
use Rattle.state_types.specs.declared.types.Ty.{Ty}
use Rattle.three_address.specs.LiveLabels.{AreAllColumns}
use Rattle.three_address.specs.Typing.{IsLabel, IsTyped, IsTypedFun, Starts, setting_of, state_of}
use Rattle.three_address.specs.declared.function.LowFun.{LowFun}
use Rattle.three_address.specs.declared.function.Lowered.{Lowered}
use Rattle.three_address.specs.declared.instruction.LowInstr.{LowInstr}
use Rattle.three_address.specs.declared.typed.Edge.{Edge}
use Rattle.three_address.specs.declared.typed.Typed.{Typed as TypedCode}
use Rattle.xanadu_tree.specs.BodyRules.{completes_all}
use Rattle.xanadu_tree.specs.KindRules.{header, kind_of}
use Rattle.xanadu_tree.specs.Plain as core
use Rattle.xanadu_tree.specs.PlainOf.{plain_core}
use Rattle.xanadu_tree.specs.Shaped.{Shaped}
use Rattle.xanadu_tree.specs.Shaped as shaped
use Rattle.typed_core.specs.Goals.{Elaboration, body_start}
use Rattle.typed_core.specs.Proving.{ProvedParts, IsElaboration, ProveAll}
use Rattle.typed_core.specs.States.{Site, State}
use Rattle.typed_core.specs.Statements.{block}
use Rattle.typed_core.proofs.Continued.{no_more}
use Rattle.typed_core.proofs.FitPrograms.{IsSignedOf, start_fits}
use Rattle.typed_core.proofs.NamedPrograms.{each, start_stays}
use Rattle.typed_core.proofs.NamedStates.{answered}
use Rattle.source_safety.specs.Recorded.{site_of}
use Rattle.source_safety.proofs.BodiesStart.{setting_in, IsBody, body_of}
use Rattle.source_safety.proofs.EntryFits.{IsExact, signature_is, signature_at}
use Rattle.source_safety.proofs.PlacesKnown.{IsAt}
use Rattle.type_carrier.specs.Carried.{Carries, Columns, Functions, function, proofs_of, body_begins}
use Rattle.type_carrier.specs.CarriedTests.{Labelled, Sources}
use Rattle.carrier_laws.proofs.BlocksTyped.{block_typed}
use Rattle.carrier_laws.proofs.BodiesTyped.{edges_long, states_long, get_last, allowed, again}
use Rattle.carrier_laws.proofs.ChainsTyped.{Body, Chain, Done, Next, CodeAt}
use Rattle.carrier_laws.proofs.FragmentsTyped.{HasLabels, AllAhead, Begins, LabelStands, Passes, Typed}
use Rattle.carrier_laws.proofs.FunctionsCarried.{CarriedAt}
use Rattle.carrier_laws.proofs.GroundsFound.{grounds_found}
use Rattle.carrier_laws.proofs.NotedStates.{IsNoted, noted_is_label}
use Rattle.carrier_laws.proofs.NotesNoted.{none_made, block_well}
use Rattle.carrier_laws.proofs.OperandsRun.{Walk, IsWalk, Here, Within, same_behind}
use Rattle.carrier_laws.proofs.PlacesKept.{Grounds, Place}
use Rattle.carrier_laws.proofs.StartsFound.{start_is, start_place, start_vars, starts}
use Rattle.carrier_laws.proofs.StatementsTaken.{block_taken}
use Rattle.carrier_laws.proofs.StatesTaken.{OfState, IsCut, block_made}
use Rattle.carrier_laws.proofs.WholeTyped.{FunctionsTyped, parts, declared, sigs_same, program_typed}

-- ---- places of instructions

reach_at : (code : List LowInstr) (n : ℕ) (i : LowInstr) → slice_get code n ≡ Some i → places_reach i.places ≤ code_reach code
unfolding code_reach
reach_at [] n i e = absurd (let bad : ⊥ = cc in bad)
reach_at (j ∷ code) zero i e =
    let same : places_reach j.places ≡ places_reach i.places = ap (λ x. places_reach x.places) (same_Some j i e) in
    omega (arith, same)
reach_at (j ∷ code) (suc n) i e = (let rest = reach_at code n i e in omega (arith, rest))

below_reach : (places : List ℕ) (most : ℕ) → places_reach places ≤ most → All (λ place. place < most) places
unfolding places_reach
below_reach [] most le = All-nil (λ place. place < most)
below_reach (place ∷ places) most le = All-cons (λ p. p < most) place places (omega (arith, le)) (below_reach places most (omega (arith, le)))

-- ---- parameters

parameter_below : (low : ℕ) (ts : List Ty) (x : ℕ) (t : Ty) → type_at x (enumerate_from low ts) ≡ Some t → x < low + length ts
parameter_below low [] x t e = absurd (let bad : ⊥ = cc in bad)
parameter_below low (u ∷ us) x t e = by_test (low == x) refl e (λ h. parameter_below (low + 1) us x t h)
  where
    by_test : (b : Truth) → (low == x) ≡ b → cond b (let o : Option Ty = Some u in o) (type_at x (enumerate_from (low + 1) us)) ≡ Some t
        → (type_at x (enumerate_from (low + 1) us) ≡ Some t → x < (low + 1) + length us) → x < low + suc (length us)
    by_test true here at later = (let same : low ≡ x = (Decides-eqb low x).0 here in omega (arith, same))
    by_test false other at later = (let h = later at in omega (arith, h))

take_within : {A : Type 0} (n : ℕ) (xs : List A) → length (take n xs) ≡ n → n ≤ length xs
take_within zero xs e = omega arith
take_within (suc n) [] e = absurd (let bad : ⊥ = omega (arith, e) in bad)
take_within (suc n) (x ∷ xs) e = (let same : length (take n xs) ≡ n = omega (arith, e) in let h = take_within n xs same in omega (arith, h))

-- ---- labels

spaced_least : (least most : ℕ) (positions : List ℕ) → Spaced least positions most → least ≤ most
unfolding Spaced
spaced_least least most [] spaced = spaced
spaced_least least most (p ∷ ps) spaced = (let h = spaced_least (suc p) most ps spaced.1 in let g = spaced.0 in omega (arith, h, g))

module _ (w : Walk) (columns : List (List Truth)) (states : List StateType) (end : StateType) (table : List Packed) (sig : Signature) where
  one_label : (p : ℕ) (label : StateType) → p < length states → LabelStands w columns 0 states end p label → IsCut (IsNoted table sig.vars) columns label
      → IsLabel table sig label (slice_get states p)
  one_label p label lt stands cut =
      let same = stands.is in
      let place : stands.offset ≡ p = omega (arith, same) in
      let there = get_last states end label stands.offset stands.stands (omega (arith, place, lt)) in
      subst (λ x. IsLabel table sig x (slice_get states p)) (sym cut.is)
      (noted_is_label table sig cut.noted columns cut.number (slice_get states p) cut.holds
      (ap (λ n. slice_get states n) (sym place) ∙ there ∙ ap (λ x. let o : Option StateType = Some x in o) cut.is))

  are_labels : (least : ℕ) (positions : List ℕ) (made : List StateType) → Spaced least positions (length states) → AllZip (LabelStands w columns 0 states end) positions made
      → AllByRecursion (IsCut (IsNoted table sig.vars) columns) made → AllZip (λ label at. IsLabel table sig label (slice_get states at)) made positions
  unfolding Spaced
  are_labels least [] [] spaced stand cut = tt
  are_labels least [] (label ∷ made) spaced stand cut = absurd stand
  are_labels least (p ∷ ps) [] spaced stand cut = absurd stand
  are_labels least (p ∷ ps) (label ∷ made) spaced stand cut = (
    one_label p label (spaced_least (suc p) (length states) ps spaced.1) stand.0 cut.0,
    are_labels (suc p) ps made spaced.1 stand.1 cut.1,
  )

-- ---- where a chain begins

chain_begins : (b : Body) (s t : StateType) (code : List LowInstr) (edges : List Edge) (states : List StateType) → Chain b s code edges states t → length states ≡ 0 ⊎ (slice_get states 0 ≡ Some s)
chain_begins b s t code edges states (Done _) = inl refl
chain_begins b s t code edges states (Next _ n _ i more e others rest allow later) = inr refl

-- ---- one function

module _ (program : ProvedParts) (is_shaped : Shaped (plain_core program.base.core)) (is : IsElaboration program.base.core program.base.made)
    (proved : ProveAll program.base.made.goals program.lines) where
  abbrev the : core.Program
  the = plain_core program.base.core

  abbrev made : Elaboration
  made = program.base.made

  abbrev low : Lowered
  low = lowered program.base

  module _ (number : ℕ) (f : core.Fun) (sig : Signature) (columns : Columns) (all : Functions) (there : slice_get the.funs number ≡ Some f) (signed : slice_get made.sigs number ≡ Some sig)
      (live : AreAllColumns (function_of the f sig) columns) (c : CarriedAt (proofs_of program) made.table made.sigs made number f columns all number) where
    abbrev fun : LowFun
    fun = function_of the f sig

    abbrev site : Site
    site = site_of made number c.own

    abbrev begin : Labelled
    begin = body_begins c.left

    abbrev end : Labelled
    end = function (proofs_of program) columns f c.left

    abbrev the_body : Body
    the_body = record { setting = setting_of low sig; count = fun.places; positions = labels_of f; labels = end.states; fun = fun }

    abbrev w : Walk
    w = record { body = the_body; vars = length f.kinds; site = site; proofs = proofs_of program; notes = made.notes }

    abbrev first_state : StateType
    first_state = state_of c.start.ctx c.start.types

    b : IsBody the made number f
    b = body_of the made is_shaped is number f there

    own_is : c.own ≡ sig
    own_is = same_Some c.own sig (sym c.signature ∙ signed)

    own_body : b.segment.own ≡ c.own
    own_body = same_Some b.segment.own c.own (sym b.segment.signature ∙ c.signature)

    blocks : InBlocks fun.code (labels_of f)
    blocks = in_blocks the number f is_shaped there

    -- ---- what stands throughout

    is_walk : IsWalk w
    is_walk = record {
      setting = ap₂ (λ ss s. let st : Setting = record { table = made.table; sigs = ss; own = s } in st) (sigs_same program is_shaped is) (sym own_is);
      proved = proved;
    }

    has_labels : HasLabels w columns
    has_labels = record { positions = refl; rise = blocks.rise; live = live; room = omega arith }

    grounds : Grounds (setting_in the f) site
    grounds = subst (λ s. Grounds (setting_in the f) (site_of made number s)) own_body (grounds_found the made is_shaped number f b)

    -- ---- where the body begins

    exact : IsExact f c.own
    exact =
        let from : 0 + number ≡ number = omega arith in
        let at = signature_at the.funs [] made.sigs number f (parts program is_shaped is).headers there in
        let same = same_Some at.sig c.own (sym at.there ∙ ap (λ n. slice_get made.sigs n) from ∙ c.signature) in
        subst (IsExact f) same (signature_is f at.sig at.is)

    few : c.own.vars ≤ 1024
    few = (each IsFew made.sigs number c.own (declared program is_shaped is).signed c.signature).vars

    at : IsAt (setting_in the f) c.own.vars (shaped.body_start f) c.start
    at = record {
      knows = answered (body_start c.own c.goals c.notes) c.start
          (start_fits the.types (map header the.funs) f b.rules c.own (subst (IsSignedOf f) own_body b.signed) c.goals c.notes) c.begins;
      behind = answered (body_start c.own c.goals c.notes) c.start (start_stays c.own f.quant.count c.goals c.notes (each IsHeader made.sigs number c.own (declared program is_shaped is).headers c.signature)) c.begins;
    }

    place : Place (setting_in the f) site (shaped.body_start f) c.start
    place = start_place site c.own refl c.goals c.notes c.start c.begins (grounds.ground.are.signed number c.own c.signature) few (setting_in the f) (shaped.body_start f) f.quant.count
        (sym exact.vars) refl refl at

    params_few : length c.own.params ≤ length f.kinds
    params_few =
        let least = take_within (length f.params) f.kinds (ap length b.rules.param_kinds ∙ length-map f.params kind_of) in
        let same = sym (length-map f.params _) ∙ ap length exact.params in
        omega (arith, least, same)

    within : Within w c.start.types
    within x t e =
        let start = start_is c.own c.goals c.notes c.start c.begins in
        let h = parameter_below 0 c.own.params x t (ap (λ (s : State). type_at x s.types) start.is ∙ e) in
        let g = params_few in
        omega (arith, h, g)

    here : Here w 0 first_state c.start [] c.left
    here = record {
      now = record { ctx = refl; types = λ x t live e. e };
      waits = record { each = λ k t e. absurd (let bad : ⊥ = cc in bad) };
      remains = c.is_left;
      within = within;
      few = (let v = start_vars site c.own refl c.goals c.notes c.start c.begins (grounds.ground.are.signed number c.own c.signature) few in let h = few in omega (arith, v, h));
    }

    begins : Begins w 0 first_state c.start begin (block_labels f.body 0 ++ [])
    begins = record { here = here; labels = record { passed = []; are = sym (append-nil (labels_of f)); as_many = refl } }

    code_at : CodeAt the_body 0 (code_of the f)
    code_at = record {
      each = λ k i e. (let from : 0 + k ≡ k = omega arith in ap (λ n. slice_get fun.code n) from ∙ numbered_at (labels_of f) (code_of the f) k i e);
      small = λ k i e. below_reach i.places fun.places (let h = reach_at (code_of the f) k i e in omega (arith, h));
    }

    ahead : AllAhead w c.done end
    ahead = record { ahead = record { goals = c.more_goals; notes = c.more_notes }; states = no_more end.states }

    -- ---- the body

    body_typed : Typed (completes_all f.body) w columns 0 first_state (code_of the f) (labels_of f) begin end c.done []
    body_typed = (block_typed w is_walk columns has_labels (setting_in the f) grounds (frame_of the f) refl refl
        (λ visible e n h. number_is_found the f visible e n h) f.body).is (shaped.body_start f) b.rules.end 0 first_state c.start begin [] c.done b.rules.body place begins code_at c.body ahead

    goes : Passes w columns 0 first_state (code_of the f) (labels_of f) begin end first_state
    goes = (subst (λ x. Typed x w columns 0 first_state (code_of the f) (labels_of f) begin end c.done []) b.rules.returns body_typed).ends first_state

    code_long : length fun.code ≡ length (code_of the f)
    code_long = length-map (code_of the f) (λ i. renumbered (labels_of f) (leads i.op) i)

    one_each : length goes.runs.states ≡ length fun.code
    one_each = states_long the_body first_state first_state (code_of the f) goes.runs.edges goes.runs.states goes.runs.chain ∙ sym code_long

    edges_are : end.now.edges ≡ goes.runs.edges
    edges_are = goes.runs.are

    -- ---- its labels

    all_cut : AllByRecursion (IsCut (IsNoted made.table c.own.vars) columns) goes.made
    all_cut =
        let from : Sources = record { proofs = proofs_of program; columns = columns } in
        let taken = answered (block site f.body c.start) c.done (block_taken site from f.body 0 c.start) c.body in
        let rest = c.more_notes.rest in
        let ahead_is = same_behind c.start.notes c.left (taken.made ++ rest)
        (sym c.is_left ∙ c.more_notes.is ∙ ap (λ ns. ns ++ rest) taken.is ∙ append_assoc c.start.notes taken.made rest) in
        let left = (taken.by begin rest ahead_is).notes in
        let makes = block_made (IsNoted made.table c.own.vars) from f.body begin in
        let same_taken : makes.taken ≡ taken.made = append_cancel_right makes.taken taken.made rest
        (ap (λ ns. makes.taken ++ ns) (sym left) ∙ sym makes.is ∙ ahead_is) in
        let well = block_well (setting_in the f) site grounds c.start.notes f.body (shaped.body_start f) b.rules.end c.start c.done b.rules.body place (none_made site c.start.notes) c.body in
        let same_new = same_behind c.start.notes well.made taken.made (sym well.is ∙ taken.is) in
        subst (AllByRecursion (IsCut (IsNoted made.table c.own.vars) columns)) (sym makes.states ∙ goes.made_is)
        (makes.each (subst (AllByRecursion (OfState (IsNoted made.table c.own.vars))) (same_new ∙ sym same_taken) well.each))

    labels_typed : AllZip (λ label at. IsLabel made.table sig label (slice_get goes.runs.states at)) end.states (labels_of f)
    labels_typed =
        subst (λ ls. AllZip (λ label at. IsLabel made.table sig label (slice_get goes.runs.states at)) ls (labels_of f)) (sym goes.made_is)
        (are_labels w columns goes.runs.states first_state made.table sig 1 (labels_of f) goes.made (subst (λ n. Spaced 1 (labels_of f) n) (sym one_each) blocks.rise) goes.labels
        (subst (λ (s : Signature). AllByRecursion (IsCut (IsNoted made.table s.vars) columns) goes.made) own_is all_cut))

    -- ---- all of it

    begins_first : slice_get goes.runs.states 0 ≡ Some first_state
    begins_first = by (chain_begins the_body first_state first_state (code_of the f) goes.runs.edges goes.runs.states goes.runs.chain)
      where
        by : length goes.runs.states ≡ 0 ⊎ (slice_get goes.runs.states 0 ≡ Some first_state) → slice_get goes.runs.states 0 ≡ Some first_state
        by (inl none) = (let last = blocks.last.next in let same = one_each in absurd (omega (arith, last, same, none)))
        by (inr is) = is

    pub function_typed : IsTypedFun low fun end.states end.now.edges
    function_typed = record {
      few = (let count = places_counted the number f is_shaped there in let least = b.segment.places in omega (arith, count, least));
      params = (let h = params_few in let same = ap (λ (s : Signature). length s.params) own_is in omega (arith, h, same));
      states = goes.runs.states;
      one_each = one_each;
      edge_each = ap length edges_are ∙ edges_long the_body first_state first_state (code_of the f) goes.runs.edges goes.runs.states goes.runs.chain ∙ sym code_long;
      starts = subst (λ s. Starts s (slice_get goes.runs.states 0)) own_is
          (starts site c.own refl c.goals c.notes c.start c.begins (grounds.ground.are.signed number c.own c.signature) few (slice_get goes.runs.states 0) begins_first);
      label_each = labels_typed;
      allowed = λ k state instr edge s i e.
          allowed the_body first_state first_state (code_of the f) goes.runs.edges goes.runs.states goes.runs.chain fun.code
          (λ n j there. numbered_at (labels_of f) (code_of the f) n j there) code_long (labels_of f) blocks k state instr edge s i (ap (λ es. slice_get es k) (sym edges_are) ∙ e);
      again = λ k. again the_body first_state first_state (code_of the f) goes.runs.edges goes.runs.states goes.runs.chain fun.code
          (λ n j there. numbered_at (labels_of f) (code_of the f) n j there) code_long (labels_of f) blocks fun refl refl k;
    }

  pub functions_typed : FunctionsTyped program
  functions_typed = λ number f sig columns all there signed live c. function_typed number f sig columns all there signed live c

  pub carried_typed : (typed : TypedCode) → Carries program low typed → IsTyped typed
  carried_typed typed carries = program_typed program is_shaped is functions_typed typed carries
