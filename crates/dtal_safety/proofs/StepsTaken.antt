-- Each step from a state that fits ends other than stuck, or leaves a state that fits: by the kind of its instruction.
use Rattle.std.proofs.Common.{◌≡◌, ◌∙◌, ℕ, suc, ◌+◌, ◌≤◌, ◌<◌, ℤ, cond, List, [], ◌∷◌, take, length, Bool as Test, true, false, Some, None, Ok, refl, sym, ap, subst}
use Rattle.std.specs.List.{All}
use Rattle.std.proofs.lemmas.Option.{slice_get_within}
use Rattle.xan_io.specs.Outcome.{Stuck}
use Rattle.xan_seq.proofs.NumberTests.{less}
use Rattle.xan_lin.specs.Linear.{Linear}
use Rattle.proof_lines.specs.declared.line.Line.{Line}
use Rattle.state_types.specs.Words.{header_at}
use Rattle.state_types.specs.declared.state.StateType.{StateType}
use Rattle.state_types.specs.declared.types.Ty.{Ty}
use Rattle.operation_rules.specs.Applied.{Ruled, all_assuming}
use Rattle.operation_rules.specs.Effects.{Takes, effect}
use Rattle.operation_rules.specs.FlatWords.{Flat, flat_words}
use Rattle.operation_rules.specs.Rules.{Setting}
use Rattle.operation_rules.specs.Sides.{side}
use Rattle.operation_rules.specs.Sound.{Calling, Fares}
use Rattle.operation_rules.specs.declared.operation.Operation.{Operation}
use Rattle.operation_rules.specs.declared.operation.Operation.TheVariants.{Literal, Truth, Move, Add, Sub, Mul, Div, Mod, Compare, Branch, BranchTruth, Jump, Call, Return, Length, Load, Store, New, Tuple, Untuple, Print}
use Rattle.dtal_code.specs.Acceptance.{Accepted}
use Rattle.dtal_code.specs.Declarations.{setting_of, state_of}
use Rattle.dtal_code.specs.Grammar.{IsOpIn, size_of}
use Rattle.dtal_code.specs.Instructions.{Instruction, instruction_in}
use Rattle.dtal_code.specs.Machine.{Activation, State, On, Off, moved_on, goes_on}
use Rattle.dtal_code.specs.ObjectCode.{target_in, program_size, code_of}
use Rattle.dtal_code.specs.Passing.{label_at}
use Rattle.dtal_code.specs.Running.{store_of, words_in, at_instruction, jumps, acts, done, performed, fetched, stands, step}
use Rattle.dtal_code.specs.declared.instruction.Op.{Op}
use Rattle.dtal_code.specs.declared.program.DtalProgram.{DtalProgram}
use Rattle.dtal_safety.specs.Fitting.{Located, Holds, Stands, AllWait, StateFits}
use Rattle.dtal_safety.proofs.EdgesHold.{edge_holds}
use Rattle.dtal_safety.proofs.InstructionParts.{ends_block, goes_elsewhere, with_target, reads_in, writes_in, writes_count, last_is, resolved_is}
use Rattle.dtal_safety.proofs.LocatedStates.{IsTarget, IsPlaced, placed_is, function_setting, located_code, next_located, label_located}
use Rattle.dtal_safety.proofs.OperationsReady.{IsReady, IsTurned, ruled_ready, edge_ready}
use Rattle.dtal_safety.proofs.PlainEffects.{IsPlain, is_plain, plain_effect}
use Rattle.dtal_safety.proofs.ProperStates.{IsProper, IsRuled, ruled_is, IsEdged, edged_is}
use Rattle.dtal_safety.proofs.StepsFit.{Leaves, At, plain_leaves, call_leaves, return_by}
use Rattle.dtal_safety.proofs.VerdictKinds.{goes_straight, plain_straight, straight_given, straight_next, elsewhere_verdict, return_verdict, back_given}

-- ---- edges

-- where an operation that goes to a label goes on, it is no jump
left_on : (op : Operation) (words : List ℤ) (store : Flat) → goes_elsewhere op ≡ true → effect flat_words op words store ≡ Takes false → ends_block op ≡ false
left_on (Branch c) words store is e = refl
left_on (BranchTruth b) words store is e = refl
left_on Jump [] store is e = absurd (let bad : ⊥ = cc in bad)
left_on Jump (a ∷ words) store is e = absurd (let bad : ⊥ = cc in bad)
left_on op words store is e = absurd (let bad : ⊥ = cc in bad)

module _ (program : DtalProgram) (accepted : Accepted program) (state : State) (top : Activation) (callers : List Activation)
    (at : At program accepted.states state top callers) where
  -- the uppermost activation stands elsewhere, with the same words in its places
  moves_fit : (act : Activation) → act.result_to ≡ top.result_to → Stands program accepted.states (header_at state.words) at.number at.fun at.values act
      → StateFits program accepted.states (record state { activations = act ∷ callers })
  moves_fit act result stands = record {
    store = at.store;
    room = at.room;
    top = act;
    callers = callers;
    uppermost = refl;
    depth = at.depth;
    number = at.number;
    fun = at.fun;
    values = at.values;
    stands = stands;
    wait = subst (λ r. AllWait program accepted.states (header_at state.words) callers at.number at.fun at.values r) (sym result) at.wait;
  }

  jump_leaves : (target label : ℕ) (aim : StateType) (given : List ℤ) → IsTarget at.fun.sig.vars at.fun.blocks at.stands.located.own label aim
      → target ≡ target_in (program_size program.funs) at.stands.located.start at.fun.blocks label
      → Holds (header_at state.words) top.places given aim → take at.fun.sig.vars given ≡ take at.fun.sig.vars at.stands.assignment
      → Leaves program accepted.states (jumps (code_of program) state top callers target)
  jump_leaves target label aim given is there holds same =
      let l = at.stands.located in
      let past = program_size program.funs in
      let goal = l.start + size_of (take label at.fun.blocks) in
      let located = label_located program accepted top.at at.number at.fun at.stands.state aim l label is in
      let found = located_code program accepted goal at.number at.fun aim located in
      let within = slice_get_within (code_of program).ops goal _ found in
      let to : target ≡ goal = there ∙ ap (λ b. cond b goal past) is.within in
      subst (λ t. Leaves program accepted.states (jumps (code_of program) state top callers t)) (sym to)
      (subst (λ b. Leaves program accepted.states (cond b (On None (record state { activations = at_instruction top goal ∷ callers })) (Off Stuck)))
      (sym (less goal (length (code_of program).ops) within))
      (moves_fit (at_instruction top goal) refl
      (record { state = aim; located = located; places = at.stands.places; assignment = given; own = same ∙ at.stands.own; holds = holds })))

  left_leaves : (next : StateType) → Located program accepted.states (suc top.at) at.number at.fun next
      → Holds (header_at state.words) top.places at.stands.assignment next → Leaves program accepted.states (goes_on state top callers None top.places)
  left_leaves next located holds =
      moves_fit (moved_on top top.places) refl
      (record { state = next; located = located; places = at.stands.places; assignment = at.stands.assignment; own = at.stands.own; holds = holds })

  -- ---- an operation that goes to a label, or on

  turn_leaves : (labels : List StateType) (next : StateType) (i : Instruction) (values : List (ℕ × Linear)) (by : List (List Line)) (words : List ℤ) (target : ℕ)
      → IsProper at.fun.sig.vars at.stands.state
      → ((label : ℕ) (aim : StateType) → label_at labels label ≡ Some aim → IsTarget at.fun.sig.vars at.fun.blocks at.stands.located.own label aim)
      → (edged : IsEdged (setting_of program at.fun.sig) labels at.stands.state i values by next)
      → target ≡ target_in (program_size program.funs) at.stands.located.start at.fun.blocks i.target
      → (turned : IsTurned i.operation edged.types words at.stands.assignment at.stands.state.ctx (store_of state))
      → (turned.taken ≡ false → Located program accepted.states (suc top.at) at.number at.fun next)
      → Leaves program accepted.states (acts (code_of program) state top callers (with_target i target) (Takes turned.taken))
  turn_leaves labels next i values by words target proper targets edged there turned behind = by_side turned.taken refl
    where
      by_side : (taken : Test) → turned.taken ≡ taken → Leaves program accepted.states (acts (code_of program) state top callers (with_target i target) (Takes turned.taken))
      by_side true e =
          let is = targets i.target edged.target edged.is_target in
          let side_is = subst (λ b. all_assuming (side b i.operation edged.types) at.stands.state.ctx ≡ Ok edged.taken) (sym e) edged.is_taken in
          let hold = turned.hold edged.taken side_is in
          let edge = edge_holds (setting_of program at.fun.sig) (header_at state.words) top.places at.stands.assignment at.stands.state edged.target values by edged.demands edged.taken
          proper is.proper edged.edge hold.0 hold.1 edged.lines at.stands.holds in
          subst (λ b. Leaves program accepted.states (acts (code_of program) state top callers (with_target i target) (Takes b))) (sym e)
          (jump_leaves target i.target edged.target edge.given is there edge.holds edge.same)
      by_side false e =
          let side_is = subst (λ b. all_assuming (side b i.operation edged.types) at.stands.state.ctx ≡ Ok edged.left_over) (sym e) edged.is_left in
          let hold = turned.hold edged.left_over side_is in
          let holds : Holds (header_at state.words) top.places at.stands.assignment (state_of edged.left_over at.stands.state.places)
          = record { one_each = at.stands.holds.one_each ∙ sym hold.0; hold = hold.1; typed = at.stands.holds.typed } in
          subst (λ b. Leaves program accepted.states (acts (code_of program) state top callers (with_target i target) (Takes b))) (sym e)
          (left_leaves next (behind e) (subst (λ s. Holds (header_at state.words) top.places at.stands.assignment s) edged.is_next holds))

  -- ---- by the kind of the operation

  reads_within : (o : Op) → IsOpIn o → All (λ p. p < length top.places) (instruction_in o).reads
  reads_within o h = subst (λ n. All (λ (p : ℕ). p < n) (instruction_in o).reads) (sym at.stands.places) (reads_in o h)

  -- what is done with the words that are read
  done_with : (i : Instruction) (words : List ℤ) → words_in top.places i.reads ≡ Some words
      → Leaves program accepted.states (acts (code_of program) state top callers i (effect flat_words i.operation words (store_of state)))
      → Leaves program accepted.states (performed (code_of program) state top callers i)
  done_with i words are h = subst (λ o. Leaves program accepted.states (done (code_of program) state top callers i o)) (sym are) h

  module _ (placed : IsPlaced program accepted at.number at.fun at.stands.located.own at.stands.located.index at.stands.located.instr at.stands.state) (target : ℕ) where
    abbrev i : Instruction
    i = instruction_in at.stands.located.instr.op

    abbrev st : Setting
    st = setting_of program at.fun.sig

    abbrev Good : Type 0
    Good = Leaves program accepted.states (performed (code_of program) state top callers (with_target i target))

    ready_with : (given : Ruled) (is : IsRuled st at.stands.state i at.stands.located.instr.by given)
        → IsReady st state top.places at.stands.assignment at.stands.state i is.types given
    ready_with given is =
        ruled_ready st (function_setting program accepted at.number at.fun at.stands.located.is_fun) state at.store top.places at.stands.assignment at.stands.state at.stands.holds
        placed.proper i at.stands.located.instr.by given is (reads_within at.stands.located.instr.op placed.op_in)

    plain_good : is_plain i.operation ≡ true → Good
    plain_good kind =
        let l = at.stands.located in
        let straight = plain_straight i.operation kind in
        let g = straight_given program accepted top.at at.number at.fun at.stands.state l straight in
        let is = ruled_is st at.stands.state i l.instr.by g.given g.is in
        let r = ready_with g.given is in
        let plain : IsPlain (length i.writes) state.heap (effect flat_words i.operation r.words (store_of state))
        = subst (λ n. IsPlain n state.heap (effect flat_words i.operation r.words (store_of state))) (sym (writes_count l.instr.op)) (plain_effect i.operation r.words (store_of state) kind at.room) in
        done_with (with_target i target) r.words r.are
        (plain_leaves program accepted state top callers at i target i.operation is.types g.given (effect flat_words i.operation r.words (store_of state))
        (writes_in l.instr.op placed.op_in) placed.proper (straight_next program accepted top.at at.number at.fun at.stands.state l g.given straight g.is) plain r.fares)

    call_good : (fun : ℕ) → i.operation ≡ Call fun → Good
    call_good fun kind =
        let l = at.stands.located in
        let straight : goes_straight i.operation ≡ true = ap goes_straight kind in
        let g = straight_given program accepted top.at at.number at.fun at.stands.state l straight in
        let is = ruled_is st at.stands.state i l.instr.by g.given g.is in
        let r = ready_with g.given is in
        let calling : Calling st (header_at state.words) at.stands.assignment at.stands.state.ctx g.given fun r.words
        = subst (λ o. Fares flat_words st o is.types (store_of state) at.stands.assignment at.stands.state.ctx g.given (effect flat_words o r.words (store_of state))) kind r.fares in
        done_with (with_target i target) r.words r.are
        (subst (λ o. Leaves program accepted.states (acts (code_of program) state top callers (with_target i target) (effect flat_words o r.words (store_of state)))) (sym kind)
        (call_leaves program accepted state top callers at g.given fun r.words kind g.is calling))

    given_back : (types : List Ty) (given : Ruled) (words : List ℤ)
        → Fares flat_words st Return types (store_of state) at.stands.assignment at.stands.state.ctx given (effect flat_words Return words (store_of state))
        → Leaves program accepted.states (acts (code_of program) state top callers (with_target i target) (effect flat_words Return words (store_of state)))
    given_back types given [] fares = absurd fares
    given_back types given (word ∷ []) fares = return_by program accepted state top callers at top.result_to callers word at.depth at.wait fares
    given_back types given (a ∷ b ∷ words) fares = absurd fares

    return_good : i.operation ≡ Return → Good
    return_good kind =
        let l = at.stands.located in
        let g = back_given st at.stands.state placed.found.next i l.instr.by (return_verdict st placed.labels at.stands.state placed.found.next l.instr kind placed.found.is_next) in
        let is = ruled_is st at.stands.state i l.instr.by g.given g.is in
        let r = ready_with g.given is in
        let fares : Fares flat_words st Return is.types (store_of state) at.stands.assignment at.stands.state.ctx g.given (effect flat_words Return r.words (store_of state))
        = subst (λ o. Fares flat_words st o is.types (store_of state) at.stands.assignment at.stands.state.ctx g.given (effect flat_words o r.words (store_of state))) kind r.fares in
        done_with (with_target i target) r.words r.are
        (subst (λ o. Leaves program accepted.states (acts (code_of program) state top callers (with_target i target) (effect flat_words o r.words (store_of state)))) (sym kind)
        (given_back is.types g.given r.words fares))

    turn_good : goes_elsewhere i.operation ≡ true → target ≡ target_in (program_size program.funs) at.stands.located.start at.fun.blocks i.target → Good
    turn_good kind there =
        let l = at.stands.located in
        let edged = edged_is st placed.labels at.stands.state placed.found.next i l.instr.edge l.instr.by
        (elsewhere_verdict st placed.labels at.stands.state placed.found.next l.instr kind placed.found.is_next) in
        let r = edge_ready st (function_setting program accepted at.number at.fun l.is_fun) state at.store top.places at.stands.assignment at.stands.state at.stands.holds placed.proper
        placed.labels i l.instr.edge l.instr.by placed.found.next edged kind (reads_within l.instr.op placed.op_in) in
        done_with (with_target i target) r.words r.are
        (subst (λ e. Leaves program accepted.states (acts (code_of program) state top callers (with_target i target) e)) (sym r.turned.is)
        (turn_leaves placed.labels placed.found.next i l.instr.edge l.instr.by r.words target placed.proper placed.targets edged there r.turned
        (λ e. next_located program accepted top.at at.number at.fun at.stands.state placed.found.next l
        (placed.found.behind (last_is l.instr.op ∙ left_on i.operation r.words (store_of state) kind (r.turned.is ∙ ap (λ b. Takes b) e))))))

    good_by : (op : Operation) → i.operation ≡ op
        → (goes_elsewhere i.operation ≡ true → target ≡ target_in (program_size program.funs) at.stands.located.start at.fun.blocks i.target) → Good
    good_by (Literal n) kind there = plain_good (ap is_plain kind)
    good_by (Truth b) kind there = plain_good (ap is_plain kind)
    good_by Move kind there = plain_good (ap is_plain kind)
    good_by Add kind there = plain_good (ap is_plain kind)
    good_by Sub kind there = plain_good (ap is_plain kind)
    good_by Mul kind there = plain_good (ap is_plain kind)
    good_by Div kind there = plain_good (ap is_plain kind)
    good_by Mod kind there = plain_good (ap is_plain kind)
    good_by (Compare c) kind there = plain_good (ap is_plain kind)
    good_by (Branch c) kind there = turn_good (ap goes_elsewhere kind) (there (ap goes_elsewhere kind))
    good_by (BranchTruth b) kind there = turn_good (ap goes_elsewhere kind) (there (ap goes_elsewhere kind))
    good_by Jump kind there = turn_good (ap goes_elsewhere kind) (there (ap goes_elsewhere kind))
    good_by (Call fun) kind there = call_good fun kind
    good_by Return kind there = return_good kind
    good_by Length kind there = plain_good (ap is_plain kind)
    good_by Load kind there = plain_good (ap is_plain kind)
    good_by Store kind there = plain_good (ap is_plain kind)
    good_by (New cells) kind there = plain_good (ap is_plain kind)
    good_by (Tuple number) kind there = plain_good (ap is_plain kind)
    good_by (Untuple number count) kind there = plain_good (ap is_plain kind)
    good_by Print kind there = plain_good (ap is_plain kind)

  -- ---- the whole step

  at_leaves : Leaves program accepted.states (stands (code_of program) state (top ∷ callers))
  at_leaves =
      let l = at.stands.located in
      let placed = placed_is program accepted top.at at.number at.fun at.stands.state l in
      let r = resolved_is (target_in (program_size program.funs) l.start at.fun.blocks) l.instr.op in
      subst (λ o. Leaves program accepted.states (fetched (code_of program) state top callers o)) (sym (located_code program accepted top.at at.number at.fun at.stands.state l))
      (subst (λ i. Leaves program accepted.states (performed (code_of program) state top callers i)) (sym r.is)
      (good_by placed r.target (instruction_in l.instr.op).operation refl r.goes))

pub at_top : (program : DtalProgram) (states : List (List StateType)) (state : State) (fits : StateFits program states state) → At program states state fits.top fits.callers
at_top program states state fits = record {
  store = fits.store;
  room = fits.room;
  depth = subst (λ acts. length acts ≤ state.depth) fits.uppermost fits.depth;
  number = fits.number;
  fun = fits.fun;
  values = fits.values;
  stands = fits.stands;
  wait = fits.wait;
}

pub step_leaves : (program : DtalProgram) (accepted : Accepted program) (state : State) → StateFits program accepted.states state
    → Leaves program accepted.states (step (code_of program) state)
unfolding step
step_leaves program accepted state fits =
    subst (λ acts. Leaves program accepted.states (stands (code_of program) state acts)) (sym fits.uppermost)
    (at_leaves program accepted state fits.top fits.callers (at_top program accepted.states state fits))
