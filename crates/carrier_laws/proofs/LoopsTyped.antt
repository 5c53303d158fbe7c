-- A loop is typed: a jump to its head, the test, the body, and a jump back.
use Rattle.std.proofs.Common.{◌≡◌, ◌∙◌, ℕ, suc, ◌+◌, ◌≤◌, Bool as Truth, true, false, List, [], ◌∷◌, ◌++◌, length, slice_get, Option, Some, None, Ok, refl, sym, ap, ap₂, subst, arith, append_assoc}
use Rattle.std.specs.Prelude.{◌||◌}
use Rattle.std.proofs.lemmas.List.{length-append}
use Rattle.index_sorts.specs.Context.{IndexContext}
use Rattle.state_types.specs.PlaceTypes.{type_at}
use Rattle.state_types.specs.declared.state.StateType.{StateType}
use Rattle.state_types.proofs.Thens.{ok_same}
use Rattle.operation_rules.specs.Rules as rules
use Rattle.three_address.specs.Typing.{GoesTo}
use Rattle.three_address.specs.declared.instruction.LowInstr.{LowInstr}
use Rattle.three_address.specs.declared.typed.Edge.{Edge}
use Rattle.value_lowering.specs.Frames.{Frame}
use Rattle.lowering.specs.Lowered.{number_of}
use Rattle.value_lowering.specs.OneInstruction.{jump, one_if, jump_if}
use Rattle.lowering.specs.StatementCode.{first_at, behind_loop, unless, statement_code, statement_labels, block_code, block_labels}
use Rattle.lowering.specs.TestCode.{test_code, test_labels}
use Rattle.lowering.proofs.CodeSizes.{test_long, block_long, long_jump}
use Rattle.xanadu_tree.specs.declared.stmt.Clause.{Clause}
use Rattle.xanadu_tree.specs.BodyRules.{Point, completes_all, IsClauseIfAny, IsStatement, AreStatements}
use Rattle.xanadu_tree.specs.KindRules.{Setting, IsTest}
use Rattle.xanadu_tree.specs.Plain as core
use Rattle.typed_core.specs.Growth.{Continues, Later}
use Rattle.typed_core.specs.Joins.{changes_any, names, is_named, stated, Joint, joined, entered, entered_if}
use Rattle.typed_core.specs.States.{State, point, noting_state, all_asked, none_asked}
use Rattle.typed_core.specs.Statements as elaborated
use Rattle.typed_core.specs.Tests.{Sides, tested, on_side}
use Rattle.typed_core.specs.declared.note.Note.{Note}
use Rattle.typed_core.specs.declared.note.Note.TheVariants as note
use Rattle.typed_core.proofs.Continued.{no_more, more_again, later_here, later_on}
use Rattle.typed_core.proofs.FitJoins.{joined_fits, clause_stated, clause_visible}
use Rattle.typed_core.proofs.FitStatements.{block_within}
use Rattle.typed_core.proofs.GrownJoins.{Meets, entered_goes, entered_if_goes, joined_goes}
use Rattle.typed_core.proofs.GrownStatements.{block_goes, loop_later}
use Rattle.typed_core.proofs.GrownTests.{Parts, tested_goes}
use Rattle.typed_core.proofs.KnownTypes.{IsEntry, Knows, AreWithin, entry_at, found}
use Rattle.typed_core.proofs.NamedStates.{answered}
use Rattle.source_safety.proofs.PlacesKnown.{block_at}
use Rattle.source_safety.proofs.LoopParts.{IsLooping, looping_is}
use Rattle.type_carrier.specs.CarriedStatements as carried
use Rattle.type_carrier.specs.CarriedStatements.{way_if, past_way, entered as entered_carried, turned}
use Rattle.type_carrier.specs.CarriedTests.{Labelled, Sources, state_here, next_state, labelled, test}
use Rattle.type_carrier.specs.ProvedRows.{behind_front, way_in}
use Rattle.type_carrier.specs.Ways.{label_state, way_edge}
use Rattle.carrier_laws.proofs.ChainsTyped.{Done, CodeAt, code_left, code_right}
use Rattle.carrier_laws.proofs.ConstructsTyped.{earlier}
use Rattle.carrier_laws.proofs.DemandsProved.{seam}
use Rattle.carrier_laws.proofs.OperandsRun.{Walk, IsWalk, Ahead, IsLeft, Within, Here, same_behind}
use Rattle.carrier_laws.proofs.BlocksAsked.{StatementTyped, BlockTyped}
use Rattle.carrier_laws.proofs.BranchesTyped.{Aims}
use Rattle.carrier_laws.proofs.FragmentsJoined.{typed_on, passes_on}
use Rattle.carrier_laws.proofs.FragmentsTyped.{sources_of, HasLabels, Coming, LabelAt, AllAhead, Begins, Passes, Typed}
use Rattle.carrier_laws.proofs.JoinsReach.{IsMeeting, ComesFrom}
use Rattle.carrier_laws.proofs.JumpsTyped.{jump_live}
use Rattle.carrier_laws.proofs.KeptJoins.{JoinsWell, joined_kept}
use Rattle.carrier_laws.proofs.KeptStatements.{Leaves, clause_exists}
use Rattle.carrier_laws.proofs.LabelsMet.{next_label, label_here}
use Rattle.carrier_laws.proofs.LabelsTaken.{Left, test_taken}
use Rattle.carrier_laws.proofs.LeavesTyped.{rows_on}
use Rattle.carrier_laws.proofs.MeetingsKnown.{meeting_known}
use Rattle.carrier_laws.proofs.JoinsNoted.{joined_noted}
use Rattle.carrier_laws.proofs.PlacesKept.{Grounds, Facts, Place, facts_of, true_place, begun_place, block_facts, block_left, statement_left, SideFacts, sides_facts}
use Rattle.carrier_laws.proofs.StatementsTaken.{block_taken}
use Rattle.carrier_laws.proofs.TestsTyped.{KeepsFacts, left_behind, coming_behind, jump_passes, label_behind, label_made, test_typed}
use Rattle.carrier_laws.proofs.WaysEntered.{IsWay, way_is}
use Rattle.carrier_laws.proofs.WaysTyped.{facts_formed, comes_from, way_goes}

-- what is known is kept along tests
pub keeps_facts : (w : Walk) (set : Setting) → Grounds set w.site → KeepsFacts w (Facts w.site)
keeps_facts w set g = record {
  formed = λ st f. facts_formed w.site st f;
  sides = λ t st sides f made b. by_side b st sides (answered (tested w.site t st) sides (sides_facts set w.site g t st f) made);
}
  where
    by_side : (b : Truth) (st : State) (sides : Sides) → SideFacts set w.site g st sides → Facts w.site (on_side (rows_on b sides) sides.after)
    by_side true st sides h = h.on_true
    by_side false st sides h = h.on_false

-- ---- a way's note

pub record WayLeft (w : Walk) (at : ℕ) (joint : Joint) (from : StateType) (st more : State) (notes rest : List Note) : Type 0 where
  pub entry : IsWay w.site at joint from st more
  pub notes_are : notes ≡ note.Edge entry.values entry.actual (all_asked w.site at from.ctx entry.found.rows (none_asked st)).numbers ∷ rest

pub way_left : (w : Walk) (at : ℕ) (joint : Joint) (from : StateType) (st more : State) (notes rest : List Note) → entered w.site at joint from st ≡ Ok more
    → w.notes ≡ st.notes ++ notes → w.notes ≡ more.notes ++ rest → WayLeft w at joint from st more notes rest
way_left w at joint from st more notes rest made before after =
    let e = way_is w.site at joint from st more made in
    let one = note.Edge e.values e.actual (all_asked w.site at from.ctx e.found.rows (none_asked st)).numbers in
    record {
      entry = e;
      notes_are = same_behind st.notes notes (one ∷ rest)
          (sym before ∙ after ∙ ap (λ (m : State). m.notes ++ rest) e.is ∙ append_assoc st.notes (one ∷ []) rest);
    }

pub past_left : (w : Walk) (c : Truth) (at : ℕ) (joint : Joint) (from : StateType) (st more : State) (notes rest : List Note) → entered_if c w.site at joint from st ≡ Ok more
    → w.notes ≡ st.notes ++ notes → w.notes ≡ more.notes ++ rest → past_way c notes ≡ rest
unfolding entered_if
past_left w false at joint from st more notes rest made before after =
    same_behind st.notes notes rest (sym before ∙ after ∙ ap (λ (m : State). m.notes ++ rest) (sym (ok_same st more made)))
past_left w true at joint from st more notes rest made before after = ap behind_front (way_left w at joint from st more notes rest made before after).notes_are

pub own_is : (w : Walk) → IsWalk w → w.site.own ≡ w.body.setting.own
own_is w isw = ap (λ (x : rules.Setting). x.own) (sym isw.setting)

-- ---- a loop

module _ (w : Walk) (isw : IsWalk w) (columns : List (List Truth)) (has : HasLabels w columns) (set : Setting) (g : Grounds set w.site) (frame : Frame) (vars_are : w.vars ≡ length frame.kinds)
    (asked : core.Test) (head : Option Clause) (body : core.Stmts) (a : ℕ) (body_typed : BlockTyped w columns frame set body) (before inner last : Point)
    (is_test : IsTest set before.visible asked) (is_clause : IsClauseIfAny set before head inner) (are : AreStatements set inner body last) (p : ℕ) (s : StateType) (st : State) (l : Labelled)
    (coming : List ℕ) (more : State) (here : Place set w.site before st) (looping : IsLooping w.site asked head body a st more) where
  abbrev from : Sources
  from = sources_of w columns

  abbrev clause : Clause
  clause = stated head

  abbrev joint : Joint × State
  joint = (looping.joint, looping.start)

  abbrev side : State
  side = on_side looping.sides.on_true looping.sides.after

  abbrev to_end : ℕ
  to_end = behind_loop asked body p

  abbrev T : List LowInstr
  T = test_code w.vars (unless to_end) asked (suc p)

  abbrev q : ℕ
  q = first_at asked (suc p)

  abbrev B : List LowInstr
  B = block_code frame body q

  abbrev tl : List ℕ
  tl = test_labels false asked (suc p)

  abbrev bl : List ℕ
  bl = block_labels body q

  -- ---- elaboration

  begun_here : Place set w.site inner looping.begun
  begun_here = begun_place set w.site g head (changes_any body) a before inner st looping.start looping.begun looping.joint is_clause looping.joins looping.enters here

  facts_here : Facts w.site st
  facts_here = facts_of set w.site g before st here

  meeting : IsMeeting w.site clause (changes_any body) (point st) st joint
  meeting =
      meeting_known set w.site g.ground before inner (changes_any body) st st here.known.kept here.named facts_here.typed here.known.keys here.known.scope (no_more st.naming) (omega arith) head
      is_clause joint looping.joins

  entry : IsWay w.site a looping.joint (point st) looping.start looping.begun
  entry = way_is w.site a looping.joint (point st) looping.start looping.begun looping.enters

  same_point : point looping.begun ≡ point looping.start
  same_point =
      (let goes = answered (entered w.site a looping.joint (point st) looping.start) looping.begun (entered_goes w.site a looping.joint (point st) looping.start) looping.enters in
      ap (λ x. let r : StateType = record { ctx = x; places = looping.begun.types } in r) goes.ctx ∙ ap (λ x. let r : StateType = record { ctx = looping.start.ctx; places = x } in r) goes.types)

  start_knows : Knows set.kinds before.visible looping.start.types
  start_knows =
      (answered (joined w.site clause (changes_any body) (point st) st) joint
      (joined_fits set.kinds before.visible w.site clause (changes_any body) (point st) st (clause_stated set before head inner is_clause) here.at.knows) looping.joins).1

  test_goes : Parts w.site.table looping.begun looping.sides
  test_goes = answered (tested w.site asked looping.begun) looping.sides (tested_goes w.site asked looping.begun) looping.tests

  later_sides : Later looping.begun looping.sides.after
  later_sides = test_goes.grown.later

  later_turn : Later looping.sides.after looping.turn
  later_turn =
      (let k = (answered (elaborated.block w.site body side) looping.turn (block_goes w.site body side) looping.inner).later in
      record { vars = k.vars; naming = k.naming; goals = k.goals; notes = k.notes })

  later_back : Later looping.turn looping.back
  later_back =
      (answered (entered_if (completes_all body) w.site a looping.joint (point looping.turn) looping.turn) looping.back
      (entered_if_goes (completes_all body) w.site a looping.joint (point looping.turn) looping.turn) looping.turns).later

  later_more : Later looping.back more
  later_more = subst (λ (m : State). Later looping.back m) looping.is (loop_later looping.sides.on_false looping.start.types looping.back looping.back (later_here looping.back))

  later_from_turn : Later looping.turn more
  later_from_turn = later_on looping.turn looping.back more later_back later_more

  later_from_sides : Later looping.sides.after more
  later_from_sides = later_on looping.sides.after looping.turn more later_turn later_from_turn

  later_from_begun : Later looping.begun more
  later_from_begun = later_on looping.begun looping.sides.after more later_sides later_from_sides

  start_notes : looping.start.notes ≡ st.notes ++ note.State (point looping.start) ∷ []
  start_notes = (answered (joined w.site clause (changes_any body) (point st) st) joint (joined_noted w.site clause (changes_any body) (point st) st) looping.joins).notes

  more_notes : more.notes ≡ looping.back.notes ++ note.State (point more) ∷ []
  unfolding noting_state
  more_notes = sym (ap (λ (x : State). x.notes) looping.is) ∙ ap (λ (x : State). looping.back.notes ++ note.State (point x) ∷ []) looping.is

  more_point : point more ≡ (let r : StateType = record { ctx = record { vars = looping.back.ctx.vars; rows = looping.sides.on_false }; places = looping.start.types } in r)
  unfolding noting_state
  more_point = ap point (sym looping.is)

  -- ---- what is carried

  abbrev l_head : Labelled
  l_head = labelled from l

  abbrev target : Option StateType
  target = state_here from l

  abbrev l_begun : Labelled
  l_begun = way_if true from clause target l_head

  abbrev l_test : Labelled
  l_test = test from false asked l_begun

  abbrev l_turn : Labelled
  l_turn = carried.block from body l_test

  abbrev l_back : Labelled
  l_back = way_if (completes_all body) from clause target l_turn

  abbrev l_end : Labelled
  l_end = labelled from l_back

  module _ (begins : Begins w p s st l ((suc p ∷ (tl ++ (bl ++ to_end ∷ []))) ++ coming)) (at : CodeAt w.body p (jump (suc p) ∷ (T ++ (B ++ jump_if (completes_all body) (suc p)))))
      (ahead : AllAhead w more l_end) where
    abbrev tail : List Note
    tail = ahead.ahead.notes.rest

    ahead_turn : Ahead w looping.turn
    ahead_turn = earlier w looping.turn more later_from_turn ahead.ahead

    ahead_sides : Ahead w looping.sides.after
    ahead_sides = earlier w looping.sides.after more later_from_sides ahead.ahead

    ahead_begun : Ahead w looping.begun
    ahead_begun = earlier w looping.begun more later_from_begun ahead.ahead

    ahead_back : Ahead w looping.back
    ahead_back = earlier w looping.back more later_more ahead.ahead

    -- ---- notes

    whole_back : w.notes ≡ looping.back.notes ++ (note.State (point more) ∷ tail)
    whole_back = ahead.ahead.notes.is ∙ ap (λ ns. ns ++ tail) more_notes ∙ append_assoc looping.back.notes (note.State (point more) ∷ []) tail

    abbrev rest_begun : List Note
    rest_begun = ahead_begun.notes.rest

    abbrev the_edge : Note
    the_edge = note.Edge entry.values entry.actual (all_asked w.site a st.ctx entry.found.rows (none_asked looping.start)).numbers

    notes_here : l.now.notes ≡ note.State (point looping.start) ∷ the_edge ∷ rest_begun
    notes_here =
        same_behind st.notes l.now.notes (note.State (point looping.start) ∷ the_edge ∷ rest_begun)
        (sym begins.here.remains ∙ ahead_begun.notes.is ∙ ap (λ (m : State). m.notes ++ rest_begun) entry.is ∙ append_assoc looping.start.notes (the_edge ∷ []) rest_begun
        ∙ ap (λ ns. ns ++ (the_edge ∷ rest_begun)) start_notes ∙ append_assoc st.notes (note.State (point looping.start) ∷ []) (the_edge ∷ rest_begun))

    abbrev head_state : StateType
    head_state = label_state columns (suc (length l.states)) (point looping.start)

    target_is : target ≡ Some head_state
    target_is = ap (λ ns. next_state from ns l.states) notes_here

    head_states : l_head.states ≡ l.states ++ head_state ∷ []
    head_states = label_made from l (point looping.start) (the_edge ∷ rest_begun) notes_here

    begun_left : l_begun.now.notes ≡ rest_begun
    begun_left = ap (λ ns. behind_front (behind_front ns)) notes_here

    remains_begun : IsLeft w looping.begun l_begun.now.notes
    remains_begun = ahead_begun.notes.is ∙ ap (λ ns. looping.begun.notes ++ ns) (sym begun_left)

    test_left : Left l_begun l_test ahead_sides.notes.rest (length tl)
    test_left =
        left_behind w (test from false asked) (length tl) looping.begun.notes looping.sides.after.notes
        (answered (tested w.site asked looping.begun) looping.sides (test_taken w.site from asked false (suc p) looping.begun) looping.tests) l_begun ahead_sides.notes.rest remains_begun ahead_sides.notes.is

    body_left : Left l_test l_turn ahead_turn.notes.rest (length bl)
    body_left =
        left_behind w (carried.block from body) (length bl) looping.sides.after.notes looping.turn.notes
        (answered (elaborated.block w.site body side) looping.turn (block_taken w.site from body q side) looping.inner) l_test ahead_turn.notes.rest
        (ahead_sides.notes.is ∙ ap (λ ns. looping.sides.after.notes ++ ns) (sym test_left.notes)) ahead_turn.notes.is

    remains_turn : w.notes ≡ looping.turn.notes ++ l_turn.now.notes
    remains_turn = ahead_turn.notes.is ∙ ap (λ ns. looping.turn.notes ++ ns) (sym body_left.notes)

    back_left : l_back.now.notes ≡ note.State (point more) ∷ tail
    back_left =
        past_left w (completes_all body) a looping.joint (point looping.turn) looping.turn looping.back l_turn.now.notes (note.State (point more) ∷ tail) looping.turns remains_turn whole_back

    -- ---- labels

    abbrev end_state : StateType
    end_state = label_state columns (suc (length l_turn.states)) (point more)

    end_states : l_end.states ≡ l_turn.states ++ end_state ∷ []
    end_states = label_made from l_back (point more) tail back_left

    end_left : l_end.now.notes ≡ tail
    end_left = ap behind_front back_left

    turn_grows : Continues l_turn.states l_end.states
    turn_grows = record { rest = end_state ∷ []; is = end_states }

    begun_grows : Continues l_begun.states l_end.states
    begun_grows = more_again l_begun.states l_test.states l_end.states test_left.grows (more_again l_test.states l_turn.states l_end.states body_left.grows turn_grows)

    coming_all : Coming w l.states (suc p ∷ (tl ++ (bl ++ (to_end ∷ coming))))
    coming_all =
        subst (λ ns. Coming w l.states (suc p ∷ ns))
        (append_assoc tl (bl ++ to_end ∷ []) coming ∙ ap (λ ns. tl ++ ns) (append_assoc bl (to_end ∷ []) coming)) begins.labels

    coming_begun : Coming w l_begun.states (tl ++ (bl ++ (to_end ∷ coming)))
    coming_begun =
        coming_behind w l.states l_begun.states (suc p ∷ []) (tl ++ (bl ++ (to_end ∷ coming))) coming_all (ap length head_states ∙ length-append l.states (head_state ∷ []))

    coming_test : Coming w l_test.states (bl ++ (to_end ∷ coming))
    coming_test = coming_behind w l_begun.states l_test.states tl (bl ++ (to_end ∷ coming)) coming_begun test_left.states

    coming_turn : Coming w l_turn.states (to_end ∷ coming)
    coming_turn = coming_behind w l_test.states l_turn.states bl (to_end ∷ coming) coming_test body_left.states

    head_label : LabelAt w columns (suc p) (length l.states) (point looping.start)
    head_label =
        next_label w columns has l.states (tl ++ (bl ++ (to_end ∷ coming))) (suc p) (point looping.start) coming_all
        (subst (λ ss. Continues ss w.body.labels) head_states (more_again l_begun.states l_end.states w.body.labels begun_grows ahead.states))

    end_label : LabelAt w columns to_end (length l_turn.states) (point more)
    end_label = next_label w columns has l_turn.states coming to_end (point more) coming_turn (subst (λ ss. Continues ss w.body.labels) end_states ahead.states)

    -- ---- the way in

    within_before : Within w st.types
    within_before = begins.here.within

    within_start : Within w looping.start.types
    within_start x t there =
        (let entry = entry_at (IsEntry set.kinds before.visible) looping.start.types x t start_knows.agree there in
        let it = found st.types x (here.at.knows.there x entry.0) in
        begins.here.within x it.type it.at)

    at_jump : CodeAt w.body p (jump (suc p) ∷ [])
    at_jump = code_left w.body p (jump (suc p) ∷ []) (T ++ (B ++ jump_if (completes_all body) (suc p))) at

    abbrev edge_in : Edge
    edge_in = way_edge w.proofs clause.vars target (way_in (behind_front l.now.notes))

    goes_in : GoesTo w.body.setting.own w.body.labels s (number_of w.body.positions (suc p)) edge_in
    goes_in =
        let comes = comes_from set w.site before.visible before.visible clause (changes_any body) st st joint (λ y h. h) start_knows here.at.knows facts_here (omega arith) (no_more st.ctx.rows) (λ x e n. refl) in
        let goes = way_goes w columns has clause (changes_any body) (point st) st joint meeting a st looping.start looping.begun entry comes s begins.here.now.ctx isw.proved ahead_begun.goals
        (suc p) (length l.states) head_label within_before
        (λ x t live there. begins.here.now.types x t (jump_live w (suc p) p at_jump columns (length l.states) (point looping.start) head_label x live) there) in
        subst (λ sig. GoesTo sig w.body.labels s (number_of w.body.positions (suc p)) edge_in) (own_is w isw)
        (subst (λ e. GoesTo w.site.own w.body.labels s (number_of w.body.positions (suc p)) e)
        (sym (ap₂ (λ o x. way_edge w.proofs clause.vars o x) target_is (ap (λ ns. way_in (behind_front ns)) notes_here))) goes)

    first : Passes w columns p s (jump (suc p) ∷ []) (suc p ∷ []) l l_begun head_state
    first =
        jump_passes w columns p s head_state (suc p) edge_in l l_begun (suc p ∷ []) (head_state ∷ []) at_jump
        (subst (λ (c : IndexContext). c.vars ≤ 1024) (sym begins.here.now.ctx) begins.here.few) goes_in refl head_states (
          label_behind w columns p (suc p) (suc (length l.states)) s (point looping.start) st.notes (the_edge ∷ rest_begun) refl
              (begins.here.remains ∙ ap (λ ns. st.notes ++ ns) notes_here),
          tt,
        )

    -- ---- the test

    here_begun : Here w (suc p) head_state looping.begun [] l_begun.now.notes
    here_begun =
        label_here w columns has (suc p) (length l.states) (point looping.start) head_label within_start looping.begun l_begun.now.notes (sym same_point) remains_begun begun_here.known.kept.few

    aims : Aims w columns to_end (rows_on false looping.sides) looping.begun.types
    aims = record {
      number = length l_turn.states;
      noted = point more;
      label = end_label;
      begins = subst (λ rows. Continues rows looping.sides.on_false) (sym (ap (λ (x : StateType). x.ctx.rows) more_point)) (no_more looping.sides.on_false);
      are = ap (λ (x : StateType). x.places) more_point ∙ sym (ap (λ (x : StateType). x.places) same_point);
    }

    at_rest : CodeAt w.body (suc p) (T ++ (B ++ jump_if (completes_all body) (suc p)))
    at_rest = code_right w.body p (suc p) (jump (suc p) ∷ []) (T ++ (B ++ jump_if (completes_all body) (suc p))) (omega arith) at

    test_there : q ≡ suc p + length T
    test_there = ap (λ n. suc p + n) (sym (test_long w.vars (unless to_end) asked (suc p)).is)

    tested_well : Typed true w columns (suc p) head_state T tl l_begun l_test side (bl ++ (to_end ∷ coming))
    tested_well =
        test_typed w isw columns has (Facts w.site) (keeps_facts w set g) set before.visible asked is_test (unless to_end) (suc p) head_state looping.begun l_begun (bl ++ (to_end ∷ coming))
        looping.sides (facts_of set w.site g inner looping.begun begun_here) (record { here = here_begun; labels = coming_begun })
        (code_left w.body (suc p) T (B ++ jump_if (completes_all body) (suc p)) at_rest) looping.tests
        (record { ahead = ahead_sides; states = more_again l_test.states l_end.states w.body.labels (more_again l_test.states l_turn.states l_end.states body_left.grows turn_grows) ahead.states }) aims

    -- ---- the body

    abbrev mid : StateType
    mid = tested_well.ends.end

    side_here : Place set w.site inner side
    side_here = true_place set w.site g asked inner looping.begun looping.sides looping.tests begun_here

    at_body : CodeAt w.body q (B ++ jump_if (completes_all body) (suc p))
    at_body = code_right w.body (suc p) q T (B ++ jump_if (completes_all body) (suc p)) test_there at_rest

    turned_well : Typed (completes_all body) w columns q mid B bl l_test l_turn looping.turn (to_end ∷ coming)
    turned_well =
        body_typed.is inner last q mid side l_test (to_end ∷ coming) looping.turn are side_here
        (record { here = subst (λ n. Here w n mid side [] l_test.now.notes) (sym test_there) tested_well.ends.here; labels = coming_test })
        (code_left w.body q B (jump_if (completes_all body) (suc p)) at_body) looping.inner
        (record { ahead = ahead_turn; states = more_again l_turn.states l_end.states w.body.labels turn_grows ahead.states })

    -- ---- the jump back, and what stands behind the loop

    within_more : Within w more.types
    within_more x t there = within_start x t (ap (λ (r : StateType). type_at x r.places) (sym more_point) ∙ there)

    meets : Meets (Unit {0}) (λ x. changes_any body x || names head x) (point st) st joint
    meets = answered (joined w.site clause (changes_any body) (point st) st) joint (joined_goes (Unit {0}) w.site head (changes_any body) (point st) st (λ u. here.named)) looping.joins

    well : JoinsWell w.site.table (point st) here.known.kept.rows here.known.kept.types here.known.kept.rise clause st looping.start
    well =
        answered (joined w.site clause (changes_any body) (point st) st) joint
        (joined_kept w.site.table (point st) here.known.kept.rows here.known.kept.types here.known.kept.rise w.site clause (changes_any body) st (clause_exists set w.site g.ground before head inner is_clause))
        looping.joins

    begun_ctx : looping.begun.ctx ≡ looping.start.ctx
    begun_ctx = ap (λ (r : StateType). r.ctx) same_point

    begun_types : looping.begun.types ≡ looping.start.types
    begun_types = ap (λ (r : StateType). r.places) same_point

    body_leaves : Leaves w.site (completes_all body) last side looping.turn
    body_leaves = block_left set w.site g body inner last side looping.turn are looping.inner side_here

    turn_vars : st.ctx.vars ≤ looping.turn.ctx.vars
    turn_vars =
        (let x = meets.later.vars in
        let y = ap (λ (c : IndexContext). c.vars) begun_ctx in
        let z = later_sides.vars in
        let v = later_turn.vars in
        omega (arith, x, y, z, v))

    turn_rows : Continues st.ctx.rows looping.turn.ctx.rows
    turn_rows =
        more_again st.ctx.rows looping.start.ctx.rows looping.turn.ctx.rows well.rows
        (subst (λ (c : IndexContext). Continues c.rows looping.turn.ctx.rows) begun_ctx
        (more_again looping.begun.ctx.rows looping.sides.on_true looping.turn.ctx.rows test_goes.grown.on_true body_leaves.rows))

    turn_same : (x : ℕ) → changes_any body x ≡ false → is_named x clause.vars ≡ false → type_at x looping.turn.types ≡ type_at x st.types
    turn_same x same unnamed =
        (answered (elaborated.block w.site body side) looping.turn (block_goes w.site body side) looping.inner).types x same
        ∙ ap (type_at x) (test_goes.grown.types ∙ begun_types)
        ∙ meets.types x (both_false (changes_any body x) (names head x) same (names_of head x ∙ unnamed))
      where
        both_false : (a b : Truth) → a ≡ false → b ≡ false → (a || b) ≡ false
        both_false true b e h = absurd (let bad : ⊥ = cc in bad)
        both_false false b e h = h

        names_of : (c : Option Clause) (x : ℕ) → names c x ≡ is_named x (stated c).vars
        names_of None x = refl
        names_of (Some c) x = refl

    within_body : AreWithin before.visible last.visible
    within_body = subst (λ v. AreWithin v last.visible) (clause_visible set before head inner is_clause) (block_within set inner body last are)

    turn_comes : ComesFrom clause (changes_any body) (point st) (point looping.turn) joint
    turn_comes =
        comes_from set w.site before.visible last.visible clause (changes_any body) st looping.turn joint within_body start_knows
        (block_at set w.site g.suits g.closed body inner last side looping.turn are side_here.at looping.inner).knows
        (block_facts set w.site g body inner last side looping.turn are looping.inner side_here) turn_vars turn_rows turn_same

    module _ (few_more : more.ctx.vars ≤ 1024) where
      finish : (c : Truth) → completes_all body ≡ c → Typed c w columns q mid B bl l_test l_turn looping.turn (to_end ∷ coming)
          → Passes w columns q mid (B ++ jump_if c (suc p)) (bl ++ to_end ∷ []) l_test (labelled from (way_if c from clause target l_turn)) end_state
      unfolding entered_if
      finish true e b =
          let turns = subst (λ c. entered_if c w.site a looping.joint (point looping.turn) looping.turn ≡ Ok looping.back) e looping.turns in
          let left = subst (λ c. (way_if c from clause target l_turn).now.notes ≡ note.State (point more) ∷ tail) e back_left in
          let states = subst (λ c. (labelled from (way_if c from clause target l_turn)).states ≡ l_turn.states ++ end_state ∷ []) e end_states in
          let q3 = q + length B in
          let long = (block_long frame body q).is in
          let code = subst (λ c. CodeAt w.body q (B ++ jump_if c (suc p))) e at_body in
          let at_back = code_right w.body q q3 B (jump (suc p) ∷ []) refl code in
          let it = way_left w a looping.joint (point looping.turn) looping.turn looping.back l_turn.now.notes (note.State (point more) ∷ tail) turns remains_turn whole_back in
          let end = b.ends.end in
          let at_end = b.ends.here in
          let goes = way_goes w columns has clause (changes_any body) (point st) st joint meeting a looping.turn looping.turn looping.back it.entry turn_comes end at_end.now.ctx isw.proved ahead_back.goals
          (suc p) (length l.states) head_label at_end.within
          (λ x t live there. at_end.now.types x t (jump_live w (suc p) q3 at_back columns (length l.states) (point looping.start) head_label x live) there) in
          let edge = way_edge w.proofs clause.vars target (way_in l_turn.now.notes) in
          let goes_back = subst (λ sig. GoesTo sig w.body.labels end (number_of w.body.positions (suc p)) edge) (own_is w isw)
          (subst (λ x. GoesTo w.site.own w.body.labels end (number_of w.body.positions (suc p)) x)
          (sym (ap₂ (λ o x. way_edge w.proofs clause.vars o x) target_is (ap way_in it.notes_are))) goes) in
          let size = ap one_if e in
          let jumps = jump_passes w columns q3 end end_state (suc p) edge l_turn (labelled from (way_if true from clause target l_turn)) (to_end ∷ []) (end_state ∷ []) at_back
          (subst (λ (c : IndexContext). c.vars ≤ 1024) (sym at_end.now.ctx) at_end.few) goes_back refl states
          (label_behind w columns q3 to_end (suc (length l_turn.states)) end (point more) looping.back.notes tail (omega (arith, long, size)) whole_back, tt) in
          passes_on w columns q q3 mid end end_state B (jump (suc p) ∷ []) bl (to_end ∷ []) l_test l_turn (labelled from (way_if true from clause target l_turn)) refl b.ends.passes jumps
      finish false e b =
          let states = subst (λ c. (labelled from (way_if c from clause target l_turn)).states ≡ l_turn.states ++ end_state ∷ []) e end_states in
          let q3 = q + length B in
          let long = (block_long frame body q).is in
          let size = ap one_if e in
          let stands : Passes w columns q3 end_state [] (to_end ∷ []) l_turn (labelled from (way_if false from clause target l_turn)) end_state = record {
            runs = record { edges = []; are = refl; states = []; chain = Done end_state };
            made = end_state ∷ [];
            made_is = states;
            labels = (
              record {
                offset = 0;
                is = omega (arith, long, size);
                stands = refl;
                number = suc (length l_turn.states);
                noted = point more;
                label_is = refl;
                place = length looping.back.notes;
                is_noted = ap (λ ns. slice_get ns (length looping.back.notes)) whole_back ∙ seam looping.back.notes tail (note.State (point more));
              },
              tt,
            );
          } in
          passes_on w columns q q3 mid end_state end_state B [] bl (to_end ∷ []) l_test l_turn (labelled from (way_if false from clause target l_turn)) refl (b.ends end_state) stands

      -- the whole of it
      whole_there : to_end ≡ q + length (B ++ jump_if (completes_all body) (suc p))
      whole_there =
          (let long = (block_long frame body q).is in
          let jumps = (long_jump (completes_all body) (suc p)).is in
          let both = length-append B (jump_if (completes_all body) (suc p)) in
          omega (arith, long, jumps, both))

      remains_more : IsLeft w more l_end.now.notes
      remains_more = ahead.ahead.notes.is ∙ ap (λ ns. more.notes ++ ns) (sym end_left)

      behind_body : Typed true w columns q mid (B ++ jump_if (completes_all body) (suc p)) (bl ++ to_end ∷ []) l_test l_end more coming
      behind_body = record {
        ends = record {
          end = end_state;
          passes = finish (completes_all body) refl turned_well;
          here = subst (λ n. Here w n end_state more [] l_end.now.notes) whole_there
              (label_here w columns has to_end (length l_turn.states) (point more) end_label within_more more l_end.now.notes refl remains_more few_more);
        };
        left = remains_more;
        labels = coming_behind w l_turn.states l_end.states (to_end ∷ []) coming coming_turn (ap length end_states ∙ length-append l_turn.states (end_state ∷ []));
      }

      pub loop_typed : Typed true w columns p s (jump (suc p) ∷ (T ++ (B ++ jump_if (completes_all body) (suc p)))) (suc p ∷ (tl ++ (bl ++ to_end ∷ []))) l l_end more coming
      loop_typed =
          typed_on w columns true p (suc p) s head_state (jump (suc p) ∷ []) (T ++ (B ++ jump_if (completes_all body) (suc p))) (suc p ∷ []) (tl ++ (bl ++ to_end ∷ [])) l l_begun l_end more coming
          (omega arith) first
          (typed_on w columns true (suc p) q head_state mid T (B ++ jump_if (completes_all body) (suc p)) tl (bl ++ to_end ∷ []) l_begun l_test l_end more coming test_there
          tested_well.ends.passes behind_body)

-- as a statement
pub while_typed : (w : Walk) (isw : IsWalk w) (columns : List (List Truth)) → HasLabels w columns → (set : Setting) → Grounds set w.site → (frame : Frame) → w.vars ≡ length frame.kinds
    → (asked : core.Test) (head : Option Clause) (body : core.Stmts) (a : ℕ) → BlockTyped w columns frame set body → StatementTyped w columns frame set (core.While asked head body a)
unfolding IsStatement statement_code statement_labels carried.statement
while_typed w isw columns has set g frame vars_are asked head body a body_typed = record {
  is = λ before after p t st l coming more is here begins at made ahead.
      (let looping = looping_is w.site asked head body a st more made in
      let few = (statement_left set w.site g (core.While asked head body a) before after st more is made here).kept.few in
      let code = λ (n : ℕ). jump (suc p) ∷ (test_code n (unless (behind_loop asked body p)) asked (suc p) ++ (block_code frame body (first_at asked (suc p)) ++ jump_if (completes_all body) (suc p))) in
      subst (λ n. Typed true w columns p t (code n) (statement_labels (core.While asked head body a) p) l (carried.statement (sources_of w columns) (core.While asked head body a) l) more coming) vars_are
      (loop_typed w isw columns has set g frame vars_are asked head body a body_typed before is.0 is.1 is.2 is.3 is.4 p t st l coming more here looping begins
      (subst (λ n. CodeAt w.body p (code n)) (sym vars_are) at) ahead few));
}
