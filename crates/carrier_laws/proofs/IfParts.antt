-- The parts of an `if`: its test and both branches are typed where they stand, and the label of the second branch is known before.
use Rattle.std.proofs.Common.{◌≡◌, ◌∙◌, ℕ, suc, ◌+◌, ◌≤◌, Bool as Truth, true, false, ◌||◌, ◌&&◌, List, [], ◌∷◌, ◌++◌, length, Option, Some, None, Ok, refl, sym, ap, ap₂, subst, arith, append_assoc, append-nil}
use Rattle.std.proofs.lemmas.List.{length-append}
use Rattle.state_types.specs.PlaceTypes.{type_at}
use Rattle.index_sorts.specs.Context.{IndexContext}
use Rattle.state_types.specs.declared.state.StateType.{StateType}
use Rattle.state_types.specs.declared.types.Ty.{Ty}
use Rattle.three_address.specs.declared.instruction.LowInstr.{LowInstr}
use Rattle.three_address.specs.declared.typed.Edge.{Edge}
use Rattle.value_lowering.specs.Frames.{Frame}
use Rattle.value_lowering.specs.OneInstruction.{jump, one_if, jump_if, label_if}
use Rattle.lowering.specs.StatementCode.{block_size, is_stated, block_code, block_labels, statement_code, statement_labels, first_at, second_at, meet_at, meet, jumps, unless}
use Rattle.lowering.specs.TestCode.{test_code, test_labels}
use Rattle.lowering.proofs.CodeSizes.{test_long, block_long}
use Rattle.xanadu_tree.specs.BodyRules.{Point, completes_all, behind_block, AreStatements, IsClauseIfAny}
use Rattle.xanadu_tree.specs.KindRules.{Setting, IsTest}
use Rattle.xanadu_tree.specs.declared.stmt.Clause.{Clause}
use Rattle.xanadu_tree.specs.Plain as core
use Rattle.typed_core.specs.Growth.{Continues, Later}
use Rattle.typed_core.specs.Joins.{changes_any, still_visible, stated, joined, entered_if}
use Rattle.typed_core.proofs.GrownJoins.{entered_if_goes}
use Rattle.std.proofs.lemmas.Bool.{or_parts}
use Rattle.typed_core.specs.States.{Site, State, point, noting_state}
use Rattle.typed_core.specs.Statements.{other_branch, after_branches, going_on, meeting}
use Rattle.typed_core.specs.Statements as elaborated
use Rattle.typed_core.specs.Tests.{Sides, on_side, tested}
use Rattle.typed_core.specs.declared.note.Note.{Note}
use Rattle.typed_core.specs.declared.note.Note.TheVariants as note
use Rattle.typed_core.proofs.Continued.{no_more, one_more, more_again}
use Rattle.typed_core.proofs.GrownStatements.{block_goes, after_goes}
use Rattle.typed_core.proofs.GrownTests.{tested_goes}
use Rattle.typed_core.proofs.NamedStates.{answered}
use Rattle.type_carrier.specs.CarriedStatements.{branches_meet, second_begins}
use Rattle.type_carrier.specs.CarriedStatements as carried
use Rattle.type_carrier.specs.CarriedTests.{Labelled, Sources, labelled, test}
use Rattle.type_carrier.specs.ProvedRows.{plain, behind_front}
use Rattle.type_carrier.specs.Ways.{label_state}
use Rattle.carrier_laws.proofs.ChainsTyped.{CodeAt, code_left, code_right}
use Rattle.carrier_laws.proofs.ConstructsTyped.{earlier}
use Rattle.carrier_laws.proofs.OperandsRun.{Walk, IsWalk, Ahead, Here, same_behind}
use Rattle.source_safety.proofs.BranchParts.{IsBranching, changed_by}
use Rattle.source_safety.proofs.BranchParts as branch_parts
use Rattle.typed_core.proofs.KnownTypes.{IsEntry, Knows, AreWithin, entry_at, present_of}
use Rattle.typed_core.proofs.TypeKinds.{ty_kind}
use Rattle.typed_core.proofs.FitStatements.{block_within}
use Rattle.carrier_laws.proofs.JumpsTyped.{jump_live}
use Rattle.carrier_laws.proofs.IfMeets as meets_at
use Rattle.state_types.proofs.Thens.{then_ok, ok_same}
use Rattle.carrier_laws.proofs.BlocksAsked.{BlockTyped}
use Rattle.carrier_laws.proofs.FragmentsJoined.{typed_on}
use Rattle.carrier_laws.proofs.IfTyped.{both_meet, second_ends, second_goes_on}
use Rattle.carrier_laws.proofs.VisibleEnds.{visible_same, visible_rise}
use Rattle.carrier_laws.proofs.FragmentsTyped.{sources_of, HasLabels, Coming, LabelAt, AllAhead, Begins, Typed}
use Rattle.carrier_laws.proofs.LabelsMet.{Formed, next_label, plain_jump, label_here}
use Rattle.carrier_laws.proofs.LabelsTaken.{Left, TakesAll, all_on, test_taken}
use Rattle.carrier_laws.proofs.LeavesTyped.{rows_on}
use Rattle.carrier_laws.proofs.PlacesKept.{Grounds, Facts, Place, facts_of, true_place, block_left, block_facts, other_place, SideFacts, sides_facts}
use Rattle.carrier_laws.proofs.StatementsTaken.{TakesFront, with_front, branches_taken, block_taken}
use Rattle.carrier_laws.proofs.TestsTyped.{KeepsFacts, test_typed, left_behind, coming_behind, label_made}
use Rattle.carrier_laws.proofs.WaysTyped.{facts_formed}

-- what is visible before a block has a type behind it
present_still : (set : Setting) (site : Site) (visible inner : List ℕ) (st end : State) → AreWithin visible inner → Knows set.kinds visible st.types → Knows set.kinds inner end.types
    → (x : ℕ) (v : Ty) → type_at x st.types ≡ Some v → (u : Ty) × (type_at x end.types ≡ Some u)
present_still set site visible inner st end within known later x v at =
    let entry = entry_at (IsEntry set.kinds visible) st.types x v known.agree at in
    let it = present_of set.kinds inner end.types x (ty_kind v) later (within x entry.0) entry.1 in
    (it.type, it.at)

module _ (w : Walk) (isw : IsWalk w) (columns : List (List Truth)) (has : HasLabels w columns) (frame : Frame) (set : Setting) (g : Grounds set w.site) (sized : w.vars ≡ length frame.kinds)
    (asked : core.Test) (on_true on_false : core.Stmts) (join : Option Clause) (a : ℕ) (one_is : BlockTyped w columns frame set on_true) (two_is : BlockTyped w columns frame set on_false)
    (before inner last : Point) (p : ℕ) (s : StateType) (st : State) (l : Labelled) (coming : List ℕ) (more : State) (is_test : IsTest set before.visible asked)
    (are : AreStatements set before on_true inner) (others : AreStatements set (behind_block before inner) on_false last) (place : Place set w.site before st)
    (begins : Begins w p s st l (statement_labels (core.If asked on_true on_false join a) p ++ coming)) (at : CodeAt w.body p (statement_code frame (core.If asked on_true on_false join a) p))
    (b : IsBranching w.site asked on_true on_false join a st more) (ahead : AllAhead w more (carried.statement (sources_of w columns) (core.If asked on_true on_false join a) l)) where
  abbrev pub from : Sources
  from = sources_of w columns

  abbrev pub one_ends : Truth
  one_ends = completes_all on_true

  abbrev pub two_ends : Truth
  two_ends = completes_all on_false

  abbrev pub one_at : ℕ
  one_at = first_at asked p

  abbrev pub two_at : ℕ
  two_at = second_at asked on_true p

  abbrev pub past : ℕ
  past = meet_at asked on_true on_false join p

  abbrev pub l1 : Labelled
  l1 = test from false asked l

  abbrev pub l2 : Labelled
  l2 = carried.block from on_true l1

  abbrev pub l3 : Labelled
  l3 = labelled from l2

  abbrev pub l4 : Labelled
  l4 = carried.block from on_false (second_begins l3)

  abbrev pub l5 : Labelled
  l5 = branches_meet one_ends two_ends join from l3.now.edges l4

  abbrev pub test_part : List LowInstr
  test_part = test_code (length frame.kinds) (unless two_at) asked p

  abbrev pub one_part : List LowInstr
  one_part = block_code frame on_true one_at

  abbrev pub jump_part : List LowInstr
  jump_part = jump_if one_ends past

  abbrev pub two_part : List LowInstr
  two_part = block_code frame on_false two_at

  abbrev pub last_part : List LowInstr
  last_part = jump_if (jumps on_true on_false join) past

  abbrev pub test_names : List ℕ
  test_names = test_labels false asked p

  abbrev pub one_names : List ℕ
  one_names = block_labels on_true one_at

  abbrev pub two_names : List ℕ
  two_names = block_labels on_false two_at

  abbrev pub last_names : List ℕ
  last_names = label_if (meet on_true on_false join) past

  abbrev pub begin_one : State
  begin_one = on_side b.sides.on_true b.sides.after

  abbrev pub begin_two : State
  begin_two = other_branch b.sides.on_false st b.one

  -- the state at the second branch
  abbrev pub noted : StateType
  noted = record { ctx = record { vars = b.one.ctx.vars; rows = b.sides.on_false }; places = st.types }

  -- ---- code and labels

  pub code_at : CodeAt w.body p (test_part ++ (one_part ++ (jump_part ++ (two_part ++ last_part))))
  unfolding statement_code
  code_at = at

  labels_here : Coming w l.states (test_names ++ (one_names ++ (two_at ∷ (two_names ++ (last_names ++ coming)))))
  unfolding statement_labels
  labels_here = subst (λ ns. Coming w l.states ns) (regroup test_names one_names two_names last_names) begins.labels
    where
      regroup : (x y z u : List ℕ) → (x ++ (y ++ (two_at ∷ (z ++ u)))) ++ coming ≡ x ++ (y ++ (two_at ∷ (z ++ (u ++ coming))))
      regroup x y z u = append_assoc x (y ++ (two_at ∷ (z ++ u))) coming
          ∙ ap (λ r. x ++ r) (append_assoc y (two_at ∷ (z ++ u)) coming ∙ ap (λ r. y ++ (two_at ∷ r)) (append_assoc z u coming))

  pub all_ahead : AllAhead w more l5
  unfolding carried.statement
  all_ahead = ahead

  -- ---- notes and states

  takes_test : TakesAll (test from false asked) (length test_names) st.notes b.sides.after.notes
  takes_test = answered (tested w.site asked st) b.sides (test_taken w.site from asked false p st) b.tests

  takes_one : TakesAll (carried.block from on_true) (length one_names) b.sides.after.notes b.one.notes
  takes_one = answered (elaborated.block w.site on_true begin_one) b.one (block_taken w.site from on_true one_at begin_one) b.first

  takes_two : TakesAll (carried.block from on_false) (length two_names) (b.one.notes ++ note.State noted ∷ []) b.two.notes
  unfolding noting_state
  takes_two = answered (elaborated.block w.site on_false begin_two) b.two (block_taken w.site from on_false two_at begin_two) b.second

  takes_last : TakesFront w.site from (λ first. branches_meet one_ends two_ends join from first) (length last_names) b.two.notes more.notes
  takes_last = answered _ more (branches_taken w.site from one_ends two_ends join a past (changed_by on_true on_false) (point st) (point b.one) b.two) b.meets

  takes_front : TakesAll (λ k. carried.block from on_true (test from false asked k)) (length test_names + length one_names) st.notes b.one.notes
  takes_front = all_on (test from false asked) (carried.block from on_true) (length test_names) (length one_names) st.notes b.sides.after.notes b.one.notes takes_test takes_one

  pub takes_rest : TakesAll (λ k. branches_meet one_ends two_ends join from k.now.edges (carried.block from on_false (second_begins k))) (length two_names + length last_names)
      (b.one.notes ++ note.State noted ∷ []) more.notes
  takes_rest =
      with_front w.site from (λ first. branches_meet one_ends two_ends join from first) (carried.block from on_false) (length two_names) (length last_names) (b.one.notes ++ note.State noted ∷ [])
      b.two.notes more.notes takes_two takes_last

  -- the notes behind the second branch's state
  abbrev pub rest_notes : List Note
  rest_notes = takes_rest.made ++ ahead.ahead.notes.rest

  notes_there : w.notes ≡ (b.one.notes ++ note.State noted ∷ []) ++ rest_notes
  notes_there = ahead.ahead.notes.is ∙ ap (λ ns. ns ++ ahead.ahead.notes.rest) takes_rest.is ∙ append_assoc (b.one.notes ++ note.State noted ∷ []) takes_rest.made ahead.ahead.notes.rest

  pub notes_whole : w.notes ≡ b.one.notes ++ (note.State noted ∷ rest_notes)
  notes_whole = notes_there ∙ append_assoc b.one.notes (note.State noted ∷ []) rest_notes

  front_left : Left l l2 (note.State noted ∷ rest_notes) (length test_names + length one_names)
  front_left =
      left_behind w (λ k. carried.block from on_true (test from false asked k)) (length test_names + length one_names) st.notes b.one.notes takes_front l (note.State noted ∷ rest_notes)
      begins.here.remains notes_whole

  rest_left : Left l3 l5 ahead.ahead.notes.rest (length two_names + length last_names)
  rest_left = takes_rest.by l3 ahead.ahead.notes.rest (ap behind_front front_left.notes)

  pub else_made : l3.states ≡ l2.states ++ label_state columns (suc (length l2.states)) noted ∷ []
  else_made = label_made from l2 noted rest_notes front_left.notes

  pub else_notes : l3.now.notes ≡ rest_notes
  else_notes = ap behind_front front_left.notes

  else_coming : Coming w l2.states (two_at ∷ (two_names ++ (last_names ++ coming)))
  else_coming =
      coming_behind w l.states l2.states (test_names ++ one_names) (two_at ∷ (two_names ++ (last_names ++ coming)))
      (subst (λ ns. Coming w l.states ns) (sym (append_assoc test_names one_names (two_at ∷ (two_names ++ (last_names ++ coming))))) labels_here)
      (let many = front_left.states in let long = length-append test_names one_names in omega (arith, many, long))

  states_there : Continues l3.states w.body.labels
  states_there = more_again l3.states l5.states w.body.labels rest_left.grows all_ahead.states

  -- the label of the second branch
  pub else_label : LabelAt w columns two_at (length l2.states) noted
  else_label = next_label w columns has l2.states (two_names ++ (last_names ++ coming)) two_at noted else_coming (subst (λ ss. Continues ss w.body.labels) else_made states_there)

  abbrev pub else_state : StateType
  else_state = label_state columns (suc (length l2.states)) noted

  -- ---- what is ahead

  pub one_types : (x : ℕ) → changed_by on_true on_false x ≡ false → type_at x b.one.types ≡ type_at x st.types
  one_types x e =
      (answered (elaborated.block w.site on_true begin_one) b.one (block_goes w.site on_true begin_one) b.first).types x (or_parts (changes_any on_true x) (changes_any on_false x) e).0
      ∙ ap (type_at x) (answered (tested w.site asked st) b.sides (tested_goes w.site asked st) b.tests).grown.types

  pub two_types : (x : ℕ) → changed_by on_true on_false x ≡ false → type_at x b.two.types ≡ type_at x st.types
  unfolding noting_state
  two_types x e =
      (answered (elaborated.block w.site on_false begin_two) b.two (block_goes w.site on_false begin_two) b.second).types x (or_parts (changes_any on_true x) (changes_any on_false x) e).1

  more_later : Later b.two more
  more_later =
      (answered _ more (after_goes ⊥ (changed_by on_true on_false) one_ends two_ends join w.site a (point st) (point b.one) b.two (λ p. absurd p)
      (record { named = λ p. absurd p; types = one_types }) (record { named = λ p. absurd p; types = two_types })) b.meets).later

  pub two_ahead : Ahead w b.two
  two_ahead = earlier w b.two more more_later ahead.ahead

  pub begin_two_ahead : Ahead w begin_two
  begin_two_ahead =
      earlier w begin_two b.two (answered (elaborated.block w.site on_false begin_two) b.two (block_goes w.site on_false begin_two) b.second).later two_ahead

  pub one_ahead : Ahead w b.one
  unfolding noting_state
  one_ahead = record { goals = begin_two_ahead.goals; notes = more_again b.one.notes (b.one.notes ++ note.State noted ∷ []) w.notes (one_more b.one.notes (note.State noted)) begin_two_ahead.notes }

  after_ahead : Ahead w b.sides.after
  after_ahead =
      (let x = earlier w begin_one b.one (answered (elaborated.block w.site on_true begin_one) b.one (block_goes w.site on_true begin_one) b.first).later one_ahead in
      record { goals = x.goals; notes = x.notes })

  -- ---- the parts

  test_ahead : AllAhead w b.sides.after l1
  test_ahead = record {
    ahead = after_ahead;
    states = more_again l1.states l2.states w.body.labels one_grows (more_again l2.states l3.states w.body.labels
        (record { rest = label_state columns (suc (length l2.states)) noted ∷ []; is = else_made }) states_there);
  }
    where
      one_grows : Continues l1.states l2.states
      one_grows =
          (let front = takes_test in
          let x = left_behind w (test from false asked) (length test_names) st.notes b.sides.after.notes takes_test l (takes_one.made ++ (note.State noted ∷ rest_notes)) begins.here.remains
          (notes_whole ∙ ap (λ ns. ns ++ (note.State noted ∷ rest_notes)) takes_one.is ∙ append_assoc b.sides.after.notes takes_one.made (note.State noted ∷ rest_notes)) in
          (takes_one.by l1 (note.State noted ∷ rest_notes) x.notes).grows)

  one_all_ahead : AllAhead w b.one l2
  one_all_ahead = record {
    ahead = one_ahead;
    states = more_again l2.states l3.states w.body.labels (record { rest = label_state columns (suc (length l2.states)) noted ∷ []; is = else_made }) states_there;
  }

  keeps : KeepsFacts w (Facts w.site)
  keeps = record {
    formed = λ x f. facts_formed w.site x f;
    sides = λ t x sides f made side. by_side sides side (answered (tested w.site t x) sides (sides_facts set w.site g t x f) made);
  }
    where
      by_side : {x : State} (sides : Sides) (side : Truth) → SideFacts set w.site g x sides → Facts w.site (on_side (rows_on side sides) sides.after)
      by_side sides true h = h.on_true
      by_side sides false h = h.on_false

  pub test_is : Typed true w columns p s test_part test_names l l1 begin_one (one_names ++ (two_at ∷ (two_names ++ (last_names ++ coming))))
  test_is =
      subst (λ n. CodeAt w.body p (test_code n (unless two_at) asked p) → Typed true w columns p s (test_code n (unless two_at) asked p) test_names l l1 begin_one
      (one_names ++ (two_at ∷ (two_names ++ (last_names ++ coming))))) sized
      (λ at. test_typed w isw columns has (Facts w.site) keeps set before.visible asked is_test (unless two_at) p s st l (one_names ++ (two_at ∷ (two_names ++ (last_names ++ coming)))) b.sides
      (facts_of set w.site g before st place) (record { here = begins.here; labels = labels_here }) at b.tests test_ahead
      (record { number = length l2.states; noted = noted; label = else_label; begins = no_more b.sides.on_false; are = refl }))
      (code_left w.body p test_part (one_part ++ (jump_part ++ (two_part ++ last_part))) code_at)

  pub one_there : one_at ≡ p + length test_part
  one_there = ap (λ n. p + n) (sym (test_long (length frame.kinds) (unless two_at) asked p).is)

  one_code : CodeAt w.body one_at (one_part ++ (jump_part ++ (two_part ++ last_part)))
  one_code = code_right w.body p one_at test_part (one_part ++ (jump_part ++ (two_part ++ last_part))) one_there code_at

  pub one_typed : Typed one_ends w columns one_at test_is.ends.end one_part one_names l1 l2 b.one (two_at ∷ (two_names ++ (last_names ++ coming)))
  one_typed =
      one_is.is before inner one_at test_is.ends.end begin_one l1 (two_at ∷ (two_names ++ (last_names ++ coming))) b.one are (true_place set w.site g asked before st b.sides b.tests place)
      (record { here = subst (λ n. Here w n test_is.ends.end begin_one [] l1.now.notes) (sym one_there) test_is.ends.here; labels = test_is.labels })
      (code_left w.body one_at one_part (jump_part ++ (two_part ++ last_part)) one_code) b.first one_all_ahead

  abbrev pub jump_there : ℕ
  jump_there = one_at + length one_part

  pub jump_code : CodeAt w.body jump_there (jump_part ++ (two_part ++ last_part))
  jump_code = code_right w.body one_at jump_there one_part (jump_part ++ (two_part ++ last_part)) refl one_code

  pub two_there : two_at ≡ jump_there + length jump_part
  two_there = by_kind one_ends
    where
      by_kind : (c : Truth) → one_at + block_size on_true + one_if c ≡ (one_at + length one_part) + length (jump_if c past)
      by_kind true = (let long = (block_long frame on_true one_at).is in omega (arith, long))
      by_kind false = (let long = (block_long frame on_true one_at).is in omega (arith, long))

  two_code : CodeAt w.body two_at (two_part ++ last_part)
  two_code = code_right w.body jump_there two_at jump_part (two_part ++ last_part) two_there jump_code

  pub two_place : Place set w.site (behind_block before inner) begin_two
  two_place = other_place set w.site g asked on_true before inner st b.one b.sides are b.tests b.first place

  pub two_begins : Begins w two_at else_state begin_two (second_begins l3) (two_names ++ (last_names ++ coming))
  unfolding noting_state
  two_begins = record {
    here = label_here w columns has two_at (length l2.states) noted else_label (λ x t e. begins.here.within x t e) begin_two l3.now.notes refl
        (notes_there ∙ ap (λ ns. (b.one.notes ++ note.State noted ∷ []) ++ ns) (sym else_notes)) few;
    labels = coming_behind w l2.states l3.states (two_at ∷ []) (two_names ++ (last_names ++ coming)) else_coming
        (ap length else_made ∙ length-append l2.states (else_state ∷ []));
  }
    where
      few : b.one.ctx.vars ≤ 1024
      few = (block_facts set w.site g on_true before inner begin_one b.one are b.first (true_place set w.site g asked before st b.sides b.tests place)).kept.few

  two_all_ahead : AllAhead w b.two l4
  two_all_ahead = record {
    ahead = two_ahead;
    states = more_again l4.states l5.states w.body.labels (takes_last.by l3.now.edges l4 ahead.ahead.notes.rest two_left.notes).grows all_ahead.states;
  }
    where
      two_left : Left (second_begins l3) l4 (takes_last.made ++ ahead.ahead.notes.rest) (length two_names)
      two_left =
          left_behind w (carried.block from on_false) (length two_names) (b.one.notes ++ note.State noted ∷ []) b.two.notes takes_two (second_begins l3) (takes_last.made ++ ahead.ahead.notes.rest)
          (notes_there ∙ ap (λ ns. (b.one.notes ++ note.State noted ∷ []) ++ ns) (sym else_notes))
          (ahead.ahead.notes.is ∙ ap (λ ns. ns ++ ahead.ahead.notes.rest) takes_last.is ∙ append_assoc b.two.notes takes_last.made ahead.ahead.notes.rest)

  pub two_typed : Typed two_ends w columns two_at else_state two_part two_names (second_begins l3) l4 b.two (last_names ++ coming)
  two_typed =
      two_is.is (behind_block before inner) last two_at else_state begin_two (second_begins l3) (last_names ++ coming) b.two others two_place two_begins
      (code_left w.body two_at two_part last_part two_code) b.second two_all_ahead

  pub last_there : past ≡ (two_at + length two_part) + length last_part
  last_there = by_kind (jumps on_true on_false join)
    where
      by_kind : (c : Truth) → two_at + block_size on_false + one_if c ≡ (two_at + length two_part) + length (jump_if c past)
      by_kind true = (let long = (block_long frame on_false two_at).is in omega (arith, long))
      by_kind false = (let long = (block_long frame on_false two_at).is in omega (arith, long))

  pub last_code : CodeAt w.body (two_at + length two_part) last_part
  last_code = code_right w.body two_at (two_at + length two_part) two_part last_part refl two_code

  -- ---- both branches

  abbrev pub front_part : List LowInstr
  front_part = test_part ++ one_part

  abbrev pub front_names : List ℕ
  front_names = test_names ++ one_names

  front_typed : (c : Truth) (names : List ℕ) → Typed c w columns one_at test_is.ends.end one_part one_names l1 l2 b.one names → Typed c w columns p s front_part front_names l l2 b.one names
  front_typed c names one = typed_on w columns c p one_at s test_is.ends.end test_part one_part test_names one_names l l1 l2 b.one names one_there test_is.ends.passes one

  front_there : jump_there ≡ p + length front_part
  front_there = (let long = length-append test_part one_part in let h = one_there in omega (arith, long, h))

  -- what is wanted, by which branches complete
  abbrev pub Whole : (c1 c2 : Truth) → (j : Option Clause) → Type 0
  Whole c1 c2 j = (front : List ℕ) → Typed c1 w columns one_at test_is.ends.end one_part one_names l1 l2 b.one front
      → Typed c2 w columns two_at else_state two_part two_names (second_begins l3) l4 b.two (label_if (c1 || (is_stated j && c2)) past ++ coming)
      → CodeAt w.body jump_there (jump_if c1 past) → two_at ≡ jump_there + length (jump_if c1 past)
      → CodeAt w.body (two_at + length two_part) (jump_if (c2 && (c1 || (is_stated j && c2))) past) → past ≡ (two_at + length two_part) + length (jump_if (c2 && (c1 || (is_stated j && c2))) past)
      → after_branches c1 c2 j w.site a (changed_by on_true on_false) (point st) (point b.one) b.two ≡ Ok more
      → AllAhead w more (branches_meet c1 c2 j from l3.now.edges l4)
      → Typed (c1 || c2) w columns p s ((front_part ++ jump_if c1 past) ++ (two_part ++ jump_if (c2 && (c1 || (is_stated j && c2))) past))
      ((front_names ++ two_at ∷ []) ++ (two_names ++ label_if (c1 || (is_stated j && c2)) past)) l (branches_meet c1 c2 j from l3.now.edges l4) more coming

  edges_none : (es fs : List Edge) → es ++ fs ≡ (es ++ []) ++ fs
  edges_none es fs = ap (λ xs. xs ++ fs) (sym (append-nil es))

  -- with no jump at the end
  no_last : (c : Truth) (code : List LowInstr) (names : List ℕ) (x : Labelled) → Typed c w columns p s (code ++ two_part) (names ++ two_names) l x more coming
      → Typed c w columns p s (code ++ (two_part ++ [])) (names ++ (two_names ++ [])) l x more coming
  no_last c code names x r =
      subst (λ z. Typed c w columns p s (code ++ z) (names ++ (two_names ++ [])) l x more coming) (sym (append-nil two_part))
      (subst (λ z. Typed c w columns p s (code ++ two_part) (names ++ z) l x more coming) (sym (append-nil two_names)) r)

  never_goes : {A : Type 0} → false ≡ true → A
  never_goes e = absurd (let bad : ⊥ = cc in bad)

  -- neither completes
  neither_none : Whole false false None
  unfolding after_branches
  neither_none front one two jump_at second_there last_at past_there meets ahead =
      no_last false (front_part ++ []) (front_names ++ two_at ∷ []) (branches_meet false false None from l3.now.edges l4)
      (second_ends w columns has p jump_there two_at (two_at + length two_part) past s front_part two_part front_names two_names l l2 l4 b.one b.two more coming noted rest_notes front_there refl notes_whole
      else_made false false front (front_typed false front one) jump_at second_there two plain
      (λ e so here. never_goes so) refl (branches_meet false false None from l3.now.edges l4) (edges_none l3.now.edges l4.now.edges) refl
      (two.left ∙ ap (λ (m : State). m.notes ++ l4.now.notes) (ok_same _ more meets)))

  neither_some : (c : Clause) → Whole false false (Some c)
  unfolding after_branches
  neither_some c front one two jump_at second_there last_at past_there meets ahead =
      no_last false (front_part ++ []) (front_names ++ two_at ∷ []) (branches_meet false false (Some c) from l3.now.edges l4)
      (second_ends w columns has p jump_there two_at (two_at + length two_part) past s front_part two_part front_names two_names l l2 l4 b.one b.two more coming noted rest_notes front_there refl notes_whole
      else_made false false front (front_typed false front one) jump_at second_there two plain
      (λ e so here. never_goes so) refl (branches_meet false false (Some c) from l3.now.edges l4) (edges_none l3.now.edges l4.now.edges) refl
      (two.left ∙ ap (λ (m : State). m.notes ++ l4.now.notes) (ok_same _ more meets)))

  -- the second alone completes, and nothing is stated
  visible_two : (x : ℕ) (t : Ty) → type_at x (still_visible st.types b.two.types) ≡ Some t → type_at x b.two.types ≡ Some t
  visible_two x t e = visible_same x t st.types b.two.types e (λ v h. present_still set w.site before.visible last.visible st b.two within_last place.at.knows two_knows x v h)
    where
      within_last : AreWithin before.visible last.visible
      within_last = block_within set (behind_block before inner) on_false last others

      two_knows : Knows set.kinds last.visible b.two.types
      two_knows = (branch_parts.two_at w.site asked on_true on_false join a st more b set g.suits g.closed before inner last place.at are others).knows

  second_alone : Whole false true None
  unfolding after_branches noting_state
  second_alone front one two jump_at second_there last_at past_there meets ahead =
      let l5 = branches_meet false true None from l3.now.edges l4 in
      let same = ok_same (going_on (point st) (point b.two) b.two) more meets in
      no_last true (front_part ++ []) (front_names ++ two_at ∷ []) l5
      (second_goes_on w columns has p jump_there two_at (two_at + length two_part) past s front_part two_part front_names two_names l l2 l4 b.one b.two more coming noted rest_notes front_there refl notes_whole
      else_made false true front (front_typed false front one) jump_at second_there two plain
      (λ e so here. never_goes so) refl l5 (edges_none l3.now.edges l4.now.edges) refl
      (λ e n here. subst (λ (m : State). Ahead w m → Here w n e m [] l5.now.notes) same
      (λ x. record {
        now = record { ctx = here.now.ctx; types = λ y t live there. here.now.types y t live (visible_two y t there) };
        waits = here.waits;
        remains = x.notes.is ∙ ap (λ ns. (b.two.notes ++ note.State (point (going_on (point st) (point b.two) b.two)) ∷ []) ++ ns)
            (sym (ap behind_front (same_behind b.two.notes l4.now.notes (note.State (point (going_on (point st) (point b.two) b.two)) ∷ x.notes.rest)
            (sym two.left ∙ x.notes.is ∙ append_assoc b.two.notes (note.State (point (going_on (point st) (point b.two) b.two)) ∷ []) x.notes.rest))));
        within = λ y t there. here.within y t (visible_two y t there);
        few = here.few;
      }) ahead.ahead))

  -- the first alone completes, and nothing is stated
  visible_one : (x : ℕ) (t : Ty) → type_at x (still_visible st.types b.one.types) ≡ Some t → type_at x b.one.types ≡ Some t
  visible_one x t e =
      visible_same x t st.types b.one.types e (λ v h. present_still set w.site before.visible inner.visible st b.one (block_within set before on_true inner are) place.at.knows
      (branch_parts.one_at w.site asked on_true on_false join a st more b set g.suits g.closed before inner last place.at are others).knows x v h)

  one_facts : Facts w.site b.one
  one_facts = block_facts set w.site g on_true before inner begin_one b.one are b.first (true_place set w.site g asked before st b.sides b.tests place)

  two_facts : Facts w.site b.two
  two_facts = block_facts set w.site g on_false (behind_block before inner) last begin_two b.two others b.second two_place

  visible_formed : Formed b.one.ctx.vars b.one.ctx.rows (still_visible st.types b.one.types)
  visible_formed =
      (let f = facts_formed w.site b.one one_facts in
      record { rows_stay = f.rows_stay; types_stay = λ x t at. f.types_stay x t (visible_one x t at); rise = visible_rise 0 st.types b.one.types place.known.kept.rise })

  first_alone : Whole true false None
  unfolding after_branches noting_state
  first_alone front one two jump_at second_there last_at past_there meets ahead =
      let l5 = branches_meet true false None from l3.now.edges l4 in
      let goes = going_on (point st) (point b.one) b.two in
      let there = point goes in
      let same = ok_same goes more meets in
      subst (λ (m : State). AllAhead w m l5 → Typed true w columns p s ((front_part ++ jump past ∷ []) ++ (two_part ++ [])) ((front_names ++ two_at ∷ []) ++ (two_names ++ past ∷ [])) l l5 m coming) same
      (λ x. let tail = x.ahead.notes.rest in
      let whole : w.notes ≡ b.two.notes ++ (note.State there ∷ tail) = x.ahead.notes.is ∙ append_assoc b.two.notes (note.State there ∷ []) tail in
      let left = same_behind b.two.notes l4.now.notes (note.State there ∷ tail) (sym two.left ∙ whole) in
      let made = label_made from l4 there tail left in
      let label = next_label w columns has l4.states coming past there two.labels (subst (λ ss. Continues ss w.body.labels) made x.states) in
      let within = λ (y : ℕ) (t : Ty) (e : type_at y (still_visible st.types b.one.types) ≡ Some t). one.ends.here.within y t (visible_one y t e) in
      let remains = x.ahead.notes.is ∙ ap (λ ns. (b.two.notes ++ note.State there ∷ []) ++ ns) (sym (ap behind_front left)) in
      both_meet w columns has p jump_there two_at (two_at + length two_part) past s front_part two_part front_names two_names l l2 l4 b.one b.two goes coming noted rest_notes front_there refl notes_whole
      else_made true false front (front_typed true front one) jump_at second_there last_at past_there there tail whole two plain plain l5
      (sym (append-nil ((l3.now.edges ++ plain ∷ []) ++ l4.now.edges))) made
      (λ e so here. plain_jump w columns has past (length l4.states) there label within w.body.setting.own e b.one.ctx.vars [] visible_formed
      (let h = ap (λ (c : IndexContext). c.vars) here.now.ctx in omega (arith, h)) (ap (λ (c : IndexContext). c.rows) here.now.ctx ∙ sym (append-nil b.one.ctx.rows))
      (λ y t live at. here.now.types y t (jump_live w past jump_there jump_at columns (length l4.states) there label y live) (visible_one y t at)))
      (λ e so here. never_goes so)
      (label_here w columns has past (length l4.states) there label within goes l5.now.notes refl remains two_facts.kept.few)) ahead

  -- both meet, where it is stated or not
  meets_typed : (c1 c2 : Truth) (j : Option Clause) (after : Point) → IsClauseIfAny set (behind_block before last) j after → more.ctx.vars ≤ 1024 → (front : List ℕ)
      → Typed c1 w columns one_at test_is.ends.end one_part one_names l1 l2 b.one front → Typed c2 w columns two_at else_state two_part two_names (second_begins l3) l4 b.two (past ∷ coming)
      → CodeAt w.body jump_there (jump_if c1 past) → two_at ≡ jump_there + length (jump_if c1 past)
      → CodeAt w.body (two_at + length two_part) (jump_if c2 past) → past ≡ (two_at + length two_part) + length (jump_if c2 past)
      → meeting w.site a (stated j) (changed_by on_true on_false) (point st) (record { one = point b.one; two = point b.two; one_completes = c1; two_completes = c2 }) b.two ≡ Ok more
      → AllAhead w more (carried.meeting c1 c2 from (stated j) l3.now.edges l4)
      → Typed true w columns p s ((front_part ++ jump_if c1 past) ++ (two_part ++ jump_if c2 past)) ((front_names ++ two_at ∷ []) ++ (two_names ++ past ∷ [])) l
      (carried.meeting c1 c2 from (stated j) l3.now.edges l4) more coming
  unfolding meeting noting_state
  meets_typed c1 c2 j after is_clause few front one two jump_at second_there last_at past_there meets ahead =
      let changed = changed_by on_true on_false in
      let f = then_ok (joined w.site (stated j) changed (point st) b.two) _ more meets in
      let joint = f.value.0 in
      let start = f.value.1 in
      let h = then_ok (entered_if c1 w.site a joint (point b.one) start) _ more f.second in
      let mid = h.value in
      let q2 = two_at + length two_part in
      let x1 = answered (entered_if c1 w.site a joint (point b.one) start) mid (entered_if_goes c1 w.site a joint (point b.one) start) h.first in
      let x2 = answered (entered_if c2 w.site a joint (point b.two) mid) more (entered_if_goes c2 w.site a joint (point b.two) mid) h.second in
      let same : point more ≡ point start = ap₂ (λ y z. let r : StateType = record { ctx = y; places = z } in r) (x2.ctx ∙ x1.ctx) (x2.types ∙ x1.types) in
      let one_knows = (branch_parts.one_at w.site asked on_true on_false join a st more b set g.suits g.closed before inner last place.at are others).knows in
      let two_knows = (branch_parts.two_at w.site asked on_true on_false join a st more b set g.suits g.closed before inner last place.at are others).knows in
      let two_leaves = block_left set w.site g on_false (behind_block before inner) last begin_two b.two others b.second two_place in
      let one_leaves = block_left set w.site g on_true before inner begin_one b.one are b.first (true_place set w.site g asked before st b.sides b.tests place) in
      let grown = (answered (tested w.site asked st) b.sides (tested_goes w.site asked st) b.tests).grown in
      let one_within = block_within set before on_true inner are in
      let two_within = block_within set (behind_block before inner) on_false last others in
      let test_vars = grown.later.vars in
      let first_vars = one_leaves.vars in
      let one_vars : st.ctx.vars ≤ b.one.ctx.vars = omega (arith, test_vars, first_vars) in
      let two_vars : b.one.ctx.vars ≤ b.two.ctx.vars = two_leaves.vars in
      let one_rows = more_again st.ctx.rows b.sides.on_true b.one.ctx.rows grown.on_true one_leaves.rows in
      let two_rows = more_again st.ctx.rows b.sides.on_false b.two.ctx.rows grown.on_false two_leaves.rows in
      let onward = more_again st.naming b.one.naming b.two.naming (more_again st.naming b.sides.after.naming b.one.naming grown.later.naming one_leaves.naming) two_leaves.naming in
      both_meet w columns has p jump_there two_at q2 past s front_part two_part front_names two_names l l2 l4 b.one b.two more coming noted rest_notes front_there refl notes_whole
      else_made c1 c2 front (front_typed c1 front one) jump_at second_there last_at past_there (point start)
      (meets_at.rest_start w isw columns has set g j a changed before inner last after is_clause st b.one b.two more place one_facts two_facts one_knows two_knows one_within two_within two_leaves.keys onward one_vars two_vars one_rows two_rows one_types two_types (λ x t e. begins.here.within x t e) joint start f.first c1 c2 mid h.first h.second l4 l3.now.edges coming past two.left two.labels ahead)
      (meets_at.whole w isw columns has set g j a changed before inner last after is_clause st b.one b.two more place one_facts two_facts one_knows two_knows one_within two_within two_leaves.keys onward one_vars two_vars one_rows two_rows one_types two_types (λ x t e. begins.here.within x t e) joint start f.first c1 c2 mid h.first h.second l4 l3.now.edges coming past two.left two.labels ahead)
      two
      (meets_at.edge1 w isw columns has set g j a changed before inner last after is_clause st b.one b.two more place one_facts two_facts one_knows two_knows one_within two_within two_leaves.keys onward one_vars two_vars one_rows two_rows one_types two_types (λ x t e. begins.here.within x t e) joint start f.first c1 c2 mid h.first h.second l4 l3.now.edges coming past two.left two.labels ahead)
      (meets_at.edge2 w isw columns has set g j a changed before inner last after is_clause st b.one b.two more place one_facts two_facts one_knows two_knows one_within two_within two_leaves.keys onward one_vars two_vars one_rows two_rows one_types two_types (λ x t e. begins.here.within x t e) joint start f.first c1 c2 mid h.first h.second l4 l3.now.edges coming past two.left two.labels ahead)
      (carried.meeting c1 c2 from (stated j) l3.now.edges l4)
      (meets_at.edges_are w isw columns has set g j a changed before inner last after is_clause st b.one b.two more place one_facts two_facts one_knows two_knows one_within two_within two_leaves.keys onward one_vars two_vars one_rows two_rows one_types two_types (λ x t e. begins.here.within x t e) joint start f.first c1 c2 mid h.first h.second l4 l3.now.edges coming past two.left two.labels ahead)
      (meets_at.made w isw columns has set g j a changed before inner last after is_clause st b.one b.two more place one_facts two_facts one_knows two_knows one_within two_within two_leaves.keys onward one_vars two_vars one_rows two_rows one_types two_types (λ x t e. begins.here.within x t e) joint start f.first c1 c2 mid h.first h.second l4 l3.now.edges coming past two.left two.labels ahead)
      (λ e so here. meets_at.first_goes w isw columns has set g j a changed before inner last after is_clause st b.one b.two more place one_facts two_facts one_knows two_knows one_within two_within two_leaves.keys onward one_vars two_vars one_rows two_rows one_types two_types (λ x t e. begins.here.within x t e) joint start f.first c1 c2 mid h.first h.second l4 l3.now.edges coming past two.left two.labels ahead jump_there jump_at e l2.now.notes so here)
      (λ e so here. meets_at.second_goes w isw columns has set g j a changed before inner last after is_clause st b.one b.two more place one_facts two_facts one_knows two_knows one_within two_within two_leaves.keys onward one_vars two_vars one_rows two_rows one_types two_types (λ x t e. begins.here.within x t e) joint start f.first c1 c2 mid h.first h.second l4 l3.now.edges coming past two.left two.labels ahead q2 last_at e l4.now.notes so here)
      (meets_at.meets_here w isw columns has set g j a changed before inner last after is_clause st b.one b.two more place one_facts two_facts one_knows two_knows one_within two_within two_leaves.keys onward one_vars two_vars one_rows two_rows one_types two_types (λ x t e. begins.here.within x t e) joint start f.first c1 c2 mid h.first h.second l4 l3.now.edges coming past two.left two.labels ahead same few)

  -- all cases
  pub if_cases : (c1 c2 : Truth) (j : Option Clause) (after : Point) → IsClauseIfAny set (behind_block before last) j after → more.ctx.vars ≤ 1024 → Whole c1 c2 j
  unfolding after_branches
  if_cases false false None after is few = neither_none
  if_cases false false (Some c) after is few = neither_some c
  if_cases true false None after is few = first_alone
  if_cases false true None after is few = second_alone
  if_cases true true None after is few = meets_typed true true None after is few
  if_cases true true (Some c) after is few = meets_typed true true (Some c) after is few
  if_cases true false (Some c) after is few = meets_typed true false (Some c) after is few
  if_cases false true (Some c) after is few = meets_typed false true (Some c) after is few
