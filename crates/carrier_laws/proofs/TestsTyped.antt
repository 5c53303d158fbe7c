-- The code of tests is typed: at each jump to the aim the rows of that side hold, and behind the test those of the other.
use Rattle.std.proofs.Common.{◌≡◌, ◌∙◌, ℕ, suc, ◌+◌, ◌<◌, ◌≤◌, Bool as Truth, true, false, not, List, [], ◌∷◌, ◌++◌, length, slice_get, Some, Ok, refl, sym, ap, subst, arith, append_assoc, append-nil}
use Rattle.std.specs.Prelude.{option_to_list}
use Rattle.std.specs.List.{AllZip}
use Rattle.std.proofs.lemmas.List.{length-append}
use Rattle.xan_lin.specs.Linear.{Linear}
use Rattle.state_types.specs.Answers.{◌>>=◌}
use Rattle.state_types.specs.declared.state.StateType.{StateType}
use Rattle.state_types.specs.declared.types.Ty.{Ty}
use Rattle.state_types.proofs.Thens.{then_ok, ok_same}
use Rattle.three_address.specs.Typing.{GoesTo}
use Rattle.three_address.specs.declared.instruction.LowInstr.{LowInstr}
use Rattle.three_address.specs.declared.typed.Edge.{Edge}
use Rattle.lowering.specs.Lowered.{number_of}
use Rattle.value_lowering.specs.OneInstruction.{Aim, jump}
use Rattle.lowering.specs.TestCode.{turned, past_parts, test_size, parts_size, test_code, parts_code, test_labels, parts_labels}
use Rattle.lowering.proofs.CodeSizes.{test_long, parts_long}
use Rattle.xanadu_tree.specs.KindRules.{Setting as KindSetting, IsTest, AreTests, AreSeveral}
use Rattle.xanadu_tree.specs.Plain as core
use Rattle.typed_core.specs.Growth.{Continues, Later, SidesGrown}
use Rattle.typed_core.specs.Limits.{Walk as Limited}
use Rattle.typed_core.specs.States.{Site, State, noting_state}
use Rattle.typed_core.specs.Tests.{Sides, on_side, tested, all_true, all_false}
use Rattle.typed_core.specs.declared.note.Note.{Note}
use Rattle.typed_core.specs.declared.note.Note.TheVariants as note
use Rattle.typed_core.proofs.Continued.{Goes, no_more, one_more, some_more, more_again, later_here, later_on}
use Rattle.typed_core.proofs.GrownTests.{Parts, tested_goes}
use Rattle.typed_core.proofs.LimitedAnswers.{then_answers, weaker}
use Rattle.type_carrier.specs.CarriedTests.{Labelled, Sources, next_state, labelled, past_note, jump_plainly, test, parts_carried}
use Rattle.type_carrier.specs.ProvedRows.{plain, behind_front}
use Rattle.index_sorts.specs.Context.{IndexContext}
use Rattle.state_types.specs.PlaceTypes.{type_at}
use Rattle.type_carrier.specs.Ways.{label_state}
use Rattle.carrier_laws.proofs.ChainsTyped.{CodeAt, code_left, code_right, Next, Done}
use Rattle.carrier_laws.proofs.ConstructsTyped.{earlier}
use Rattle.carrier_laws.proofs.DemandsProved.{seam}
use Rattle.carrier_laws.proofs.OperandsRun.{Walk, IsWalk, Ahead, Here, IsLeft, same_behind}
use Rattle.carrier_laws.proofs.OperationsTyped.{promised}
use Rattle.carrier_laws.proofs.BranchesTyped.{Aims}
use Rattle.carrier_laws.proofs.FragmentsJoined.{typed_on, passes_on}
use Rattle.carrier_laws.proofs.FragmentsTyped.{sources_of, HasLabels, Coming, AllAhead, Begins, LabelStands, Passes, Typed}
use Rattle.carrier_laws.proofs.JumpsTyped.{jump_allows, jump_live}
use Rattle.carrier_laws.proofs.LabelsMet.{Formed, next_label, plain_jump, label_here}
use Rattle.carrier_laws.proofs.LabelsTaken.{Left, TakesAll, test_taken, all_taken, any_taken}
use Rattle.carrier_laws.proofs.LeavesTyped.{rows_on, leaf_goes}

-- ---- what is taken, and what is left

pub left_behind : (w : Walk) (f : Labelled → Labelled) (count : ℕ) (before after : List Note) → TakesAll f count before after → (l : Labelled) (rest : List Note)
    → w.notes ≡ before ++ l.now.notes → w.notes ≡ after ++ rest → Left l (f l) rest count
left_behind w f count before after t l rest left ahead =
    t.by l rest (same_behind before l.now.notes (t.made ++ rest) (sym left ∙ ahead ∙ ap (λ ns. ns ++ rest) t.is ∙ append_assoc before t.made rest))

pub coming_behind : (w : Walk) (states more : List StateType) (positions coming : List ℕ) → Coming w states (positions ++ coming) → length more ≡ length states + length positions
    → Coming w more coming
coming_behind w states more positions coming c many = record {
  passed = c.passed ++ positions;
  are = c.are ∙ sym (append_assoc c.passed positions coming);
  as_many = (let long = length-append c.passed positions in let h = c.as_many in omega (arith, long, h, many));
}

-- ---- what is kept along tests

pub record KeepsFacts (w : Walk) (Facts : State → Type 0) : Type 0 where
  pub formed : (st : State) → Facts st → Formed st.ctx.vars st.ctx.rows st.types
  pub sides : (t : core.Test) (st : State) (sides : Sides) → Facts st → tested w.site t st ≡ Ok sides → (b : Truth) → Facts (on_side (rows_on b sides) sides.after)

-- parts only add to what is made
record LaterParts (a b : State) : Type 0 where
  later : Later a b
  types : b.types ≡ a.types

module _ (site : Site) where
  part_later : (t : core.Test) (rows : List Linear) (st : State) → Goes (λ sides. LaterParts st sides.after) (tested site t (on_side rows st))
  part_later t rows st =
      weaker (tested site t (on_side rows st))
      (λ sides p. (let l = p.grown.later in record { later = record { vars = l.vars; naming = l.naming; goals = l.goals; notes = l.notes }; types = p.grown.types }))
      (tested_goes site t (on_side rows st))

  more_later : (a b c : State) → LaterParts a b → LaterParts b c → LaterParts a c
  more_later a b c one two = record { later = later_on a b c one.later two.later; types = two.types ∙ one.types }

  all_later : (parts : core.Tests) (sides : Sides) → Goes (λ more. LaterParts sides.after more.after) (all_true site parts sides)
  unfolding all_true
  all_later core.NoTest sides = record { is = record { later = later_here sides.after; types = refl } }
  all_later (core.ATest t ts) sides =
      then_answers (tested site t (on_side sides.on_true sides.after)) _ (part_later t sides.on_true sides.after)
      (λ one h. weaker (all_true site ts one) (λ more g. more_later sides.after one.after more.after h g) (all_later ts one))

  any_later : (parts : core.Tests) (sides : Sides) → Goes (λ more. LaterParts sides.after more.after) (all_false site parts sides)
  unfolding all_false
  any_later core.NoTest sides = record { is = record { later = later_here sides.after; types = refl } }
  any_later (core.ATest t ts) sides =
      then_answers (tested site t (on_side sides.on_false sides.after)) _ (part_later t sides.on_false sides.after)
      (λ one h. weaker (all_false site ts one) (λ more g. more_later sides.after one.after more.after h g) (any_later ts one))

-- ---- a jump, and the label behind it

module _ (w : Walk) (columns : List (List Truth)) where
  pub jump_passes : (q : ℕ) (s next : StateType) (to : ℕ) (edge : Edge) (l more : Labelled) (positions : List ℕ) (made : List StateType) → CodeAt w.body q (jump to ∷ [])
      → s.ctx.vars ≤ 1024 → GoesTo w.body.setting.own w.body.labels s (number_of w.body.positions to) edge → more.now.edges ≡ l.now.edges ++ edge ∷ [] → more.states ≡ l.states ++ made
      → AllZip (LabelStands w columns q (s ∷ []) next) positions made → Passes w columns q s (jump to ∷ []) positions l more next
  jump_passes q s next to edge l more positions made at few goes edges states labels = record {
    runs = record {
      edges = edge ∷ [];
      are = edges;
      states = s ∷ [];
      chain = Next s next next (jump to) [] edge [] [] (jump_allows w to q at s edge (Some next) few goes) (Done next);
    };
    made = made;
    made_is = states;
    labels = labels;
  }

  -- a label behind one instruction
  pub label_behind : (q to number : ℕ) (s : StateType) (noted : StateType) (before rest : List Note) → to ≡ suc q → w.notes ≡ before ++ note.State noted ∷ rest
      → LabelStands w columns q (s ∷ []) (label_state columns number noted) to (label_state columns number noted)
  label_behind q to number s noted before rest is notes = record {
    offset = 1;
    is = omega (arith, is);
    stands = refl;
    number = number;
    noted = noted;
    label_is = refl;
    place = length before;
    is_noted = ap (λ ns. slice_get ns (length before)) notes ∙ seam before rest (note.State noted);
  }

-- the state in front of what is left is that of the label
pub label_made : (from : Sources) (l : Labelled) (noted : StateType) (rest : List Note) → l.now.notes ≡ note.State noted ∷ rest
    → (labelled from l).states ≡ l.states ++ label_state from.columns (suc (length l.states)) noted ∷ []
label_made from l noted rest e = ap (λ ns. l.states ++ option_to_list (next_state from ns l.states)) e

module _ (w : Walk) (isw : IsWalk w) (columns : List (List Truth)) (has : HasLabels w columns) where
  abbrev from : Sources
  from = sources_of w columns

  -- ---- where a part that decides goes behind the whole

  module _ (f : Labelled → Labelled) (code : List LowInstr) (labels : List ℕ) (p : ℕ) (s : StateType) (st after : State) (l : Labelled) (past : ℕ) (coming : List ℕ) (fall rest : List Linear)
      (takes : TakesAll f (length labels) st.notes after.notes) (begins : Begins w p s st l ((labels ++ past ∷ []) ++ coming)) (at : CodeAt w.body p (code ++ jump past ∷ []))
      (there : past ≡ suc (p + length code)) (types : after.types ≡ st.types) (formed : Formed st.ctx.vars st.ctx.rows st.types) (vars : st.ctx.vars ≤ after.ctx.vars)
      (falls : fall ≡ st.ctx.rows ++ rest) where
    abbrev the_end : State
    the_end = noting_state st.ctx.rows after

    abbrev noted : StateType
    noted = record { ctx = record { vars = after.ctx.vars; rows = st.ctx.rows }; places = after.types }

    crossed_typed : (more : Labelled) → more ≡ f l → AllAhead w (record after { notes = after.notes ++ note.State noted ∷ [] }) (labelled from (jump_plainly true more))
        → (Aims w columns past st.ctx.rows st.types → Typed true w columns p s code labels l more (on_side fall after) (past ∷ coming))
        → Typed true w columns p s (code ++ jump past ∷ []) (labels ++ past ∷ []) l (labelled from (jump_plainly true more)) (on_side st.ctx.rows (record after { notes = after.notes ++ note.State noted ∷ [] })) coming
    crossed_typed more same ahead go =
        let tail = ahead.ahead.notes.rest in
        let whole : w.notes ≡ after.notes ++ (note.State noted ∷ tail) = ahead.ahead.notes.is ∙ append_assoc after.notes (note.State noted ∷ []) tail in
        let left = subst (λ (k : Labelled). Left l k (note.State noted ∷ tail) (length labels)) (sym same)
        (left_behind w f (length labels) st.notes after.notes takes l (note.State noted ∷ tail) begins.here.remains whole) in
        let grouped = subst (λ ns. Coming w l.states ns) (append_assoc labels (past ∷ []) coming) begins.labels in
        let next_coming = coming_behind w l.states more.states labels (past ∷ coming) grouped left.states in
        let made = label_made from (jump_plainly true more) noted tail left.notes in
        let label = next_label w columns has more.states coming past noted next_coming (subst (λ ss. Continues ss w.body.labels) made ahead.states) in
        let aims : Aims w columns past st.ctx.rows st.types = record { number = length more.states; noted = noted; label = label; begins = no_more st.ctx.rows; are = types } in
        let r = go aims in
        let q = p + length code in
        let one = r.ends.end in
        let here = r.ends.here in
        let next = label_state columns (suc (length more.states)) noted in
        let jump_at = code_right w.body p q code (jump past ∷ []) refl at in
        let few = subst (λ (c : IndexContext). c.vars ≤ 1024) (sym here.now.ctx) here.few in
        let goes = plain_jump w columns has past (length more.states) noted label within w.body.setting.own one st.ctx.vars rest
        (subst (λ es. Formed st.ctx.vars st.ctx.rows es) (sym types) formed) (subst (λ (c : IndexContext). st.ctx.vars ≤ c.vars) (sym here.now.ctx) vars)
        (ap (λ (c : IndexContext). c.rows) here.now.ctx ∙ falls) (λ x t live e. here.now.types x t (jump_live w past q jump_at columns (length more.states) noted label x live) e) in
        let end_is : past ≡ suc q = there in
        let jumps = jump_passes w columns q one next past plain more (labelled from (jump_plainly true more)) (past ∷ []) (next ∷ []) jump_at few goes refl made
        (label_behind w columns q past (suc (length more.states)) one noted after.notes tail end_is whole, tt) in
        let notes_left : (labelled from (jump_plainly true more)).now.notes ≡ tail = ap behind_front left.notes in
        let remains = ahead.ahead.notes.is ∙ ap (λ ns. (after.notes ++ note.State noted ∷ []) ++ ns) (sym notes_left) in
        record {
          ends = record {
            end = next;
            passes = passes_on w columns p q s one next code (jump past ∷ []) labels (past ∷ []) l more (labelled from (jump_plainly true more)) refl r.ends.passes jumps;
            here = subst (λ n. Here w n next (on_side st.ctx.rows (record after { notes = after.notes ++ note.State noted ∷ [] })) [] (labelled from (jump_plainly true more)).now.notes)
                (let long = length-append code (jump past ∷ []) in omega (arith, there, long))
                (label_here w columns has past (length more.states) noted label within (on_side st.ctx.rows (record after { notes = after.notes ++ note.State noted ∷ [] }))
                (labelled from (jump_plainly true more)).now.notes refl remains here.few);
          };
          left = remains;
          labels = coming_behind w more.states (labelled from (jump_plainly true more)).states (past ∷ []) coming next_coming
              (ap length made ∙ length-append more.states (next ∷ []));
        }
      where
        within : (x : ℕ) (t : Ty) → type_at x after.types ≡ Some t → x < w.vars
        within x t e = begins.here.within x t (ap (λ es. type_at x es) (sym types) ∙ e)

  -- ---- where no part goes behind the whole, the noted state is that of no label

  uncrossed_typed : (f : Labelled → Labelled) (code : List LowInstr) (labels : List ℕ) (p : ℕ) (s : StateType) (st after : State) (l more : Labelled) (coming : List ℕ) (fall : List Linear)
      (noted : StateType) → TakesAll f (length labels) st.notes after.notes → IsLeft w st l.now.notes → more ≡ f l
      → Ahead w (record after { notes = after.notes ++ note.State noted ∷ [] }) → Typed true w columns p s code labels l more (on_side fall after) coming
      → Typed true w columns p s (code ++ []) (labels ++ []) l (record more { now = past_note more.now }) (on_side fall (record after { notes = after.notes ++ note.State noted ∷ [] })) coming
  uncrossed_typed f code labels p s st after l more coming fall noted takes begun same ahead r =
      let tail = ahead.notes.rest in
      let whole : w.notes ≡ after.notes ++ (note.State noted ∷ tail) = ahead.notes.is ∙ append_assoc after.notes (note.State noted ∷ []) tail in
      let left = subst (λ (k : Labelled). Left l k (note.State noted ∷ tail) (length labels)) (sym same)
      (left_behind w f (length labels) st.notes after.notes takes l (note.State noted ∷ tail) begun whole) in
      let notes_left : behind_front more.now.notes ≡ tail = ap behind_front left.notes in
      let remains = ahead.notes.is ∙ ap (λ ns. (after.notes ++ note.State noted ∷ []) ++ ns) (sym notes_left) in
      let here = r.ends.here in
      subst (λ x. Typed true w columns p s x (labels ++ []) l (record more { now = past_note more.now }) (on_side fall (record after { notes = after.notes ++ note.State noted ∷ [] })) coming)
      (sym (append-nil code))
      (subst (λ x. Typed true w columns p s code x l (record more { now = past_note more.now }) (on_side fall (record after { notes = after.notes ++ note.State noted ∷ [] })) coming)
      (sym (append-nil labels))
      (record {
        ends = record {
          end = r.ends.end;
          passes = record { runs = r.ends.passes.runs; made = r.ends.passes.made; made_is = r.ends.passes.made_is; labels = r.ends.passes.labels };
          here = record { now = record { ctx = here.now.ctx; types = here.now.types }; waits = here.waits; remains = remains; within = here.within; few = here.few };
        };
        left = remains;
        labels = r.labels;
      }))

  -- ---- all tests

  module _ (Facts : State → Type 0) (keeps : KeepsFacts w Facts) (set : KindSetting) (visible : List ℕ) where
    abbrev aim_at : Truth → ℕ → Aim
    aim_at on to = record { on = on; to = to }

    abbrev IsSome : core.Tests → Type 0
    IsSome core.NoTest = ⊥
    IsSome (core.ATest t ts) = Unit {0}

    several_some : (ts : core.Tests) → AreSeveral ts → IsSome ts
    several_some core.NoTest h = absurd h
    several_some (core.ATest t core.NoTest) h = absurd h
    several_some (core.ATest t (core.ATest u ts)) h = tt

    grown_sides : (t : core.Test) (st : State) (sides : Sides) → tested w.site t st ≡ Ok sides → SidesGrown st sides
    grown_sides t st sides e = (promised (Parts w.site.table st) (tested w.site t st) sides (tested_goes w.site t st) e).grown

    -- code and labels grouped otherwise
    regrouped : (p : ℕ) (s : StateType) (c d : List LowInstr) (x y : List ℕ) (l more : Labelled) (after : State) (coming : List ℕ) → c ≡ d → x ≡ y
        → Typed true w columns p s c x l more after coming → Typed true w columns p s d y l more after coming
    regrouped p s c d x y l more after coming same alike r =
        subst (λ z. Typed true w columns p s z y l more after coming) same (subst (λ z. Typed true w columns p s c z l more after coming) alike r)

    -- what holds in front of other parts
    earlier_ahead : (one more : State) (l k : Labelled) → LaterParts one more → Continues l.states k.states → AllAhead w more k → AllAhead w one l
    earlier_ahead one more l k later grows ahead =
        record { ahead = earlier w one more later.later ahead.ahead; states = more_again l.states k.states w.body.labels grows ahead.states }

    flipped : (b : Truth) (inner outer : Sides) → (let x : Sides = record { on_true = inner.on_false; on_false = inner.on_true; after = inner.after } in x) ≡ outer
        → rows_on (not b) inner ≡ rows_on b outer
    flipped true inner outer e = ap (λ (x : Sides). x.on_true) e
    flipped false inner outer e = ap (λ (x : Sides). x.on_false) e

    flipped_back : (b : Truth) (inner outer : Sides) → (let x : Sides = record { on_true = inner.on_false; on_false = inner.on_true; after = inner.after } in x) ≡ outer
        → rows_on (not b) inner ≡ rows_on b outer
    flipped_back b inner outer e = flipped b inner outer e

    weaker_aims : (to : ℕ) (rows more : List Linear) (types : List (ℕ × Ty)) → Continues rows more → Aims w columns to rows types → Aims w columns to more types
    weaker_aims to rows more types grows a =
        record { number = a.number; noted = a.noted; label = a.label; begins = more_again a.noted.ctx.rows rows more a.begins grows; are = a.are }

    leaf_typed : (e : core.Expr) → IsTest set visible (core.Leaf e) → (aim : Aim) (p : ℕ) (s : StateType) (st : State) (l : Labelled) (coming : List ℕ) (sides : Sides) → Facts st
        → Begins w p s st l (test_labels aim.on (core.Leaf e) p ++ coming) → CodeAt w.body p (test_code w.vars aim (core.Leaf e) p) → tested w.site (core.Leaf e) st ≡ Ok sides
        → AllAhead w sides.after (test from aim.on (core.Leaf e) l) → Aims w columns aim.to (rows_on aim.on sides) st.types
        → Typed true w columns p s (test_code w.vars aim (core.Leaf e) p) (test_labels aim.on (core.Leaf e) p) l (test from aim.on (core.Leaf e) l)
        (on_side (rows_on (not aim.on) sides) sides.after) coming
    unfolding tested test test_labels test_code IsTest
    leaf_typed e h aim p s st l coming sides facts begins at made ahead aims =
        let b = leaf_goes w isw columns has aim p s l.now st sides begins.here ahead.ahead aims
        (keeps.formed (on_side (rows_on aim.on sides) sides.after) (keeps.sides (core.Leaf e) st sides facts made aim.on)) set visible e h at made in
        record {
          ends = record {
            end = b.end;
            passes = record { runs = b.runs; made = []; made_is = sym (append-nil l.states); labels = tt };
            here = b.here;
          };
          left = b.here.remains;
          labels = begins.labels;
        }

    -- ---- parts: each but the last goes to the same position where it decides, so or not

    abbrev parts_run : Truth → core.Tests → Sides → Limited Sides
    parts_run false parts begin = all_true w.site parts begin
    parts_run true parts begin = all_false w.site parts begin

    abbrev begins_at : Truth → Sides → State
    begins_at b begin = on_side (rows_on (not b) begin) begin.after

    run_last : (b : Truth) (begin end : Sides) → parts_run b core.NoTest begin ≡ Ok end → begin ≡ end
    unfolding all_true all_false
    run_last false begin end e = ok_same begin end e
    run_last true begin end e = ok_same begin end e

    run_more : (b : Truth) (t : core.Test) (ts : core.Tests) (begin : Sides) → parts_run b (core.ATest t ts) begin ≡ (tested w.site t (begins_at b begin) >>= (λ more. parts_run b ts more))
    unfolding all_true all_false
    run_more false t ts begin = refl
    run_more true t ts begin = refl

    run_taken : (b : Truth) (parts : core.Tests) (inner last : Truth) (at : ℕ) (begin : Sides)
        → Goes (λ more. TakesAll (parts_carried from inner last parts) (length (parts_labels inner last parts at)) begin.after.notes more.after.notes) (parts_run b parts begin)
    run_taken false parts inner last at begin = all_taken w.site from parts inner last at begin
    run_taken true parts inner last at begin = any_taken w.site from parts inner last at begin

    run_later : (b : Truth) (parts : core.Tests) (begin : Sides) → Goes (λ more. LaterParts begin.after more.after) (parts_run b parts begin)
    run_later false parts begin = all_later w.site parts begin
    run_later true parts begin = any_later w.site parts begin

    side_rows : (b : Truth) (st : State) (sides : Sides) → SidesGrown st sides → Continues st.ctx.rows (rows_on b sides)
    side_rows true st sides g = g.on_true
    side_rows false st sides g = g.on_false

    record RowsGrown (rows : List Linear) (end : Sides) : Type 0 where
      on_true : Continues rows end.on_true
      on_false : Continues rows end.on_false

    run_none : (b : Truth) (one : Sides) → parts_run b core.NoTest one ≡ Ok one
    unfolding all_true all_false
    run_none true one = refl
    run_none false one = refl

    -- what holds in front of the parts holds on both sides of the last one
    run_rows : (b : Truth) (parts : core.Tests) → IsSome parts → (begin : Sides) (rows : List Linear) → Continues rows (rows_on (not b) begin) → Goes (RowsGrown rows) (parts_run b parts begin)
    run_rows b core.NoTest some begin rows more = absurd some
    run_rows b (core.ATest t core.NoTest) some begin rows more =
        subst (λ m. Goes (RowsGrown rows) m) (sym (run_more b t core.NoTest begin))
        (then_answers (tested w.site t (begins_at b begin)) _ (tested_goes w.site t (begins_at b begin))
        (λ one h. subst (λ m. Goes (RowsGrown rows) m) (sym (run_none b one)) (record {
          is = record { on_true = more_again rows _ one.on_true more h.grown.on_true; on_false = more_again rows _ one.on_false more h.grown.on_false };
        })))
    run_rows b (core.ATest t (core.ATest u ts)) some begin rows more =
        subst (λ m. Goes (RowsGrown rows) m) (sym (run_more b t (core.ATest u ts) begin))
        (then_answers (tested w.site t (begins_at b begin)) _ (tested_goes w.site t (begins_at b begin))
        (λ one h. run_rows b (core.ATest u ts) tt one rows (more_again rows _ (rows_on (not b) one) more (side_rows (not b) (begins_at b begin) one h.grown))))

    -- the same of all parts
    record PartsGrown (st : State) (end : Sides) : Type 0 where
      later : LaterParts st end.after
      rows : RowsGrown st.ctx.rows end

    run_grown : (b : Truth) (parts : core.Tests) → IsSome parts → (st : State) (end : Sides) → parts_run b parts (record { on_true = st.ctx.rows; on_false = st.ctx.rows; after = st }) ≡ Ok end
        → PartsGrown st end
    run_grown b parts some st end e =
        let begin : Sides = record { on_true = st.ctx.rows; on_false = st.ctx.rows; after = st } in
        record {
          later = promised (λ more. LaterParts st more.after) (parts_run b parts begin) end (run_later b parts begin) e;
          rows = promised (RowsGrown st.ctx.rows) (parts_run b parts begin) end (run_rows b parts some begin st.ctx.rows (begun b)) e;
        }
      where
        begun : (b : Truth) → Continues st.ctx.rows (rows_on (not b) (record { on_true = st.ctx.rows; on_false = st.ctx.rows; after = st }))
        begun true = no_more st.ctx.rows
        begun false = no_more st.ctx.rows

    grown_on : (b : Truth) (rows : List Linear) (end : Sides) → RowsGrown rows end → Continues rows (rows_on b end)
    grown_on true rows end g = g.on_true
    grown_on false rows end g = g.on_false

    -- states are only added behind what was taken
    states_on : (f g : Labelled → Labelled) (m n : ℕ) (a b c : List Note) → TakesAll f m a b → TakesAll g n b c → (l : Labelled) (rest : List Note) → w.notes ≡ a ++ l.now.notes
        → w.notes ≡ c ++ rest → Continues (f l).states (g (f l)).states
    states_on f g m n a b c one two l rest left ahead =
        let x = left_behind w f m a b one l (two.made ++ rest) left (ahead ∙ ap (λ ns. ns ++ rest) two.is ∙ append_assoc b two.made rest) in
        (two.by (f l) rest x.notes).grows

    -- what is wanted of parts
    abbrev PartsTyped : Truth → core.Tests → Type 0
    PartsTyped b parts = (to : ℕ) (last : Aim) (p : ℕ) (s : StateType) (begin : Sides) (l : Labelled) (coming : List ℕ) (end : Sides)
        (rows : List Linear) (types : List (ℕ × Ty)) → Facts (begins_at b begin) → begin.after.types ≡ types → Continues rows (rows_on (not b) begin)
        → Begins w p s (begins_at b begin) l (parts_labels b last.on parts p ++ coming) → CodeAt w.body p (parts_code w.vars (aim_at b to) last parts p)
        → parts_run b parts begin ≡ Ok end → AllAhead w end.after (parts_carried from b last.on parts l) → Aims w columns to rows types
        → (Continues rows end.on_true → Continues rows end.on_false → Aims w columns last.to (rows_on last.on end) types)
        → Typed true w columns p s (parts_code w.vars (aim_at b to) last parts p) (parts_labels b last.on parts p) l (parts_carried from b last.on parts l)
        (on_side (rows_on (not last.on) end) end.after) coming

    -- the whole, where a part that decides goes behind it
    crossed_whole : (b : Truth) (parts : core.Tests) → IsSome parts → PartsTyped b parts → (to : ℕ) (p : ℕ) (s : StateType) (st : State) (l : Labelled) (coming : List ℕ) (end : Sides) (past : ℕ) → Facts st
        → past ≡ suc (p + parts_size b (not b) parts) → Begins w p s st l ((parts_labels b (not b) parts p ++ past ∷ []) ++ coming)
        → CodeAt w.body p (parts_code w.vars (aim_at b past) (aim_at (not b) to) parts p ++ jump past ∷ [])
        → parts_run b parts (record { on_true = st.ctx.rows; on_false = st.ctx.rows; after = st }) ≡ Ok end
        → AllAhead w (noting_state st.ctx.rows end.after) (labelled from (jump_plainly true (parts_carried from b (not b) parts l))) → Aims w columns to (rows_on (not b) end) st.types
        → Typed true w columns p s (parts_code w.vars (aim_at b past) (aim_at (not b) to) parts p ++ jump past ∷ []) (parts_labels b (not b) parts p ++ past ∷ []) l
        (labelled from (jump_plainly true (parts_carried from b (not b) parts l))) (on_side st.ctx.rows (noting_state st.ctx.rows end.after)) coming
    unfolding noting_state
    crossed_whole b parts some go to p s st l coming end past facts there begins at made ahead aims =
        let begin : Sides = record { on_true = st.ctx.rows; on_false = st.ctx.rows; after = st } in
        let grown = run_grown b parts some st end made in
        let takes = promised (λ more. TakesAll (parts_carried from b (not b) parts) (length (parts_labels b (not b) parts p)) st.notes more.after.notes) (parts_run b parts begin) end
        (run_taken b parts b (not b) p begin) made in
        let code = parts_code w.vars (aim_at b past) (aim_at (not b) to) parts p in
        let labels = parts_labels b (not b) parts p in
        let more = parts_carried from b (not b) parts l in
        let long = (parts_long w.vars (aim_at b past) (aim_at (not b) to) parts p).is in
        let falls = grown_on (not (not b)) st.ctx.rows end grown.rows in
        let inner_ahead : AllAhead w end.after more = record {
          ahead = record { goals = ahead.ahead.goals; notes = more_again end.after.notes _ w.notes (one_more end.after.notes _) ahead.ahead.notes };
          states = more_again more.states _ w.body.labels (some_more more.states _) ahead.states;
        } in
        crossed_typed (parts_carried from b (not b) parts) code labels p s st end.after l past coming (rows_on (not (not b)) end) falls.rest takes begins at
        (let same : past ≡ suc (p + parts_size b (not b) parts) = there in omega (arith, same, long)) grown.later.types (keeps.formed st facts) grown.later.later.vars falls.is more refl ahead
        (λ inner. go past (aim_at (not b) to) p s begin l (past ∷ coming) end st.ctx.rows st.types (start b facts) refl (start_rows b)
        (record { here = start_here b begins.here; labels = subst (λ ns. Coming w l.states ns) (append_assoc labels (past ∷ []) coming) begins.labels })
        (code_left w.body p code (jump past ∷ []) at) made inner_ahead inner (λ u v. aims))
      where
        start : (b : Truth) → Facts st → Facts (begins_at b (record { on_true = st.ctx.rows; on_false = st.ctx.rows; after = st }))
        start true f = f
        start false f = f

        start_rows : (b : Truth) → Continues st.ctx.rows (rows_on (not b) (record { on_true = st.ctx.rows; on_false = st.ctx.rows; after = st }))
        start_rows true = no_more st.ctx.rows
        start_rows false = no_more st.ctx.rows

        start_here : (b : Truth) → Here w p s st [] l.now.notes → Here w p s (begins_at b (record { on_true = st.ctx.rows; on_false = st.ctx.rows; after = st })) [] l.now.notes
        start_here true h = h
        start_here false h = h

    -- and where it goes where the whole goes
    straight_whole : (b : Truth) (parts : core.Tests) → IsSome parts → PartsTyped b parts → (to : ℕ) (p : ℕ) (s : StateType) (st : State) (l : Labelled) (coming : List ℕ) (end : Sides) → Facts st
        → Begins w p s st l ((parts_labels b b parts p ++ []) ++ coming) → CodeAt w.body p (parts_code w.vars (aim_at b to) (aim_at b to) parts p ++ [])
        → parts_run b parts (record { on_true = st.ctx.rows; on_false = st.ctx.rows; after = st }) ≡ Ok end
        → AllAhead w (noting_state st.ctx.rows end.after) (record (parts_carried from b b parts l) { now = past_note (parts_carried from b b parts l).now }) → Aims w columns to st.ctx.rows st.types
        → Typed true w columns p s (parts_code w.vars (aim_at b to) (aim_at b to) parts p ++ []) (parts_labels b b parts p ++ []) l
        (record (parts_carried from b b parts l) { now = past_note (parts_carried from b b parts l).now }) (on_side (rows_on (not b) end) (noting_state st.ctx.rows end.after)) coming
    unfolding noting_state
    straight_whole b parts some go to p s st l coming end facts begins at made ahead aims =
        let begin : Sides = record { on_true = st.ctx.rows; on_false = st.ctx.rows; after = st } in
        let grown = run_grown b parts some st end made in
        let takes = promised (λ more. TakesAll (parts_carried from b b parts) (length (parts_labels b b parts p)) st.notes more.after.notes) (parts_run b parts begin) end
        (run_taken b parts b b p begin) made in
        let code = parts_code w.vars (aim_at b to) (aim_at b to) parts p in
        let labels = parts_labels b b parts p in
        let more = parts_carried from b b parts l in
        let inner_ahead : AllAhead w end.after more = record {
          ahead = record { goals = ahead.ahead.goals; notes = more_again end.after.notes _ w.notes (one_more end.after.notes _) ahead.ahead.notes };
          states = ahead.states;
        } in
        uncrossed_typed (parts_carried from b b parts) code labels p s st end.after l more coming (rows_on (not b) end) (record { ctx = record { vars = end.after.ctx.vars; rows = st.ctx.rows }; places = end.after.types })
        takes begins.here.remains refl ahead.ahead
        (go to (aim_at b to) p s begin l coming end st.ctx.rows st.types (start b facts) refl (start_rows b)
        (record { here = start_here b begins.here; labels = subst (λ ns. Coming w l.states (ns ++ coming)) (append-nil labels) begins.labels })
        (code_left w.body p code [] at) made inner_ahead aims (λ u v. weaker_aims to st.ctx.rows (rows_on b end) st.types (grown_on b st.ctx.rows end grown.rows) aims))
      where
        start : (b : Truth) → Facts st → Facts (begins_at b (record { on_true = st.ctx.rows; on_false = st.ctx.rows; after = st }))
        start true f = f
        start false f = f

        start_rows : (b : Truth) → Continues st.ctx.rows (rows_on (not b) (record { on_true = st.ctx.rows; on_false = st.ctx.rows; after = st }))
        start_rows true = no_more st.ctx.rows
        start_rows false = no_more st.ctx.rows

        start_here : (b : Truth) → Here w p s st [] l.now.notes → Here w p s (begins_at b (record { on_true = st.ctx.rows; on_false = st.ctx.rows; after = st })) [] l.now.notes
        start_here true h = h
        start_here false h = h

    -- ---- `&&` and `||`, with the aim by cases

    abbrev TestTyped : core.Test → Aim → Type 0
    TestTyped t aim = (p : ℕ) (s : StateType) (st : State) (l : Labelled) (coming : List ℕ) (sides : Sides) → Facts st
        → Begins w p s st l (test_labels aim.on t p ++ coming) → CodeAt w.body p (test_code w.vars aim t p) → tested w.site t st ≡ Ok sides
        → AllAhead w sides.after (test from aim.on t l) → Aims w columns aim.to (rows_on aim.on sides) st.types
        → Typed true w columns p s (test_code w.vars aim t p) (test_labels aim.on t p) l (test from aim.on t l) (on_side (rows_on (not aim.on) sides) sides.after) coming

    past_is : (p n : ℕ) → p + n + 1 ≡ suc (p + n)
    past_is p n = omega arith

    all_typed : (parts : core.Tests) → IsSome parts → PartsTyped false parts → (on : Truth) (to : ℕ) → TestTyped (core.All parts) (aim_at on to)
    unfolding tested test test_labels test_code
    all_typed parts some go true to p s st l coming sides facts begins at made ahead aims =
        let begin : Sides = record { on_true = st.ctx.rows; on_false = st.ctx.rows; after = st } in
        let f = then_ok (all_true w.site parts begin) _ sides made in
        let last = f.value in
        let same = ok_same (record { on_true = last.on_true; on_false = st.ctx.rows; after = noting_state st.ctx.rows last.after }) sides f.second in
        subst (λ (x : Sides). AllAhead w x.after (test from true (core.All parts) l) → Aims w columns to (rows_on true x) st.types
        → Typed true w columns p s (test_code w.vars (aim_at true to) (core.All parts) p) (test_labels true (core.All parts) p) l (test from true (core.All parts) l) (on_side (rows_on false x) x.after) coming) same
        (λ ahead aims. crossed_whole false parts some go to p s st l coming last (past_parts true true parts p) facts (past_is p (parts_size false true parts)) begins at f.first ahead aims) ahead aims
    all_typed parts some go false to p s st l coming sides facts begins at made ahead aims =
        let begin : Sides = record { on_true = st.ctx.rows; on_false = st.ctx.rows; after = st } in
        let f = then_ok (all_true w.site parts begin) _ sides made in
        let last = f.value in
        let same = ok_same (record { on_true = last.on_true; on_false = st.ctx.rows; after = noting_state st.ctx.rows last.after }) sides f.second in
        subst (λ (x : Sides). AllAhead w x.after (test from false (core.All parts) l) → Aims w columns to (rows_on false x) st.types
        → Typed true w columns p s (test_code w.vars (aim_at false to) (core.All parts) p) (test_labels false (core.All parts) p) l (test from false (core.All parts) l) (on_side (rows_on true x) x.after) coming) same
        (λ ahead aims. straight_whole false parts some go to p s st l coming last facts begins at f.first ahead aims) ahead aims

    any_typed : (parts : core.Tests) → IsSome parts → PartsTyped true parts → (on : Truth) (to : ℕ) → TestTyped (core.Any parts) (aim_at on to)
    unfolding tested test test_labels test_code
    any_typed parts some go false to p s st l coming sides facts begins at made ahead aims =
        let begin : Sides = record { on_true = st.ctx.rows; on_false = st.ctx.rows; after = st } in
        let f = then_ok (all_false w.site parts begin) _ sides made in
        let last = f.value in
        let same = ok_same (record { on_true = st.ctx.rows; on_false = last.on_false; after = noting_state st.ctx.rows last.after }) sides f.second in
        subst (λ (x : Sides). AllAhead w x.after (test from false (core.Any parts) l) → Aims w columns to (rows_on false x) st.types
        → Typed true w columns p s (test_code w.vars (aim_at false to) (core.Any parts) p) (test_labels false (core.Any parts) p) l (test from false (core.Any parts) l) (on_side (rows_on true x) x.after) coming) same
        (λ ahead aims. crossed_whole true parts some go to p s st l coming last (past_parts true false parts p) facts (past_is p (parts_size true false parts)) begins at f.first ahead aims) ahead aims
    any_typed parts some go true to p s st l coming sides facts begins at made ahead aims =
        let begin : Sides = record { on_true = st.ctx.rows; on_false = st.ctx.rows; after = st } in
        let f = then_ok (all_false w.site parts begin) _ sides made in
        let last = f.value in
        let same = ok_same (record { on_true = st.ctx.rows; on_false = last.on_false; after = noting_state st.ctx.rows last.after }) sides f.second in
        subst (λ (x : Sides). AllAhead w x.after (test from true (core.Any parts) l) → Aims w columns to (rows_on true x) st.types
        → Typed true w columns p s (test_code w.vars (aim_at true to) (core.Any parts) p) (test_labels true (core.Any parts) p) l (test from true (core.Any parts) l) (on_side (rows_on false x) x.after) coming) same
        (λ ahead aims. straight_whole true parts some go to p s st l coming last facts begins at f.first ahead aims) ahead aims

    mutual
      unfolding tested test test_labels test_code IsTest parts_carried parts_labels parts_code test_size

      pub test_typed : (t : core.Test) → IsTest set visible t → (aim : Aim) → TestTyped t aim
      test_typed (core.Leaf e) h aim p s st l coming sides facts begins at made ahead aims = leaf_typed e h aim p s st l coming sides facts begins at made ahead aims
      test_typed (core.All parts) h aim p s st l coming sides facts begins at made ahead aims =
          all_typed parts (several_some parts h.0) (parts_typed false parts h.1 (several_some parts h.0)) aim.on aim.to p s st l coming sides facts begins at made ahead aims
      test_typed (core.Any parts) h aim p s st l coming sides facts begins at made ahead aims =
          any_typed parts (several_some parts h.0) (parts_typed true parts h.1 (several_some parts h.0)) aim.on aim.to p s st l coming sides facts begins at made ahead aims
      test_typed (core.Not part) h aim p s st l coming sides facts begins at made ahead aims =
          let f = then_ok (tested w.site part st) _ sides made in
          let same = ok_same (record { on_true = f.value.on_false; on_false = f.value.on_true; after = f.value.after }) sides f.second in
          let after : f.value.after ≡ sides.after = ap (λ (x : Sides). x.after) same in
          subst (λ (m : State). Typed true w columns p s (test_code w.vars (turned aim) part p) (test_labels (not aim.on) part p) l (test from (not aim.on) part l) m coming)
          (ap (λ (m : State). on_side (rows_on (not (not aim.on)) f.value) m) after ∙ ap (λ rows. on_side rows sides.after) (flipped (not aim.on) f.value sides same))
          (test_typed part h (turned aim) p s st l coming f.value facts begins at f.first (subst (λ (m : State). AllAhead w m (test from (not aim.on) part l)) (sym after) ahead)
          (subst (λ rows. Aims w columns aim.to rows st.types) (sym (flipped aim.on f.value sides same)) aims))

      parts_typed : (b : Truth) (parts : core.Tests) → AreTests set visible parts → IsSome parts → PartsTyped b parts
      parts_typed b core.NoTest h some to last p s begin l coming end rows types facts same more begins at made ahead aims last_aims = absurd some
      parts_typed b (core.ATest t core.NoTest) h some to last p s begin l coming end rows types facts same more begins at made ahead aims last_aims =
          let here = begins_at b begin in
          let f = then_ok (tested w.site t here) _ end (sym (run_more b t core.NoTest begin) ∙ made) in
          let is = f.first ∙ ap Ok (run_last b f.value end f.second) in
          let grown = grown_sides t here end is in
          regrouped p s (test_code w.vars last t p) (test_code w.vars last t p ++ []) (test_labels last.on t p) (test_labels last.on t p ++ []) l (test from last.on t l) _ coming
          (sym (append-nil (test_code w.vars last t p))) (sym (append-nil (test_labels last.on t p)))
          (test_typed t h.0 last p s here l coming end facts
          (record { here = begins.here; labels = subst (λ ns. Coming w l.states (ns ++ coming)) (append-nil (test_labels last.on t p)) begins.labels })
          (code_left w.body p (test_code w.vars last t p) [] at) is ahead
          (subst (λ es. Aims w columns last.to (rows_on last.on end) es) (sym same)
          (last_aims (more_again rows here.ctx.rows end.on_true more grown.on_true) (more_again rows here.ctx.rows end.on_false more grown.on_false))))
      parts_typed b (core.ATest t (core.ATest u ts)) h some to last p s begin l coming end rows types facts same more begins at made ahead aims last_aims =
          let here = begins_at b begin in
          let inner = aim_at b to in
          let others = core.ATest u ts in
          let f = then_ok (tested w.site t here) _ end (sym (run_more b t others begin) ∙ made) in
          let one = f.value in
          let grown = grown_sides t here one f.first in
          let code = test_code w.vars inner t p in
          let q = p + test_size b t in
          let labels = test_labels b t p in
          let long = (test_long w.vars inner t p).is in
          let there : q ≡ p + length code = ap (λ n. p + n) (sym long) in
          let mid = test from b t l in
          let takes = promised (λ sides. TakesAll (test from b t) (length labels) here.notes sides.after.notes) (tested w.site t here) one (test_taken w.site from t b p here) f.first in
          let takes_more = promised (λ sides. TakesAll (parts_carried from b last.on others) (length (parts_labels b last.on others q)) one.after.notes sides.after.notes)
          (parts_run b others one) end (run_taken b others b last.on q one) f.second in
          let later = promised (λ sides. LaterParts one.after sides.after) (parts_run b others one) end (run_later b others one) f.second in
          let first_ahead = earlier_ahead one.after end.after mid (parts_carried from b last.on others mid) later
          (states_on (test from b t) (parts_carried from b last.on others) _ _ here.notes one.after.notes end.after.notes takes takes_more l ahead.ahead.notes.rest begins.here.remains ahead.ahead.notes.is) ahead in
          let r = test_typed t h.0 inner p s here l (parts_labels b last.on others q ++ coming) one facts
          (record { here = begins.here; labels = subst (λ ns. Coming w l.states ns) (append_assoc labels (parts_labels b last.on others q) coming) begins.labels })
          (code_left w.body p code (parts_code w.vars inner last others q) at) f.first first_ahead
          (subst (λ es. Aims w columns to (rows_on b one) es) (sym same) (weaker_aims to rows (rows_on b one) types (more_again rows here.ctx.rows (rows_on b one) more (side_rows b here one grown)) aims)) in
          typed_on w columns true p q s r.ends.end code (parts_code w.vars inner last others q) labels (parts_labels b last.on others q) l mid (parts_carried from b last.on others mid)
          (on_side (rows_on (not last.on) end) end.after) coming there r.ends.passes
          (parts_typed b (core.ATest u ts) h.1 tt to last q r.ends.end one mid coming end rows types (keeps.sides t here one facts f.first (not b)) (grown.types ∙ same)
          (more_again rows here.ctx.rows (rows_on (not b) one) more (side_rows (not b) here one grown))
          (record { here = subst (λ n. Here w n r.ends.end (begins_at b one) [] mid.now.notes) (sym there) r.ends.here; labels = r.labels })
          (code_right w.body p q code (parts_code w.vars inner last others q) there at) f.second ahead aims last_aims)
