-- Where both branches of an `if` meet: the state that is stated there, and the ways in.
use Rattle.std.proofs.Common.{◌≡◌, ◌∙◌, ℕ, suc, ◌≤◌, Bool as Truth, true, false, List, [], ◌∷◌, ◌++◌, length, Option, Some, Ok, refl, sym, ap, ap₂, subst, arith, append_assoc}
use Rattle.state_types.specs.PlaceTypes.{type_at}
use Rattle.state_types.specs.declared.state.StateType.{StateType}
use Rattle.three_address.specs.Typing.{GoesTo}
use Rattle.three_address.specs.declared.typed.Edge.{Edge}
use Rattle.lowering.specs.Lowered.{number_of}
use Rattle.value_lowering.specs.OneInstruction.{jump_if}
use Rattle.xanadu_tree.specs.BodyRules.{Point, behind_block, IsClauseIfAny}
use Rattle.xanadu_tree.specs.KindRules.{Setting}
use Rattle.xanadu_tree.specs.declared.stmt.Clause.{Clause}
use Rattle.typed_core.specs.Growth.{Continues}
use Rattle.typed_core.specs.Joins.{Joint, stated, joined, entered, entered_if}
use Rattle.typed_core.specs.States.{State, point}
use Rattle.typed_core.specs.declared.note.Note.{Note}
use Rattle.typed_core.specs.declared.note.Note.TheVariants as note
use Rattle.typed_core.proofs.FitJoins.{joined_fits, clause_stated}
use Rattle.typed_core.proofs.GrownJoins.{entered_if_goes}
use Rattle.typed_core.proofs.KnownTypes.{IsEntry, Knows, AreWithin, entry_at, found}
use Rattle.typed_core.proofs.NamedStates.{answered}
use Rattle.type_carrier.specs.CarriedStatements.{past_way, way_edges}
use Rattle.type_carrier.specs.CarriedStatements as carried
use Rattle.type_carrier.specs.CarriedTests.{Labelled, Sources, labelled, state_here, next_state}
use Rattle.type_carrier.specs.ProvedRows.{way_in, behind_front}
use Rattle.type_carrier.specs.Ways.{label_state, way_edge}
use Rattle.carrier_laws.proofs.ChainsTyped.{CodeAt}
use Rattle.carrier_laws.proofs.ConstructsTyped.{earlier}
use Rattle.carrier_laws.proofs.OperandsRun.{Walk, IsWalk, Ahead, Here, IsLeft, Within, same_behind}
use Rattle.carrier_laws.proofs.FragmentsTyped.{sources_of, HasLabels, Coming, LabelAt, AllAhead}
use Rattle.carrier_laws.proofs.IfTyped.{edge_if}
use Rattle.carrier_laws.proofs.JoinsReach.{IsMeeting, ComesFrom}
use Rattle.carrier_laws.proofs.JumpsTyped.{jump_live}
use Rattle.carrier_laws.proofs.LabelsMet.{next_label, label_here}
use Rattle.carrier_laws.proofs.LoopsTyped.{way_left, past_left, own_is}
use Rattle.carrier_laws.proofs.MeetingsKnown.{meeting_known}
use Rattle.carrier_laws.proofs.NamesKept.{Keys}
use Rattle.carrier_laws.proofs.JoinsNoted.{joined_noted}
use Rattle.carrier_laws.proofs.PlacesKept.{Grounds, Facts, Place, facts_of}
use Rattle.carrier_laws.proofs.TestsTyped.{label_made}
use Rattle.carrier_laws.proofs.WaysTyped.{comes_from, way_goes}

module _ (w : Walk) (isw : IsWalk w) (columns : List (List Truth)) (has : HasLabels w columns) (set : Setting) (g : Grounds set w.site) (j : Option Clause) (a : ℕ) (changed : ℕ → Truth)
    (before inner last after : Point) (is_clause : IsClauseIfAny set (behind_block before last) j after) (st one two more : State) (place : Place set w.site before st)
    (one_facts : Facts w.site one) (two_facts : Facts w.site two) (one_knows : Knows set.kinds inner.visible one.types) (two_knows : Knows set.kinds last.visible two.types)
    (one_within : AreWithin before.visible inner.visible) (two_within : AreWithin before.visible last.visible) (keys : Keys w.site.own.vars last.indices two.naming)
    (onward : Continues st.naming two.naming) (one_vars : st.ctx.vars ≤ one.ctx.vars) (two_vars : one.ctx.vars ≤ two.ctx.vars) (one_rows : Continues st.ctx.rows one.ctx.rows)
    (two_rows : Continues st.ctx.rows two.ctx.rows) (one_types : (x : ℕ) → changed x ≡ false → type_at x one.types ≡ type_at x st.types)
    (two_types : (x : ℕ) → changed x ≡ false → type_at x two.types ≡ type_at x st.types) (st_within : Within w st.types) where
  abbrev pub from : Sources
  from = sources_of w columns

  abbrev pub clause : Clause
  clause = stated j

  module _ (joint : Joint) (start : State) (joins : joined w.site clause changed (point st) two ≡ Ok (joint, start)) where
    met : IsMeeting w.site clause changed (point st) two (joint, start)
    met =
        meeting_known set w.site g.ground (behind_block before last) after changed st two place.known.kept place.named (facts_of set w.site g before st place).typed keys place.known.scope onward
        (omega (arith, one_vars, two_vars)) j is_clause (joint, start) joins

    start_notes : start.notes ≡ two.notes ++ note.State (point start) ∷ []
    start_notes = (answered (joined w.site clause changed (point st) two) (joint, start) (joined_noted w.site clause changed (point st) two) joins).notes

    start_knows : Knows set.kinds before.visible start.types
    start_knows =
        (answered (joined w.site clause changed (point st) two) (joint, start)
        (joined_fits set.kinds before.visible w.site clause changed (point st) two (clause_stated set (behind_block before last) j after is_clause) place.at.knows) joins).1

    start_within : Within w start.types
    start_within x t there =
        (let entry = entry_at (IsEntry set.kinds before.visible) start.types x t start_knows.agree there in
        let it = found st.types x (place.at.knows.there x entry.0) in
        st_within x it.type it.at)

    one_comes : ComesFrom clause changed (point st) (point one) (joint, start)
    one_comes =
        comes_from set w.site before.visible inner.visible clause changed st one (joint, start) one_within start_knows one_knows one_facts one_vars one_rows (λ x same unnamed. one_types x same)

    two_comes : ComesFrom clause changed (point st) (point two) (joint, start)
    two_comes =
        comes_from set w.site before.visible last.visible clause changed st two (joint, start) two_within start_knows two_knows two_facts (omega (arith, one_vars, two_vars)) two_rows
        (λ x same unnamed. two_types x same)

    module _ (c1 c2 : Truth) (mid : State) (first : entered_if c1 w.site a joint (point one) start ≡ Ok mid) (second : entered_if c2 w.site a joint (point two) mid ≡ Ok more)
        (l4 : Labelled) (edges : List Edge) (coming : List ℕ) (past : ℕ) (two_left : IsLeft w two l4.now.notes) (labels : Coming w l4.states (past ∷ coming))
        (ahead : AllAhead w more (carried.meeting c1 c2 from clause edges l4)) where
      mid_ahead : Ahead w mid
      mid_ahead =
          earlier w mid more (answered (entered_if c2 w.site a joint (point two) mid) more (entered_if_goes c2 w.site a joint (point two) mid) second).later ahead.ahead

      pub start_ahead : Ahead w start
      start_ahead = earlier w start mid (answered (entered_if c1 w.site a joint (point one) start) mid (entered_if_goes c1 w.site a joint (point one) start) first).later mid_ahead

      abbrev pub rest_start : List Note
      rest_start = start_ahead.notes.rest

      pub whole : w.notes ≡ two.notes ++ (note.State (point start) ∷ rest_start)
      whole = start_ahead.notes.is ∙ ap (λ ns. ns ++ rest_start) start_notes ∙ append_assoc two.notes (note.State (point start) ∷ []) rest_start

      notes_here : l4.now.notes ≡ note.State (point start) ∷ rest_start
      notes_here = same_behind two.notes l4.now.notes (note.State (point start) ∷ rest_start) (sym two_left ∙ whole)

      abbrev pub meet_state : StateType
      meet_state = label_state columns (suc (length l4.states)) (point start)

      target_is : state_here from l4 ≡ Some meet_state
      target_is = ap (λ ns. next_state from ns l4.states) notes_here

      pub made : (carried.meeting c1 c2 from clause edges l4).states ≡ l4.states ++ meet_state ∷ []
      made = label_made from l4 (point start) rest_start notes_here

      met_notes : (labelled from l4).now.notes ≡ rest_start
      met_notes = ap behind_front notes_here

      pub label : LabelAt w columns past (length l4.states) (point start)
      label = next_label w columns has l4.states coming past (point start) labels (subst (λ ss. Continues ss w.body.labels) made ahead.states)

      mid_notes : past_way c1 (labelled from l4).now.notes ≡ mid_ahead.notes.rest
      mid_notes = ap (past_way c1) met_notes ∙ past_left w c1 a joint (point one) start mid rest_start mid_ahead.notes.rest first start_ahead.notes.is mid_ahead.notes.is

      more_notes : past_way c2 (past_way c1 (labelled from l4).now.notes) ≡ ahead.ahead.notes.rest
      more_notes = ap (past_way c2) mid_notes ∙ past_left w c2 a joint (point two) mid more mid_ahead.notes.rest ahead.ahead.notes.rest second mid_ahead.notes.is ahead.ahead.notes.is

      abbrev pub edge1 : Edge
      edge1 = way_edge w.proofs clause.vars (state_here from l4) (way_in (labelled from l4).now.notes)

      abbrev pub edge2 : Edge
      edge2 = way_edge w.proofs clause.vars (state_here from l4) (way_in (past_way c1 (labelled from l4).now.notes))

      edges_if : (c : Truth) (notes : List Note) → way_edges c from clause (state_here from l4) notes ≡ edge_if c (way_edge w.proofs clause.vars (state_here from l4) (way_in notes))
      edges_if true notes = refl
      edges_if false notes = refl

      pub edges_are : (carried.meeting c1 c2 from clause edges l4).now.edges ≡ ((edges ++ edge_if c1 edge1) ++ l4.now.edges) ++ edge_if c2 edge2
      edges_are =
          ap₂ (λ x y. ((edges ++ x) ++ l4.now.edges) ++ y) (edges_if c1 (labelled from l4).now.notes) (edges_if c2 (past_way c1 (labelled from l4).now.notes))

      entered_true : (st more : State) (end : StateType) → entered_if true w.site a joint end st ≡ Ok more → entered w.site a joint end st ≡ Ok more
      unfolding entered_if
      entered_true st more end e = e

      -- the ways in
      pub first_goes : (q : ℕ) → CodeAt w.body q (jump_if c1 past) → (e : StateType) (notes : List Note) → c1 ≡ true → Here w q e one [] notes
          → GoesTo w.body.setting.own w.body.labels e (number_of w.body.positions past) edge1
      first_goes q at e notes so here =
          let entering = subst (λ c. entered_if c w.site a joint (point one) start ≡ Ok mid) so first in
          let jump_at = subst (λ c. CodeAt w.body q (jump_if c past)) so at in
          let it = way_left w a joint (point one) start mid rest_start mid_ahead.notes.rest (entered_true start mid (point one) entering) start_ahead.notes.is mid_ahead.notes.is in
          let goes = way_goes w columns has clause changed (point st) two (joint, start) met a one start mid it.entry one_comes e here.now.ctx isw.proved mid_ahead.goals
          past (length l4.states) label here.within
          (λ x t live there. here.now.types x t (jump_live w past q jump_at columns (length l4.states) (point start) label x live) there) in
          subst (λ sig. GoesTo sig w.body.labels e (number_of w.body.positions past) edge1) (own_is w isw)
          (subst (λ x. GoesTo w.site.own w.body.labels e (number_of w.body.positions past) x)
          (sym (ap₂ (λ o x. way_edge w.proofs clause.vars o x) target_is (ap way_in (met_notes ∙ it.notes_are)))) goes)

      pub second_goes : (q : ℕ) → CodeAt w.body q (jump_if c2 past) → (e : StateType) (notes : List Note) → c2 ≡ true → Here w q e two [] notes
          → GoesTo w.body.setting.own w.body.labels e (number_of w.body.positions past) edge2
      second_goes q at e notes so here =
          let entering = subst (λ c. entered_if c w.site a joint (point two) mid ≡ Ok more) so second in
          let jump_at = subst (λ c. CodeAt w.body q (jump_if c past)) so at in
          let it = way_left w a joint (point two) mid more mid_ahead.notes.rest ahead.ahead.notes.rest (entered_true mid more (point two) entering) mid_ahead.notes.is ahead.ahead.notes.is in
          let goes = way_goes w columns has clause changed (point st) two (joint, start) met a two mid more it.entry two_comes e here.now.ctx isw.proved ahead.ahead.goals
          past (length l4.states) label here.within
          (λ x t live there. here.now.types x t (jump_live w past q jump_at columns (length l4.states) (point start) label x live) there) in
          subst (λ sig. GoesTo sig w.body.labels e (number_of w.body.positions past) edge2) (own_is w isw)
          (subst (λ x. GoesTo w.site.own w.body.labels e (number_of w.body.positions past) x)
          (sym (ap₂ (λ o x. way_edge w.proofs clause.vars o x) target_is (ap way_in (mid_notes ∙ it.notes_are)))) goes)

      -- behind both
      pub meets_here : point more ≡ point start → more.ctx.vars ≤ 1024 → Here w past meet_state more [] (carried.meeting c1 c2 from clause edges l4).now.notes
      meets_here same few =
          label_here w columns has past (length l4.states) (point start) label start_within more (carried.meeting c1 c2 from clause edges l4).now.notes (sym same)
          (ahead.ahead.notes.is ∙ ap (λ ns. more.notes ++ ns) (sym more_notes)) few
