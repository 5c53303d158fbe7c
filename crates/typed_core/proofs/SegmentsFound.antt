-- The statements that stand in a block are its segments.
use Rattle.std.proofs.Common.{◌≡◌, ◌∙◌, ℕ, inl, inr, List, Bool as Truth, true, false, Option, None, Result, Ok, sym, ap, subst, arith}
use Rattle.std.specs.Prelude.{◌||◌}
use Rattle.xan_lin.specs.Linear.{Linear}
use Rattle.state_types.specs.Answers.{◌>>=◌}
use Rattle.state_types.specs.declared.state.StateType.{StateType}
use Rattle.state_types.specs.declared.types.Ty.{Ty}
use Rattle.state_types.proofs.Thens.{then_ok, ok_same}
use Rattle.xanadu_tree.specs.declared.stmt.Clause.{Clause}
use Rattle.xanadu_tree.specs.BodyRules.{completes_all}
use Rattle.xanadu_tree.specs.Plain as core
use Rattle.typed_core.specs.Growth.{Later}
use Rattle.typed_core.specs.Joins.{changes_any, stated, joined, entered, entered_if, still_visible}
use Rattle.typed_core.specs.Reached.{StandsIn, StandsWithin}
use Rattle.typed_core.specs.Segments.{IsSegment}
use Rattle.typed_core.specs.States.{Site, State, point, resuming, noting_state}
use Rattle.typed_core.specs.Statements.{Branches, meeting, after_branches, other_branch, statement, block}
use Rattle.typed_core.specs.Tests.{tested, on_side}
use Rattle.typed_core.proofs.Continued.{either, Goes, no_more, later_here, later_on}
use Rattle.typed_core.proofs.LimitedAnswers.{then_answers, weaker}
use Rattle.typed_core.proofs.GrownTests.{tested_goes}
use Rattle.typed_core.proofs.GrownJoins.{joined_goes, entered_goes, entered_if_goes}
use Rattle.typed_core.proofs.GrownStatements.{side_later, branch_later, loop_later, statement_goes, block_goes}
use Rattle.typed_core.proofs.NamedStates.{answered}

-- what follows where the first part is known
pub passed : {A B E : Type 0} (m : Result A E) (next : A → Result B E) (x : A) (y : B) → m ≡ Ok x → (m >>= next) ≡ Ok y → next x ≡ Ok y
passed m next x y h e = sym (ap (λ r. r >>= next) h) ∙ e

extended : (site : Site) (reached : core.Stmt) (first begin there end last : State) → Later first begin → IsSegment site reached begin there end → Later end last
    → IsSegment site reached first there last
extended site reached first begin there end last one s two =
    record { behind = s.behind; is = s.is; before = later_on first begin there one s.before; later = later_on s.behind end last s.later two }

-- ---- what comes behind branches

meeting_later : (site : Site) (at : ℕ) (clause : Option Clause) (changed : ℕ → Truth) (before : StateType) (ends : Branches) (latest : State)
    → Goes (Later latest) (meeting site at (stated clause) changed before ends latest)
unfolding meeting
meeting_later site at clause changed before ends latest =
    then_answers (joined site (stated clause) changed before latest) _ (joined_goes ⊥ site clause changed before latest (λ p. absurd p))
    (λ j m. then_answers (entered_if ends.one_completes site at j.0 ends.one j.1) _ (entered_if_goes ends.one_completes site at j.0 ends.one j.1)
    (λ one h. weaker (entered_if ends.two_completes site at j.0 ends.two one) (λ more g. later_on latest j.1 more m.later (later_on j.1 one more h.later g.later))
    (entered_if_goes ends.two_completes site at j.0 ends.two one)))

resumed_later : (rows : List Linear) (types : List (ℕ × Ty)) (st : State) → Later st (resuming rows types st)
resumed_later rows types st = record { vars = omega arith; naming = no_more st.naming; goals = no_more st.goals; notes = no_more st.notes }

after_later : (one_completes two_completes : Truth) (join : Option Clause) (site : Site) (at : ℕ) (changed : ℕ → Truth) (before one : StateType) (two : State)
    → Goes (Later two) (after_branches one_completes two_completes join site at changed before one two)
unfolding after_branches
after_later false false join site at changed before one two = record { is = resumed_later before.ctx.rows before.places two }
after_later true false None site at changed before one two =
    record { is = loop_later one.ctx.rows (still_visible before.places one.places) two two (later_here two) }
after_later false true None site at changed before one two =
    record { is = loop_later two.ctx.rows (still_visible before.places two.types) two two (later_here two) }
after_later p q join site at changed before one two =
    meeting_later site at join changed before (record { one = one; two = point two; one_completes = p; two_completes = q }) two

-- ---- the statements of a block

module _ (site : Site) where
  mutual
    unfolding StandsIn statement

    pub stands_found : (ss : core.Stmts) (st end : State) (reached : core.Stmt) (there : State) → StandsIn site ss st reached there → block site ss st ≡ Ok end
        → IsSegment site reached st there end
    stands_found core.NoStmt st end reached there is e = absurd is
    stands_found (core.AStmt s ss) st end reached there (inl is) e =
        let one = then_ok (statement site s st) _ end e in
        let rest = answered (block site ss one.value) end (block_goes site ss one.value) one.second in
        record {
          behind = one.value;
          is = ap (λ t. statement site t there) is.0 ∙ (ap (statement site s) is.1 ∙ one.first);
          before = subst (λ t. Later st t) (sym is.1) (later_here st);
          later = rest.later;
        }
    stands_found (core.AStmt s ss) st end reached there (inr (inl is)) e =
        let one = then_ok (statement site s st) _ end e in
        let rest = answered (block site ss one.value) end (block_goes site ss one.value) one.second in
        extended site reached st st there one.value end (later_here st) (within_found s st one.value reached there is one.first) rest.later
    stands_found (core.AStmt s ss) st end reached there (inr (inr is)) e =
        let here = answered (statement site s st) is.0 (statement_goes site s st) is.1 in
        extended site reached st is.0 there end end here.later
        (stands_found ss is.0 end reached there is.2 (passed (statement site s st) _ is.0 end is.1 e)) (later_here end)

    pub within_found : (s : core.Stmt) (st end : State) (reached : core.Stmt) (there : State) → StandsWithin site s st reached there → statement site s st ≡ Ok end
        → IsSegment site reached st there end
    within_found (core.Set x e) st end reached there is h = absurd is
    within_found (core.Split xs e at) st end reached there is h = absurd is
    within_found (core.Store array index e at) st end reached there is h = absurd is
    within_found (core.Do call) st end reached there is h = absurd is
    within_found (core.Print e) st end reached there is h = absurd is
    within_found (core.If test on_true on_false join at) st end reached there is h =
        let changed : ℕ → Truth = λ x. changes_any on_true x || changes_any on_false x in
        let side = on_side is.0.on_true is.0.after in
        let begun = side_later st is.0.after is.0.on_true (answered (tested site test st) is.0 (tested_goes site test st) is.1).grown.later in
        let e1 = passed (tested site test st) _ is.0 end is.1 h in
        either is.2
        (λ stands. let s = then_ok (block site on_true side) _ end e1 in
        let other = other_branch is.0.on_false st s.value in
        let t = then_ok (block site on_false other) _ end s.second in
        let second = branch_later is.0.on_false st s.value t.value (answered (block site on_false other) t.value (block_goes site on_false other) t.first).later in
        let last = answered (after_branches (completes_all on_true) (completes_all on_false) join site at changed (point st) (point s.value) t.value) end
        (after_later (completes_all on_true) (completes_all on_false) join site at changed (point st) (point s.value) t.value) t.second in
        extended site reached st side there s.value end begun (stands_found on_true side s.value reached there stands s.first) (later_on s.value t.value end second last))
        (λ stands. let other = other_branch is.0.on_false st stands.0 in
        let t = then_ok (block site on_false other) _ end (passed (block site on_true side) _ stands.0 end stands.1 e1) in
        let first = later_on st side stands.0 begun (answered (block site on_true side) stands.0 (block_goes site on_true side) stands.1).later in
        let last = answered (after_branches (completes_all on_true) (completes_all on_false) join site at changed (point st) (point stands.0) t.value) end
        (after_later (completes_all on_true) (completes_all on_false) join site at changed (point st) (point stands.0) t.value) t.second in
        extended site reached st other there t.value end (later_on st stands.0 other first (branch_later is.0.on_false st stands.0 other (later_here other)))
        (stands_found on_false other t.value reached there stands.2 t.first) last)
    within_found (core.While test head body at) st end reached there is h =
        let side = on_side is.3.on_true is.3.after in
        let e1 = passed (joined site (stated head) (changes_any body) (point st) st) _ (is.0, is.1) end is.4 h in
        let e2 = passed (entered site at is.0 (point st) is.1) _ is.2 end is.5 e1 in
        let e3 = passed (tested site test is.2) _ is.3 end is.6 e2 in
        let s = then_ok (block site body side) _ end e3 in
        let t = then_ok (entered_if (completes_all body) site at is.0 (point s.value) s.value) _ end s.second in
        let m = (answered (joined site (stated head) (changes_any body) (point st) st) (is.0, is.1) (joined_goes ⊥ site head (changes_any body) (point st) st (λ p. absurd p)) is.4).later in
        let n = (answered (entered site at is.0 (point st) is.1) is.2 (entered_goes site at is.0 (point st) is.1) is.5).later in
        let p = side_later is.2 is.3.after is.3.on_true (answered (tested site test is.2) is.3 (tested_goes site test is.2) is.6).grown.later in
        let back = (answered (entered_if (completes_all body) site at is.0 (point s.value) s.value) t.value (entered_if_goes (completes_all body) site at is.0 (point s.value) s.value) t.first).later in
        let left = noting_state is.3.on_false (resuming is.3.on_false is.1.types t.value) in
        let over : Later t.value end = subst (λ x. Later t.value x) (ok_same left end t.second) (loop_later is.3.on_false is.1.types t.value t.value (later_here t.value)) in
        extended site reached st side there s.value end (later_on st is.1 side m (later_on is.1 is.2 side n p)) (stands_found body side s.value reached there is.7 s.first)
        (later_on s.value t.value end back over)
    within_found (core.Return value at) st end reached there is h = absurd is
