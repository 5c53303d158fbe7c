-- Elaboration of a body of a shaped core, walked once for whatever is said of the notes and goals so far: it goes on behind each statement, if it does
-- at each demand, at each way into a label, and where a state is noted.
use Rattle.std.proofs.Common.{◌≡◌, ◌∙◌, ℕ, suc, ◌+◌, ◌≤◌, List, [], ◌∷◌, ◌++◌, length, Bool as Truth, true, false, Option, Some, None, Ok, refl, sym, ap, subst, arith}
use Rattle.std.specs.Prelude.{◌||◌}
use Rattle.std.specs.List.{AllByRecursion, list_all}
use Rattle.xan_lin.specs.Linear.{Linear}
use Rattle.xan_lin.specs.Subst.{zero_form}
use Rattle.xan_lin.specs.declared.term.LimitKind.TheVariants as limit
use Rattle.state_types.specs.PlaceTypes.{type_at}
use Rattle.state_types.specs.declared.matching.Found.{Found}
use Rattle.state_types.specs.declared.state.StateType.{StateType}
use Rattle.state_types.specs.declared.types.Ty.{Ty}
use Rattle.state_types.specs.declared.types.Ty.TheVariants as ty
use Rattle.state_types.proofs.Thens.{then_ok, ok_same}
use Rattle.operation_rules.specs.Applied.{all_assuming}
use Rattle.operation_rules.specs.Faults.{filled}
use Rattle.operation_rules.specs.Rules.{rule}
use Rattle.operation_rules.specs.Sides.{side}
use Rattle.operation_rules.specs.declared.operation.Operation.{Operation}
use Rattle.operation_rules.specs.declared.operation.Operation.TheVariants as operation
use Rattle.xanadu_tree.specs.declared.stmt.Clause.{Clause}
use Rattle.xanadu_tree.specs.BodyRules.{Point, behind_block, completes, completes_all, MayFollow, IsStatement, AreStatements}
use Rattle.xanadu_tree.specs.KindRules.{Setting}
use Rattle.xanadu_tree.specs.Plain as core
use Rattle.typed_core.specs.Constructs.{setting_of, followed, asking, types_by, state_by}
use Rattle.typed_core.specs.Joins.{changes_any, stated, still_visible, Joint, joined, within_bounds, values_at, met_there, entered, entered_if}
use Rattle.typed_core.specs.Limits.{within, by_rule, held}
use Rattle.typed_core.specs.Operands.{operand}
use Rattle.typed_core.specs.States.{Site, State, point, resuming, all_asked, none_asked, demanding, noting_state, as_tuple, like, given}
use Rattle.typed_core.specs.Statements.{assigned, all_given, split, store, done, printed, returning, Branches, meeting, after_branches, other_branch, statement, block}
use Rattle.typed_core.specs.Strays.{type_below}
use Rattle.typed_core.specs.Tests.{Sides, branched, on_side, tested, all_true, all_false}
use Rattle.typed_core.specs.declared.goal.GoalAt.{GoalAt}
use Rattle.typed_core.specs.declared.note.Note.{Note}
use Rattle.typed_core.specs.declared.note.Note.TheVariants as note
use Rattle.typed_core.proofs.Continued.{Goes}
use Rattle.typed_core.proofs.GrownContexts.{RowsBelow, rows_more, types_by_goes}
use Rattle.typed_core.proofs.GrownJoins.{entered_goes, entered_if_goes}
use Rattle.typed_core.proofs.KnownTypes.{entry_at}
use Rattle.typed_core.proofs.LimitedAnswers.{then_answers, weaker, any_answer}
use Rattle.typed_core.proofs.NamedStates.{known_answer, answered, both_answers}
use Rattle.source_safety.proofs.BranchParts.{branching_is}
use Rattle.source_safety.proofs.LoopParts.{looping_is}
use Rattle.carrier_laws.proofs.JoinsNoted.{StateNoted, joined_noted}
use Rattle.carrier_laws.proofs.KeptStates.{Kept, zero_is_form, types_kept}
use Rattle.carrier_laws.proofs.OperandsWalked.{Keeps, state_walked, operand_walked, leaf_walked}
use Rattle.carrier_laws.proofs.PlacesKept.{Grounds, Facts, Place, SideFacts, facts_of, sides_facts, true_place, statement_place, block_facts, other_place, begun_place}
use Rattle.carrier_laws.proofs.RulesKept.{IsGood}

-- What is said of notes and goals goes on wherever elaboration makes one more. `Noted` is what this takes of a state: of one that is noted, and of one from which a way leads.
pub record GoesOn (site : Site) (Noted : StateType → Type 0) (Holds : List Note → List GoalAt → Type 0) : Type 0 where
  pub known : (st : State) → Facts site st → Noted (point st)
  pub demand : (at : ℕ) (rows : List Linear) (st : State) → Kept site.table st → RowsBelow st.ctx.vars st.ctx.rows → Holds st.notes st.goals
      → (let made = all_asked site at st.ctx rows (none_asked st) in Holds (st.notes ++ note.Demand made.numbers ∷ []) made.goals)
  pub way : (at : ℕ) (joint : Joint) (end : StateType) (found : List Ty × Found) (values : List (ℕ × Linear)) (st : State) → Noted end → met_there joint end.places ≡ Ok found
      → values_at end.places (joint.first + joint.count) joint.others found.1.values ≡ Ok values → Holds st.notes st.goals
      → (let made = all_asked site at end.ctx found.1.rows (none_asked st) in Holds (st.notes ++ note.Edge values found.0 made.numbers ∷ []) made.goals)
  pub state : (noted : StateType) (notes : List Note) (goals : List GoalAt) → Noted noted → Holds notes goals → Holds (notes ++ note.State noted ∷ []) goals

module _ (set : Setting) (site : Site) (g : Grounds set site) (Noted : StateType → Type 0) (Holds : List Note → List GoalAt → Type 0) (on : GoesOn site Noted Holds) where
  abbrev So : State → Type 0
  So st = Holds st.notes st.goals

  abbrev Good : Ty → Type 0
  Good t = IsGood site.table t

  -- ---- expressions note no states

  record Here (st : State) : Type 0 where
    kept : Kept site.table st
    named : RowsBelow st.ctx.vars st.ctx.rows
    so : So st

  asked_so : (at : Option ℕ) (rows : List Linear) (st : State) → Here st → So (asking site at rows st)
  unfolding demanding
  asked_so None rows st h = h.so
  asked_so (Some at) rows st h = on.demand at rows st h.kept h.named h.so

  types_so : (at : Option ℕ) (op : Operation) (types : List Ty) (st : State) → Here st → Goes (λ r. So r.1) (types_by site at op types st)
  unfolding types_by
  types_so at op types st h =
      then_answers (held (list_all (type_below st.ctx.vars) types)) _ (any_answer (held (list_all (type_below st.ctx.vars) types)))
      (λ a u. then_answers (by_rule (rule (setting_of site) op types st.ctx.vars)) _ (any_answer (by_rule (rule (setting_of site) op types st.ctx.vars)))
      (λ r v. then_answers (by_rule (followed r st.ctx)) _ (any_answer (by_rule (followed r st.ctx))) (λ p w. record { is = asked_so at r.demands st h })))

  types_here : (at : Option ℕ) (op : Operation) (types : List Ty) (st : State) → Here st → AllByRecursion Good types → Goes (λ r. Here r.1 × AllByRecursion Good r.0) (types_by site at op types st)
  types_here at op types st h good =
      weaker (types_by site at op types st) (λ r all. (record { kept = all.0.0; named = all.1.0.named g.closed h.named; so = all.1.1 }, all.0.1))
      (both_answers (types_by site at op types st) (types_kept site g.ground.are at op types st h.kept good)
      (both_answers (types_by site at op types st) (types_by_goes site at op types st) (types_so at op types st h)))

  keeps : Keeps site Good Here
  keeps = record { zero = (zero_is_form, tt); place = λ x st t h e. entry_at (λ (p : ℕ × Ty). Good p.1) st.types x t h.kept.types e; rule = types_here }

  operand_here : (e : core.Expr) (st : State) → Here st → Goes (λ r. Here r.1 × Good r.0) (operand site e st)
  operand_here e st h = operand_walked site Good Here keeps e st h

  state_so : (at : Option ℕ) (op : Operation) (types : List Ty) (st : State) → Here st → AllByRecursion Good types → Goes So (state_by site at op types st)
  state_so at op types st h good = weaker (state_by site at op types st) (λ more k. k.so) (state_walked site Good Here keeps at op types st h good)

  -- ---- statements without blocks

  given_so : (x : ℕ) (t : Ty) (st : State) → So st → Goes So (given x t st)
  unfolding given
  given_so x t st k =
      then_answers (within limit.Places (suc x)) _ (any_answer (within limit.Places (suc x)))
      (λ u a. then_answers (like (type_at x st.types) t) _ (any_answer (like (type_at x st.types) t)) (λ it b. record { is = k }))

  all_given_so : (xs : List ℕ) (ts : List Ty) (st : State) → So st → Goes So (all_given xs ts st)
  unfolding all_given
  all_given_so [] [] st k = record { is = k }
  all_given_so [] (t ∷ ts) st k = record { is = tt }
  all_given_so (x ∷ xs) [] st k = record { is = tt }
  all_given_so (x ∷ xs) (t ∷ ts) st k = then_answers (given x t st) _ (given_so x t st k) (λ more h. all_given_so xs ts more h)

  assigned_so : (x : ℕ) (e : core.Expr) (st : State) → Here st → Goes So (assigned site x e st)
  unfolding assigned
  assigned_so x e st h = then_answers (operand site e st) _ (operand_here e st h) (λ r p. given_so x r.0 r.1 p.0.so)

  split_so : (xs : List ℕ) (e : core.Expr) (st : State) → Here st → Goes So (split site xs e st)
  unfolding split
  split_so xs e st h =
      then_answers (operand site e st) _ (operand_here e st h)
      (λ r p. then_answers (as_tuple r.0) _ (any_answer (as_tuple r.0))
      (λ n u. then_answers (types_by site None (operation.Untuple n (length xs)) (r.0 ∷ []) r.1) _ (types_so None (operation.Untuple n (length xs)) (r.0 ∷ []) r.1 p.0)
      (λ o q. all_given_so xs o.0 o.1 q)))

  store_so : (array index value : core.Expr) (at : ℕ) (st : State) → Here st → Goes So (store site array index value at st)
  unfolding store
  store_so array index value at st h =
      then_answers (operand site array st) _ (operand_here array st h)
      (λ p a. then_answers (operand site index p.1) _ (operand_here index p.1 a.0)
      (λ q b. then_answers (operand site value q.1) _ (operand_here value q.1 b.0)
      (λ r c. state_so (Some at) operation.Store (p.0 ∷ q.0 ∷ r.0 ∷ []) r.1 c.0 (a.1, (b.1, (c.1, tt))))))

  done_so : (call : core.Expr) (st : State) → Here st → Goes So (done site call st)
  unfolding done
  done_so call st h = then_answers (operand site call st) _ (operand_here call st h) (λ r p. record { is = p.0.so })

  printed_so : (e : core.Expr) (st : State) → Here st → Goes So (printed site e st)
  unfolding printed
  printed_so e st h = then_answers (operand site e st) _ (operand_here e st h) (λ r p. state_so None operation.Print (r.0 ∷ []) r.1 p.0 (p.1, tt))

  returning_so : (value : Option core.Expr) (at : ℕ) (st : State) → Here st → Goes So (returning site value at st)
  unfolding returning
  returning_so None at st h = state_so (Some at) operation.Return (ty.Int zero_form ∷ []) st h (keeps.zero, tt)
  returning_so (Some e) at st h = then_answers (operand site e st) _ (operand_here e st h) (λ r p. state_so (Some at) operation.Return (r.0 ∷ []) r.1 p.0 (p.1, tt))

  -- ---- tests

  branched_so : (op : Operation) (types : List Ty) (st : State) → Here st → AllByRecursion Good types → Goes (λ s. So s.after) (branched site op types st)
  unfolding branched
  branched_so op types st h good =
      then_answers (state_by site None op types st) _ (state_so None op types st h good)
      (λ more k. then_answers (by_rule (filled (all_assuming (side true op types) more.ctx))) _ (any_answer (by_rule (filled (all_assuming (side true op types) more.ctx))))
      (λ one a. then_answers (by_rule (filled (all_assuming (side false op types) more.ctx))) _ (any_answer (by_rule (filled (all_assuming (side false op types) more.ctx))))
      (λ two b. record { is = k })))

  -- these rows hold there too
  with_rows : (st last : State) (rows : List Linear) → Facts site st → st.ctx.vars ≤ last.ctx.vars → Facts site (on_side rows last) → Facts site (on_side st.ctx.rows last)
  with_rows st last rows f le l = record {
    kept = record { rows = f.kept.rows; types = l.kept.types; rise = l.kept.rise; few = l.kept.few };
    named = rows_more st.ctx.vars last.ctx.vars st.ctx.rows le f.named;
    typed = record { own_vars = l.typed.own_vars; types = l.typed.types };
  }

  on_own : (st : State) → Facts site st → Facts site (on_side st.ctx.rows st)
  on_own st f = record {
    kept = record { rows = f.kept.rows; types = f.kept.types; rise = f.kept.rise; few = f.kept.few };
    named = f.named;
    typed = record { own_vars = f.typed.own_vars; types = f.typed.types };
  }

  noting_so : (rows : List Linear) (st : State) → Facts site (on_side rows st) → So st → So (noting_state rows st)
  unfolding noting_state
  noting_so rows st f k = on.state (point (on_side rows st)) st.notes st.goals (on.known (on_side rows st) f) k

  -- behind some parts of a test
  abbrev Parts : State → Sides → Type 0
  Parts before sides = SideFacts set site g before sides × So sides.after

  begun : (st : State) → Facts site st → So st → Parts st (record { on_true = st.ctx.rows; on_false = st.ctx.rows; after = st })
  begun st f k = (record { on_true = on_own st f; on_false = on_own st f; vars = omega arith }, k)

  parts_from : (a b : State) (sides : Sides) → a.ctx.vars ≤ b.ctx.vars → Parts b sides → Parts a sides
  parts_from a b sides le p = (record { on_true = p.0.on_true; on_false = p.0.on_false; vars = (let h = p.0.vars in omega (arith, le, h)) }, p.1)

  parts_again : (a : State) (sides : Sides) → Parts a sides → Parts sides.after sides
  parts_again a sides p = (record { on_true = p.0.on_true; on_false = p.0.on_false; vars = omega arith }, p.1)

  mutual
    unfolding tested

    tested_so : (t : core.Test) (st : State) → Facts site st → So st → Goes (λ sides. So sides.after) (tested site t st)
    tested_so (core.Leaf e) st f k = leaf_walked site Good Here keeps (λ s. So s.after) branched_so e st (record { kept = f.kept; named = f.named; so = k })
    tested_so (core.All parts) st f k =
        let begin : Sides = record { on_true = st.ctx.rows; on_false = st.ctx.rows; after = st } in
        then_answers (all_true site parts begin) _ (all_true_so parts begin (begun st f k))
        (λ last p. record { is = noting_so st.ctx.rows last.after (with_rows st last.after last.on_true f p.0.vars p.0.on_true) p.1 })
    tested_so (core.Any parts) st f k =
        let begin : Sides = record { on_true = st.ctx.rows; on_false = st.ctx.rows; after = st } in
        then_answers (all_false site parts begin) _ (all_false_so parts begin (begun st f k))
        (λ last p. record { is = noting_so st.ctx.rows last.after (with_rows st last.after last.on_true f p.0.vars p.0.on_true) p.1 })
    tested_so (core.Not part) st f k = then_answers (tested site part st) _ (tested_so part st f k) (λ sides h. record { is = h })

    all_true_so : (parts : core.Tests) (sides : Sides) → Parts sides.after sides → Goes (Parts sides.after) (all_true site parts sides)
    all_true_so core.NoTest sides p = record { is = p }
    all_true_so (core.ATest t others) sides p =
        let here = on_side sides.on_true sides.after in
        then_answers (tested site t here) _ (both_answers (tested site t here) (sides_facts set site g t here p.0.on_true) (tested_so t here p.0.on_true p.1))
        (λ more h. weaker (all_true site others more) (λ last l. parts_from sides.after more.after last h.0.vars l) (all_true_so others more (parts_again here more h)))

    all_false_so : (parts : core.Tests) (sides : Sides) → Parts sides.after sides → Goes (Parts sides.after) (all_false site parts sides)
    all_false_so core.NoTest sides p = record { is = p }
    all_false_so (core.ATest t others) sides p =
        let here = on_side sides.on_false sides.after in
        then_answers (tested site t here) _ (both_answers (tested site t here) (sides_facts set site g t here p.0.on_false) (tested_so t here p.0.on_false p.1))
        (λ more h. weaker (all_false site others more) (λ last l. parts_from sides.after more.after last h.0.vars l) (all_false_so others more (parts_again here more h)))

  -- ---- where control flow meets

  entered_so : (at : ℕ) (joint : Joint) (end : StateType) (st : State) → Noted end → So st → Goes So (entered site at joint end st)
  unfolding entered
  entered_so at joint end st is k =
      then_answers (met_there joint end.places) _ (known_answer (met_there joint end.places))
      (λ f met. then_answers (within_bounds joint.past) _ (any_answer (within_bounds joint.past))
      (λ u v. then_answers (values_at end.places (joint.first + joint.count) joint.others f.1.values) _
      (known_answer (values_at end.places (joint.first + joint.count) joint.others f.1.values))
      (λ values e. record { is = on.way at joint end f values st is met e k })))

  entered_if_so : (so : Truth) (at : ℕ) (joint : Joint) (end : StateType) (st : State) → Noted end → So st → Goes So (entered_if so site at joint end st)
  unfolding entered_if
  entered_if_so false at joint end st is k = record { is = k }
  entered_if_so true at joint end st is k = entered_so at joint end st is k

  -- the state where ways meet, of which the same is known as behind them
  start_so : (latest start more : State) → StateNoted latest start → more.ctx ≡ start.ctx → more.types ≡ start.types → Facts site more → So latest → So start
  start_so latest start more noted ctx types f k =
      let same : point more ≡ point start =
      ap (λ x. let s : StateType = record { ctx = x; places = more.types } in s) ctx ∙ ap (λ x. let s : StateType = record { ctx = start.ctx; places = x } in s) types in
      subst (λ gs. Holds start.notes gs) (sym noted.goals)
      (subst (λ ns. Holds ns latest.goals) (sym noted.notes) (on.state (point start) latest.notes latest.goals (subst Noted same (on.known more f)) k))

  -- the state where control comes by another way
  resumed_so : (rows : List Linear) (types : List (ℕ × Ty)) (latest more : State) → noting_state rows (resuming rows types latest) ≡ more → Facts site more → So latest → So more
  unfolding noting_state
  resumed_so rows types latest more e f k =
      let noted = noting_state rows (resuming rows types latest) in subst So e (on.state (point noted) latest.notes latest.goals (on.known noted (subst (Facts site) (sym e) f)) k)

  meeting_so : (at : ℕ) (clause : Clause) (changed : ℕ → Truth) (before : StateType) (ends : Branches) (latest more : State) → Noted ends.one × Noted ends.two → So latest → Facts site more
      → meeting site at clause changed before ends latest ≡ Ok more → So more
  unfolding meeting
  meeting_so at clause changed before ends latest more both k f e =
      let j = then_ok (joined site clause changed before latest) _ more e in
      let one = then_ok (entered_if ends.one_completes site at j.value.0 ends.one j.value.1) _ more j.second in
      let first = answered (entered_if ends.one_completes site at j.value.0 ends.one j.value.1) one.value (entered_if_goes ends.one_completes site at j.value.0 ends.one j.value.1) one.first in
      let second = answered (entered_if ends.two_completes site at j.value.0 ends.two one.value) more (entered_if_goes ends.two_completes site at j.value.0 ends.two one.value) one.second in
      let noted = answered (joined site clause changed before latest) j.value (joined_noted site clause changed before latest) j.first in
      let start = start_so latest j.value.1 more noted (second.ctx ∙ first.ctx) (second.types ∙ first.types) f k in
      let a = answered (entered_if ends.one_completes site at j.value.0 ends.one j.value.1) one.value (entered_if_so ends.one_completes at j.value.0 ends.one j.value.1 both.0 start) one.first in
      answered (entered_if ends.two_completes site at j.value.0 ends.two one.value) more (entered_if_so ends.two_completes at j.value.0 ends.two one.value both.1 a) one.second

  -- what follows is known where a branch completes
  after_so : (one_completes two_completes : Truth) (join : Option Clause) (at : ℕ) (changed : ℕ → Truth) (before one : StateType) (two more : State) → Noted one × Noted (point two) → So two
      → ((one_completes || two_completes) ≡ true → Facts site more) → after_branches one_completes two_completes join site at changed before one two ≡ Ok more → So more
  unfolding after_branches
  after_so false false join at changed before one two more both k f e = subst So (ok_same (resuming before.ctx.rows before.places two) more e) k
  after_so true false None at changed before one two more both k f e = resumed_so one.ctx.rows (still_visible before.places one.places) two more (ok_same _ more e) (f refl) k
  after_so true false (Some c) at changed before one two more both k f e = meeting_so at c changed before _ two more both k (f refl) e
  after_so false true None at changed before one two more both k f e = resumed_so two.ctx.rows (still_visible before.places two.types) two more (ok_same _ more e) (f refl) k
  after_so false true (Some c) at changed before one two more both k f e = meeting_so at c changed before _ two more both k (f refl) e
  after_so true true join at changed before one two more both k f e = meeting_so at (stated join) changed before _ two more both k (f refl) e

  -- ---- statements and blocks

  here_at : (p : Point) (st : State) → Place set site p st → So st → Here st
  here_at p st here k = record { kept = here.known.kept; named = here.named; so = k }

  mutual
    unfolding statement AreStatements

    pub statement_so : (s : core.Stmt) (before after : Point) (st more : State) → IsStatement set before s after → Place set site before st → So st → statement site s st ≡ Ok more → So more
    statement_so (core.Set x e) before after st more is here k made = answered (assigned site x e st) more (assigned_so x e st (here_at before st here k)) made
    statement_so (core.Split xs e at) before after st more is here k made = answered (split site xs e st) more (split_so xs e st (here_at before st here k)) made
    statement_so (core.Store array index e at) before after st more is here k made = answered (store site array index e at st) more (store_so array index e at st (here_at before st here k)) made
    statement_so (core.Do call) before after st more is here k made = answered (done site call st) more (done_so call st (here_at before st here k)) made
    statement_so (core.Print e) before after st more is here k made = answered (printed site e st) more (printed_so e st (here_at before st here k)) made
    statement_so (core.If test on_true on_false join at) before after st more is here k made =
        let b = branching_is site test on_true on_false join at st more made in
        let t = answered (tested site test st) b.sides (tested_so test st (facts_of set site g before st here) k) b.tests in
        let side = on_side b.sides.on_true b.sides.after in
        let one_here = true_place set site g test before st b.sides b.tests here in
        let one = block_so on_true before is.0 side b.one is.3 one_here t b.first in
        let other = other_branch b.sides.on_false st b.one in
        let two_here = other_place set site g test on_true before is.0 st b.one b.sides is.3 b.tests b.first here in
        let noted = resumed_so b.sides.on_false st.types b.one other refl (facts_of set site g (behind_block before is.0) other two_here) one in
        let two = block_so on_false (behind_block before is.0) is.1 other b.two is.4 two_here noted b.second in
        let one_known = on.known b.one (block_facts set site g on_true before is.0 side b.one is.3 b.first one_here) in
        let two_known = on.known b.two (block_facts set site g on_false (behind_block before is.0) is.1 other b.two is.4 b.second two_here) in
        after_so (completes_all on_true) (completes_all on_false) join at _ (point st) (point b.one) b.two more (one_known, two_known) two
        (λ may. facts_of set site g after more (statement_place set site g (core.If test on_true on_false join at) before after st more is made may here)) b.meets
    statement_so (core.While test head body at) before after st more is here k made =
        let l = looping_is site test head body at st more made in
        let begun_here = begun_place set site g head (changes_any body) at before is.0 st l.start l.begun l.joint is.3 l.joins l.enters here in
        let joint : Joint × State = (l.joint, l.start) in
        let noted = answered (joined site (stated head) (changes_any body) (point st) st) joint (joined_noted site (stated head) (changes_any body) (point st) st) l.joins in
        let goes = answered (entered site at l.joint (point st) l.start) l.begun (entered_goes site at l.joint (point st) l.start) l.enters in
        let facts = facts_of set site g is.0 l.begun begun_here in
        let start = start_so st l.start l.begun noted goes.ctx goes.types facts k in
        let known = on.known st (facts_of set site g before st here) in
        let enters = answered (entered site at l.joint (point st) l.start) l.begun (entered_so at l.joint (point st) l.start known start) l.enters in
        let t = answered (tested site test l.begun) l.sides (tested_so test l.begun facts enters) l.tests in
        let side = on_side l.sides.on_true l.sides.after in
        let inner_here = true_place set site g test is.0 l.begun l.sides l.tests begun_here in
        let turn = block_so body is.0 is.1 side l.turn is.4 inner_here t l.inner in
        let turn_known = on.known l.turn (block_facts set site g body is.0 is.1 side l.turn is.4 l.inner inner_here) in
        let back = answered (entered_if (completes_all body) site at l.joint (point l.turn) l.turn) l.back (entered_if_so (completes_all body) at l.joint (point l.turn) l.turn turn_known turn) l.turns in
        let behind = facts_of set site g after more (statement_place set site g (core.While test head body at) before after st more is made refl here) in
        resumed_so l.sides.on_false l.start.types l.back more l.is behind back
    statement_so (core.Return value at) before after st more is here k made = answered (returning site value at st) more (returning_so value at st (here_at before st here k)) made

    pub block_so : (ss : core.Stmts) (before after : Point) (st more : State) → AreStatements set before ss after → Place set site before st → So st → block site ss st ≡ Ok more → So more
    block_so core.NoStmt before after st more are here k made = subst So (ok_same st more made) k
    block_so (core.AStmt s core.NoStmt) before after st more are here k made =
        let a = then_ok (statement site s st) _ more made in
        subst So (ok_same a.value more a.second) (statement_so s before are.0 st a.value are.1 here k a.first)
    block_so (core.AStmt s (core.AStmt t ts)) before after st more are here k made =
        let a = then_ok (statement site s st) _ more made in
        let next = statement_place set site g s before are.0 st a.value are.1 a.first (goes_on (completes s) are.2) here in
        block_so (core.AStmt t ts) are.0 after a.value more are.3 next (statement_so s before are.0 st a.value are.1 here k a.first) a.second
      where
        goes_on : (b : Truth) → MayFollow b (core.AStmt t ts) → b ≡ true
        goes_on true may = refl
        goes_on false may = absurd may
