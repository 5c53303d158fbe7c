-- What a loop is made of, and what is known at its parts.
use Rattle.std.proofs.Common.{◌≡◌, ◌∙◌, ℕ, ◌≤◌, ℤ, List, Bool as Truth, true, false, Option, Some, None, Ok, refl, sym, ap, subst, arith}
use Rattle.std.specs.Prelude.{◌||◌}
use Rattle.std.specs.List.{All}
use Rattle.state_types.specs.PlaceTypes.{type_at}
use Rattle.state_types.specs.Tables.{IsClosed}
use Rattle.state_types.proofs.Thens.{then_ok, ok_same}
use Rattle.xanadu_tree.specs.declared.stmt.Clause.{Clause}
use Rattle.xanadu_tree.specs.BodyRules.{Point, completes_all, IsClauseIfAny, AreStatements}
use Rattle.xanadu_tree.specs.KindRules.{Setting}
use Rattle.xanadu_tree.specs.Plain as core
use Rattle.typed_core.specs.Joins.{is_named, names, changes_any, stated, Joint, joined, entered, entered_if}
use Rattle.typed_core.specs.SourceRuns.{Env}
use Rattle.typed_core.specs.SourceValues.{Blocks}
use Rattle.typed_core.specs.States.{Site, State, point, resuming, noting_state}
use Rattle.typed_core.specs.Statements.{statement, block}
use Rattle.typed_core.specs.Tests.{Sides, tested, on_side}
use Rattle.typed_core.proofs.FitJoins.{clause_visible}
use Rattle.typed_core.proofs.FitOperands.{Suits}
use Rattle.typed_core.proofs.FitStatements.{block_within}
use Rattle.typed_core.proofs.GrownJoins.{joined_goes, entered_goes, entered_if_goes}
use Rattle.typed_core.proofs.GrownStatements.{block_goes}
use Rattle.typed_core.proofs.GrownTests.{tested_goes}
use Rattle.typed_core.proofs.KnownTypes.{AreWithin}
use Rattle.typed_core.proofs.NamedStates.{answered}
use Rattle.source_safety.specs.Standing.{GoalsHold, Stands, Goes, Brings}
use Rattle.source_safety.proofs.BranchesMeet.{comes_in}
use Rattle.source_safety.proofs.Demanded.{goals_before}
use Rattle.source_safety.proofs.FaredOn.{stays_here}
use Rattle.source_safety.proofs.GoneOn.{later_goes}
use Rattle.source_safety.proofs.JoinsFare.{entered_stands}
use Rattle.source_safety.proofs.PlacesKnown.{IsAt, block_at, side_at, begun_at, brings_by}
use Rattle.source_safety.proofs.TestsFare.{same_goes}

pub record IsLooping (site : Site) (test : core.Test) (head : Option Clause) (body : core.Stmts) (at : ℕ) (st more : State) : Type 0 where
  pub joint : Joint
  pub start : State
  pub begun : State
  pub sides : Sides
  pub turn : State
  pub back : State
  pub joins : joined site (stated head) (changes_any body) (point st) st ≡ Ok (joint, start)
  pub enters : entered site at joint (point st) start ≡ Ok begun
  pub tests : tested site test begun ≡ Ok sides
  pub inner : block site body (on_side sides.on_true sides.after) ≡ Ok turn
  pub turns : entered_if (completes_all body) site at joint (point turn) turn ≡ Ok back
  pub is : noting_state sides.on_false (resuming sides.on_false start.types back) ≡ more

pub looping_is : (site : Site) (test : core.Test) (head : Option Clause) (body : core.Stmts) (at : ℕ) (st more : State)
    → statement site (core.While test head body at) st ≡ Ok more → IsLooping site test head body at st more
unfolding statement
looping_is site test head body at st more e =
    let s = then_ok (joined site (stated head) (changes_any body) (point st) st) _ more e in
    let t = then_ok (entered site at s.value.0 (point st) s.value.1) _ more s.second in
    let u = then_ok (tested site test t.value) _ more t.second in
    let side = on_side u.value.on_true u.value.after in
    let v = then_ok (block site body side) _ more u.second in
    let w = then_ok (entered_if (completes_all body) site at s.value.0 (point v.value) v.value) _ more v.second in
    record {
      joint = s.value.0;
      start = s.value.1;
      begun = t.value;
      sides = u.value;
      turn = v.value;
      back = w.value;
      joins = s.first;
      enters = t.first;
      tests = u.first;
      inner = v.first;
      turns = w.first;
      is = ok_same _ more w.second;
    }

module _ (site : Site) (test : core.Test) (head : Option Clause) (body : core.Stmts) (at : ℕ) (st more : State) (l : IsLooping site test head body at st more) where
  -- ---- what grows

  pub record Turns : Type 0 where
    pub ctx : l.begun.ctx ≡ l.start.ctx
    pub types : l.begun.types ≡ l.start.types
    pub after_types : l.sides.after.types ≡ l.begun.types
    pub after_back : l.sides.after.ctx.vars ≤ l.back.ctx.vars
    pub begun_goals : GoalsHold l.sides.after.goals → GoalsHold l.begun.goals
    pub after_goals : GoalsHold l.turn.goals → GoalsHold l.sides.after.goals
    pub turn_goals : GoalsHold l.back.goals → GoalsHold l.turn.goals
    pub back_goals : GoalsHold more.goals → GoalsHold l.back.goals

  pub turns : Turns
  unfolding noting_state
  turns =
      let side = on_side l.sides.on_true l.sides.after in
      let e = answered (entered site at l.joint (point st) l.start) l.begun (entered_goes site at l.joint (point st) l.start) l.enters in
      let g = (answered (tested site test l.begun) l.sides (tested_goes site test l.begun) l.tests).grown in
      let k = (answered (block site body side) l.turn (block_goes site body side) l.inner).later in
      let f = (answered (entered_if (completes_all body) site at l.joint (point l.turn) l.turn) l.back (entered_if_goes (completes_all body) site at l.joint (point l.turn) l.turn) l.turns).later in
      let body_le = k.vars in
      let back_le = f.vars in
      record {
        ctx = e.ctx;
        types = e.types;
        after_types = g.types;
        after_back = omega (arith, body_le, back_le);
        begun_goals = λ hold. goals_before l.begun.goals l.sides.after.goals g.later.goals hold;
        after_goals = λ hold. goals_before l.sides.after.goals l.turn.goals k.goals hold;
        turn_goals = λ hold. goals_before l.turn.goals l.back.goals f.goals hold;
        back_goals = λ hold. subst (λ (m : State). GoalsHold m.goals) (sym l.is) hold;
      }

  turn_types : (x : ℕ) → changes_any body x ≡ false → type_at x l.turn.types ≡ type_at x l.sides.after.types
  turn_types x e =
      let side = on_side l.sides.on_true l.sides.after in
      (answered (block site body side) l.turn (block_goes site body side) l.inner).types x e

  start_types : (x : ℕ) → changes_any body x ≡ false → names head x ≡ false → type_at x l.start.types ≡ type_at x st.types
  start_types x same unnamed =
      let made : Joint × State = (l.joint, l.start) in
      (answered (joined site (stated head) (changes_any body) (point st) st) made (joined_goes ⊥ site head (changes_any body) (point st) st (λ p. absurd p)) l.joins).types x (both_false (changes_any body x) (names head x) same unnamed)
    where
      both_false : (a b : Truth) → a ≡ false → b ≡ false → (a || b) ≡ false
      both_false true b e h = absurd (let bad : ⊥ = cc in bad)
      both_false false b e h = h

  names_of : (c : Option Clause) (x : ℕ) → names c x ≡ is_named x (stated c).vars
  names_of None x = refl
  names_of (Some clause) x = refl

  -- behind the loop
  pub leaves_loop : (env : Env) (base : List ℤ) (old new : Blocks) → Goes site (on_side l.sides.on_false l.sides.after) env base old new → Goes site more env base old new
  unfolding noting_state
  leaves_loop env base old new g =
      subst (λ m. Goes site m env base old new) l.is
      (later_goes site env (on_side l.sides.on_false l.sides.after) (noting_state l.sides.on_false (resuming l.sides.on_false l.start.types l.back)) base old new turns.after_back refl
      (sym (turns.after_types ∙ turns.types)) g)

  -- ---- what is known

  module _ (set : Setting) (suits : Suits set site) (closed : All IsClosed site.table) (before begin end : Point) (here : IsAt set site.own.vars before st)
      (clause : IsClauseIfAny set before head begin) (are : AreStatements set begin body end) where
    head_at : IsAt set site.own.vars begin l.begun
    head_at = begun_at set site suits closed head (changes_any body) at before begin st l.start l.begun l.joint clause here l.joins l.enters

    pub body_at : IsAt set site.own.vars begin (on_side l.sides.on_true l.sides.after)
    body_at = side_at set site suits closed test begin l.begun l.sides l.sides.on_true head_at l.tests

    turn_at : IsAt set site.own.vars end l.turn
    turn_at = block_at set site suits closed body begin end (on_side l.sides.on_true l.sides.after) l.turn are body_at l.inner

    inside : AreWithin before.visible end.visible
    inside = subst (λ v. AreWithin v end.visible) (clause_visible set before head begin clause) (block_within set begin body end are)

    -- a variable that the loop does not change, and its clause does not name
    turn_brings : Brings (changes_any body) (stated head).vars st.types l.turn.types
    turn_brings =
        brings_by (changes_any body) (stated head).vars set.kinds before.visible end.visible st.types l.turn.types inside here.knows turn_at.knows
        (λ x same unnamed. turn_types x same ∙ ap (type_at x) (turns.after_types ∙ turns.types) ∙ start_types x same (names_of head x ∙ unnamed))

    module _ (env : Env) (base : List ℤ) (old : Blocks) (stands : Stands site st env base old) (goals : GoalsHold more.goals) where
      begun_goals : GoalsHold l.begun.goals
      begun_goals = turns.begun_goals (turns.after_goals (turns.turn_goals (turns.back_goals goals)))

      -- the first time
      pub begins_loop : Goes site l.begun env base old old
      begins_loop =
          comes_in site at (stated head) (changes_any body) st st st env env base old old (omega arith) here.behind.naming stands (stays_here site env st base old stands)
          (brings_by (changes_any body) (stated head).vars set.kinds before.visible before.visible st.types st.types (λ x h. h) here.knows here.knows (λ x h u. refl))
          l.joint l.start l.begun l.joins l.enters begun_goals

      -- behind the body
      pub turns_back : (inner : Env) (new : Blocks) → completes_all body ≡ true → Goes site l.turn inner base old new → Goes site l.begun inner base old new
      unfolding entered_if
      turns_back inner new may g =
          same_goes site inner l.start l.begun base old new (sym turns.ctx) (sym turns.types)
          (entered_stands site (stated head) (changes_any body) st st l.turn env inner base old new (omega arith) here.behind.naming stands g turn_brings at l.turn l.start l.back l.joint l.joins
          (subst (λ c. entered_if c site at l.joint (point l.turn) l.turn ≡ Ok l.back) may l.turns) (turns.back_goals goals))
