-- What an `if` is made of, and what is known at its parts.
use Rattle.std.proofs.Common.{◌≡◌, ◌∙◌, ℕ, ◌≤◌, ℤ, List, Bool as Truth, true, false, Option, Ok, refl, sym, ap, subst, arith}
use Rattle.std.specs.Prelude.{◌||◌}
use Rattle.std.specs.List.{All}
use Rattle.std.proofs.lemmas.Bool.{or_parts}
use Rattle.state_types.specs.PlaceTypes.{type_at}
use Rattle.state_types.specs.Tables.{IsClosed}
use Rattle.state_types.proofs.Thens.{then_ok}
use Rattle.xanadu_tree.specs.declared.stmt.Clause.{Clause}
use Rattle.xanadu_tree.specs.BodyRules.{Point, behind_block, completes_all, AreStatements}
use Rattle.xanadu_tree.specs.KindRules.{Setting}
use Rattle.xanadu_tree.specs.Plain as core
use Rattle.typed_core.specs.Joins.{changes_any, stated}
use Rattle.typed_core.specs.SourceRuns.{Env}
use Rattle.typed_core.specs.SourceValues.{Blocks}
use Rattle.typed_core.specs.States.{Site, State, point, noting_state}
use Rattle.typed_core.specs.Statements.{after_branches, other_branch, statement, block}
use Rattle.typed_core.specs.Tests.{Sides, tested, on_side}
use Rattle.typed_core.proofs.FitOperands.{Suits}
use Rattle.typed_core.proofs.FitStatements.{block_within}
use Rattle.typed_core.proofs.GrownStatements.{after_goes, block_goes}
use Rattle.typed_core.proofs.GrownTests.{tested_goes}
use Rattle.typed_core.proofs.NamedStates.{answered}
use Rattle.source_safety.specs.Standing.{GoalsHold, Stands, Goes}
use Rattle.source_safety.proofs.Demanded.{goals_before}
use Rattle.source_safety.proofs.GoneOn.{later_goes, first_behind, second_behind}
use Rattle.source_safety.proofs.PlacesKnown.{IsAt, block_at, side_at, other_at, brings_by}

abbrev pub changed_by : (on_true on_false : core.Stmts) → ℕ → Truth
changed_by on_true on_false x = changes_any on_true x || changes_any on_false x

pub record IsBranching (site : Site) (test : core.Test) (on_true on_false : core.Stmts) (join : Option Clause) (at : ℕ) (st more : State) : Type 0 where
  pub sides : Sides
  pub one : State
  pub two : State
  pub tests : tested site test st ≡ Ok sides
  pub first : block site on_true (on_side sides.on_true sides.after) ≡ Ok one
  pub second : block site on_false (other_branch sides.on_false st one) ≡ Ok two
  pub meets : after_branches (completes_all on_true) (completes_all on_false) join site at (changed_by on_true on_false) (point st) (point one) two ≡ Ok more

pub branching_is : (site : Site) (test : core.Test) (on_true on_false : core.Stmts) (join : Option Clause) (at : ℕ) (st more : State)
    → statement site (core.If test on_true on_false join at) st ≡ Ok more → IsBranching site test on_true on_false join at st more
unfolding statement
branching_is site test on_true on_false join at st more e =
    let s = then_ok (tested site test st) _ more e in
    let t = then_ok (block site on_true (on_side s.value.on_true s.value.after)) _ more s.second in
    let u = then_ok (block site on_false (other_branch s.value.on_false st t.value)) _ more t.second in
    record { sides = s.value; one = t.value; two = u.value; tests = s.first; first = t.first; second = u.first; meets = u.second }

module _ (site : Site) (test : core.Test) (on_true on_false : core.Stmts) (join : Option Clause) (at : ℕ) (st more : State) (b : IsBranching site test on_true on_false join at st more) where
  -- ---- what grows

  first_types : (x : ℕ) → changed_by on_true on_false x ≡ false → type_at x b.one.types ≡ type_at x st.types
  first_types x e =
      let side = on_side b.sides.on_true b.sides.after in
      (answered (block site on_true side) b.one (block_goes site on_true side) b.first).types x (or_parts (changes_any on_true x) (changes_any on_false x) e).0
      ∙ ap (type_at x) (answered (tested site test st) b.sides (tested_goes site test st) b.tests).grown.types

  second_types : (x : ℕ) → changed_by on_true on_false x ≡ false → type_at x b.two.types ≡ type_at x st.types
  unfolding noting_state
  second_types x e =
      let other = other_branch b.sides.on_false st b.one in
      (answered (block site on_false other) b.two (block_goes site on_false other) b.second).types x (or_parts (changes_any on_true x) (changes_any on_false x) e).1

  pub record Grows : Type 0 where
    pub tests : st.ctx.vars ≤ b.sides.after.ctx.vars
    pub first : b.sides.after.ctx.vars ≤ b.one.ctx.vars
    pub second : b.one.ctx.vars ≤ b.two.ctx.vars
    pub after_goals : GoalsHold b.one.goals → GoalsHold b.sides.after.goals
    pub one_goals : GoalsHold b.two.goals → GoalsHold b.one.goals
    pub two_goals : GoalsHold more.goals → GoalsHold b.two.goals

  pub grows : Grows
  unfolding noting_state
  grows =
      let side = on_side b.sides.on_true b.sides.after in
      let other = other_branch b.sides.on_false st b.one in
      let g = (answered (tested site test st) b.sides (tested_goes site test st) b.tests).grown.later in
      let k = (answered (block site on_true side) b.one (block_goes site on_true side) b.first).later in
      let l = (answered (block site on_false other) b.two (block_goes site on_false other) b.second).later in
      let m = (answered _ more (after_goes ⊥ (changed_by on_true on_false) (completes_all on_true) (completes_all on_false) join site at (point st) (point b.one) b.two (λ p. absurd p)
      (record { named = λ p. absurd p; types = first_types }) (record { named = λ p. absurd p; types = second_types })) b.meets).later in
      record {
        tests = g.vars;
        first = k.vars;
        second = l.vars;
        after_goals = λ hold. goals_before b.sides.after.goals b.one.goals k.goals hold;
        one_goals = λ hold. goals_before b.one.goals b.two.goals l.goals hold;
        two_goals = λ hold. goals_before b.two.goals more.goals m.goals hold;
      }

  -- the second branch begins
  pub other_goes : (env : Env) (base : List ℤ) (old new : Blocks) → Goes site (on_side b.sides.on_false b.sides.after) env base old new → Goes site (other_branch b.sides.on_false st b.one) env base old new
  unfolding noting_state
  other_goes env base old new g =
      later_goes site env (on_side b.sides.on_false b.sides.after) (other_branch b.sides.on_false st b.one) base old new grows.first refl
      (sym (answered (tested site test st) b.sides (tested_goes site test st) b.tests).grown.types) g

  -- ---- what is known

  module _ (set : Setting) (suits : Suits set site) (closed : All IsClosed site.table) (before inner last : Point) (here : IsAt set site.own.vars before st)
      (are : AreStatements set before on_true inner) (others : AreStatements set (behind_block before inner) on_false last) where
    pub true_at : IsAt set site.own.vars before (on_side b.sides.on_true b.sides.after)
    true_at = side_at set site suits closed test before st b.sides b.sides.on_true here b.tests

    pub one_at : IsAt set site.own.vars inner b.one
    one_at = block_at set site suits closed on_true before inner (on_side b.sides.on_true b.sides.after) b.one are true_at b.first

    pub false_at : IsAt set site.own.vars (behind_block before inner) (other_branch b.sides.on_false st b.one)
    false_at =
        let le = grows.tests in
        let more_le = grows.first in
        other_at set site suits closed before inner st b.one b.sides.on_false (omega (arith, le, more_le)) here one_at

    pub two_at : IsAt set site.own.vars last b.two
    two_at = block_at set site suits closed on_false (behind_block before inner) last (other_branch b.sides.on_false st b.one) b.two others false_at b.second

    module _ (env inside : Env) (base : List ℤ) (old new : Blocks) (stands : Stands site st env base old) (goals : GoalsHold more.goals) where
      within_two : st.ctx.vars ≤ b.two.ctx.vars
      within_two =
          let one_le = grows.tests in
          let two_le = grows.first in
          let three_le = grows.second in
          omega (arith, one_le, two_le, three_le)

      pub one_goes : completes_all on_true ≡ true → Goes site b.one inside base old new → Goes site more inside base old new
      one_goes may g =
          let brings = brings_by (changed_by on_true on_false) (stated join).vars set.kinds before.visible inner.visible st.types b.one.types (block_within set before on_true inner are)
          here.knows one_at.knows (λ x e unnamed. first_types x e) in
          first_behind site at (changed_by on_true on_false) st b.two b.one env inside base old new within_two grows.second two_at.behind.naming stands g more goals (completes_all on_false) join brings
          (subst (λ c. after_branches c (completes_all on_false) join site at (changed_by on_true on_false) (point st) (point b.one) b.two ≡ Ok more) may b.meets)

      pub two_goes : completes_all on_false ≡ true → Goes site b.two inside base old new → Goes site more inside base old new
      two_goes may g =
          let brings = brings_by (changed_by on_true on_false) (stated join).vars set.kinds before.visible last.visible st.types b.two.types
          (block_within set (behind_block before inner) on_false last others) here.knows two_at.knows (λ x e unnamed. second_types x e) in
          second_behind site at (changed_by on_true on_false) st b.two (point b.one) env inside base old new within_two two_at.behind.naming stands g more goals (completes_all on_true) join brings
          (subst (λ c. after_branches (completes_all on_true) c join site at (changed_by on_true on_false) (point st) (point b.one) b.two ≡ Ok more) may b.meets)
