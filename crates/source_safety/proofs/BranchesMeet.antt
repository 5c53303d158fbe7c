-- A branch that completes comes to where the branches meet.
use Rattle.std.proofs.Common.{◌≡◌, ◌∙◌, ℕ, ◌≤◌, ℤ, List, Bool as Truth, true, Ok, sym}
use Rattle.state_types.specs.Naming.{ValuesBelow}
use Rattle.state_types.specs.declared.state.StateType.{StateType}
use Rattle.state_types.proofs.Thens.{then_ok}
use Rattle.xanadu_tree.specs.declared.stmt.Clause.{Clause}
use Rattle.typed_core.specs.Joins.{joined, Joint, entered, entered_if}
use Rattle.typed_core.specs.SourceRuns.{Env}
use Rattle.typed_core.specs.SourceValues.{Blocks}
use Rattle.typed_core.specs.States.{Site, State, point}
use Rattle.typed_core.specs.Statements.{meeting}
use Rattle.typed_core.proofs.GrownJoins.{entered_goes, entered_if_goes}
use Rattle.typed_core.proofs.NamedStates.{answered}
use Rattle.source_safety.specs.Standing.{GoalsHold, Stands, Goes, Brings}
use Rattle.source_safety.proofs.Demanded.{goals_before}
use Rattle.source_safety.proofs.JoinsFare.{entered_stands}
use Rattle.source_safety.proofs.TestsFare.{same_goes}

module _ (site : Site) (at : ℕ) (clause : Clause) (changed : ℕ → Truth) (st latest end : State) (before env : Env) (base : List ℤ) (old new : Blocks) (le : st.ctx.vars ≤ latest.ctx.vars)
    (listed : ValuesBelow latest.ctx.vars latest.naming) (stands : Stands site st before base old) (goes : Goes site end env base old new)
    (brings : Brings changed clause.vars st.types end.types) where
  -- behind the goals of the way in
  pub comes_in : (joint : Joint) (start more : State) → joined site clause changed (point st) latest ≡ Ok (joint, start) → entered site at joint (point end) start ≡ Ok more → GoalsHold more.goals
      → Goes site more env base old new
  comes_in joint start more is enters goals =
      let stays = answered (entered site at joint (point end) start) more (entered_goes site at joint (point end) start) enters in
      same_goes site env start more base old new (sym stays.ctx) (sym stays.types)
      (entered_stands site clause changed st latest end before env base old new le listed stands goes brings at start start more joint is enters goals)

  pub first_meets : (two : StateType) (completes : Truth) (more : State)
      → meeting site at clause changed (point st) (record { one = point end; two = two; one_completes = true; two_completes = completes }) latest ≡ Ok more → GoalsHold more.goals
      → Goes site more env base old new
  unfolding meeting entered_if
  first_meets two completes more e goals =
      let s = then_ok (joined site clause changed (point st) latest) _ more e in
      let joint = s.value.0 in
      let start = s.value.1 in
      let t = then_ok (entered site at joint (point end) start) _ more s.second in
      let back = answered (entered_if completes site at joint two t.value) more (entered_if_goes completes site at joint two t.value) t.second in
      let hold = goals_before t.value.goals more.goals back.later.goals goals in
      same_goes site env t.value more base old new (sym back.ctx) (sym back.types) (comes_in joint start t.value s.first t.first hold)

  pub second_meets : (one : StateType) (completes : Truth) (more : State)
      → meeting site at clause changed (point st) (record { one = one; two = point end; one_completes = completes; two_completes = true }) latest ≡ Ok more → GoalsHold more.goals
      → Goes site more env base old new
  unfolding meeting entered_if
  second_meets one completes more e goals =
      let s = then_ok (joined site clause changed (point st) latest) _ more e in
      let joint = s.value.0 in
      let start = s.value.1 in
      let t = then_ok (entered_if completes site at joint one start) _ more s.second in
      let first = answered (entered_if completes site at joint one start) t.value (entered_if_goes completes site at joint one start) t.first in
      let stays = answered (entered site at joint (point end) t.value) more (entered_goes site at joint (point end) t.value) t.second in
      same_goes site env start more base old new (sym (stays.ctx ∙ first.ctx)) (sym (stays.types ∙ first.types))
      (entered_stands site clause changed st latest end before env base old new le listed stands goes brings at t.value start more joint s.first t.second goals)
