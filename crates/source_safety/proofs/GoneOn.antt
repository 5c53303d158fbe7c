-- A run goes on behind a block: where the second branch begins, where branches meet, and where a loop ends.
use Rattle.std.proofs.Common.{◌≡◌, ℕ, ◌≤◌, ℤ, List, Bool as Truth, true, false, Option, Some, None, Ok, sym, subst, arith}
use Rattle.std.specs.List.{All}
use Rattle.index_sorts.specs.Entails.{AllHold}
use Rattle.state_types.specs.Naming.{ValuesBelow}
use Rattle.state_types.specs.Types.{TypeBelow}
use Rattle.state_types.specs.declared.state.StateType.{StateType}
use Rattle.state_types.specs.declared.types.Ty.{Ty}
use Rattle.state_types.proofs.Thens.{ok_same}
use Rattle.xanadu_tree.specs.declared.stmt.Clause.{Clause}
use Rattle.typed_core.specs.Joins.{stated}
use Rattle.typed_core.specs.Limits.{Walk}
use Rattle.typed_core.specs.SourceRuns.{Env}
use Rattle.typed_core.specs.SourceValues.{Blocks}
use Rattle.typed_core.specs.States.{Site, State, point}
use Rattle.typed_core.specs.Statements.{going_on, after_branches}
use Rattle.typed_core.proofs.Continued.{more_again}
use Rattle.typed_core.proofs.GrownContexts.{RowsBelow, rows_more}
use Rattle.typed_core.proofs.NamedStates.{types_more}
use Rattle.source_safety.specs.Values.{headers_of}
use Rattle.source_safety.specs.Standing.{GoalsHold, VariablesHold, Stands, Goes, Brings}
use Rattle.source_safety.proofs.BranchesMeet.{first_meets, second_meets}
use Rattle.source_safety.proofs.GoingOn.{going_stands}
use Rattle.source_safety.proofs.JoinsFare.{padded}

-- over more index variables, of which the run has met none: they are 0
pub later_goes : (site : Site) (env : Env) (here there : State) (assignment : List ℤ) (old new : Blocks) → here.ctx.vars ≤ there.ctx.vars → there.ctx.rows ≡ here.ctx.rows
    → there.types ≡ here.types → Goes site here env assignment old new → Goes site there env assignment old new
later_goes site env here there assignment old new le rows types g =
    let pad = padded site here env g.given there.ctx.vars new g.stands in
    let one_each = g.stands.one_each in
    let own = g.stands.own in
    record {
      given = pad.full;
      front = more_again assignment g.given pad.full g.front pad.front;
      stands = record {
        own = omega (arith, own, le);
        named = record {
          rows = subst (λ rs. RowsBelow there.ctx.vars rs) (sym rows) (rows_more here.ctx.vars there.ctx.vars here.ctx.rows le g.stands.named.rows);
          types = subst (λ (ts : List (ℕ × Ty)). All (λ e. TypeBelow there.ctx.vars e.1) ts) (sym types) (types_more here.ctx.vars there.ctx.vars here.types le g.stands.named.types);
        };
        one_each = pad.exact (omega (arith, one_each, le));
        hold = subst (λ rs. AllHold pad.full rs) (sym rows) pad.hold;
        typed = subst (λ (ts : List (ℕ × Ty)). VariablesHold env (headers_of new) pad.full ts) (sym types) pad.typed;
        holds = g.stands.holds;
      };
      keeps = g.keeps;
    }

-- ---- behind branches

module _ (site : Site) (at : ℕ) (join : Option Clause) (changed : ℕ → Truth) (st two end : State) (before env : Env) (base : List ℤ) (old new : Blocks) (le : st.ctx.vars ≤ two.ctx.vars)
    (within : end.ctx.vars ≤ two.ctx.vars) (listed : ValuesBelow two.ctx.vars two.naming) (stands : Stands site st before base old) (goes : Goes site end env base old new)
    (brings : Brings changed (stated join).vars st.types end.types) (more : State) (goals : GoalsHold more.goals) where
  alone : (let r : Walk State = Ok (going_on (point st) (point end) two) in r) ≡ Ok more → Goes site more env base old new
  alone e =
      subst (λ m. Goes site m env base old new) (ok_same (going_on (point st) (point end) two) more e)
      (going_stands site changed (stated join).vars st two end before env base old new le within stands goes brings)

module _ (site : Site) (at : ℕ) (changed : ℕ → Truth) (st two end : State) (before env : Env) (base : List ℤ) (old new : Blocks) (le : st.ctx.vars ≤ two.ctx.vars)
    (within : end.ctx.vars ≤ two.ctx.vars) (listed : ValuesBelow two.ctx.vars two.naming) (stands : Stands site st before base old) (goes : Goes site end env base old new)
    (more : State) (goals : GoalsHold more.goals) where
  -- where the first branch ends
  pub first_behind : (completes : Truth) (join : Option Clause) → Brings changed (stated join).vars st.types end.types
      → after_branches true completes join site at changed (point st) (point end) two ≡ Ok more → Goes site more env base old new
  unfolding after_branches
  first_behind false None brings e = alone site at None changed st two end before env base old new le within listed stands goes brings more goals e
  first_behind true None brings e =
      first_meets site at (stated None) changed st two end before env base old new le listed stands goes brings (point two) true more e goals
  first_behind false (Some clause) brings e =
      first_meets site at clause changed st two end before env base old new le listed stands goes brings (point two) false more e goals
  first_behind true (Some clause) brings e =
      first_meets site at clause changed st two end before env base old new le listed stands goes brings (point two) true more e goals

module _ (site : Site) (at : ℕ) (changed : ℕ → Truth) (st two : State) (one : StateType) (before env : Env) (base : List ℤ) (old new : Blocks) (le : st.ctx.vars ≤ two.ctx.vars)
    (listed : ValuesBelow two.ctx.vars two.naming) (stands : Stands site st before base old) (goes : Goes site two env base old new)
    (more : State) (goals : GoalsHold more.goals) where
  -- where the second does
  pub second_behind : (completes : Truth) (join : Option Clause) → Brings changed (stated join).vars st.types two.types
      → after_branches completes true join site at changed (point st) one two ≡ Ok more → Goes site more env base old new
  unfolding after_branches
  second_behind false None brings e = alone site at None changed st two two before env base old new le (omega arith) listed stands goes brings more goals e
  second_behind true None brings e = second_meets site at (stated None) changed st two two before env base old new le listed stands goes brings one true more e goals
  second_behind false (Some clause) brings e = second_meets site at clause changed st two two before env base old new le listed stands goes brings one false more e goals
  second_behind true (Some clause) brings e = second_meets site at clause changed st two two before env base old new le listed stands goes brings one true more e goals
