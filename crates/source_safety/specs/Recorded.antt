-- What a run records of the statements that it reaches, each of which is named by where it stands, and what is known there.
use Rattle.std.specs.Prelude.{◌≡◌, ◌⊎◌, ℕ, suc, ℤ, List, [], ◌∷◌, slice_get, Some, Ok, Err}
use Rattle.state_types.specs.declared.closed.Signature.{Signature}
use Rattle.xanadu_tree.specs.Plain as core
use Rattle.typed_core.specs.Goals.{Elaboration}
use Rattle.typed_core.specs.Joins.{Joint, changes_any, stated, joined, entered}
use Rattle.typed_core.specs.Segments.{IsFunctionSegment}
use Rattle.typed_core.specs.SourceRuns.{Answer, Env, Place, Recorder}
use Rattle.typed_core.specs.SourceValues.{Blocks}
use Rattle.typed_core.specs.States.{Site, State, point}
use Rattle.typed_core.specs.Statements.{statement, block, other_branch}
use Rattle.typed_core.specs.Tests.{Sides, tested, on_side}
use Rattle.source_safety.specs.Standing.{Stands}

-- ---- logs

-- a statement that was reached, with what stood there
pub record Reach : Type 0 where
  pub fun : ℕ
  pub place : Place
  pub env : Env
  pub store : Blocks

-- each statement that is reached, the last one first
abbrev pub every_statement : Recorder (List Reach)
every_statement fun place env store log = record { fun = fun; place = place; env = env; store = store } ∷ log

-- the log of an answer, also where it is an end
abbrev pub log_of : {L A : Type 0} → Answer L A → L
log_of (Ok done) = done.1.log
log_of (Err end) = end.run.log

-- ---- where a statement stands

unfoldable mutual
  -- The statement of a place stands in the block, whose statements from this number on are these, or within one of them, and this state is elaborated
  -- in front of it. A place is read innermost first, as a run names it.
  pub StandsAt : Site → (outer : Place) → (number : ℕ) → core.Stmts → State → Place → (reached : core.Stmt) → (there : State) → Type 0
  StandsAt site outer number core.NoStmt st place reached there = ⊥
  StandsAt site outer number (core.AStmt s ss) st place reached there =
      ((place ≡ number ∷ outer) × (reached ≡ s) × (there ≡ st))
      ⊎ (StandsInside site (number ∷ outer) s st place reached there
      ⊎ ((more : State) × (statement site s st ≡ Ok more) × StandsAt site outer (suc number) ss more place reached there))

  pub StandsInside : Site → (own : Place) → core.Stmt → State → Place → (reached : core.Stmt) → (there : State) → Type 0
  StandsInside site own (core.Set x e) st place reached there = ⊥
  StandsInside site own (core.Split xs e at) st place reached there = ⊥
  StandsInside site own (core.Store array index e at) st place reached there = ⊥
  StandsInside site own (core.Do call) st place reached there = ⊥
  StandsInside site own (core.Print e) st place reached there = ⊥
  StandsInside site own (core.If test on_true on_false join at) st place reached there =
      (sides : Sides) × (tested site test st ≡ Ok sides)
      × (StandsAt site (0 ∷ own) 0 on_true (on_side sides.on_true sides.after) place reached there
      ⊎ ((one : State) × (block site on_true (on_side sides.on_true sides.after) ≡ Ok one)
      × StandsAt site (1 ∷ own) 0 on_false (other_branch sides.on_false st one) place reached there))
  StandsInside site own (core.While test head body at) st place reached there =
      (joint : Joint) × (start : State) × (begun : State) × (sides : Sides)
      × (joined site (stated head) (changes_any body) (point st) st ≡ Ok (joint, start)) × (entered site at joint (point st) start ≡ Ok begun)
      × (tested site test begun ≡ Ok sides) × StandsAt site (0 ∷ own) 0 body (on_side sides.on_true sides.after) place reached there
  StandsInside site own (core.Return value at) st place reached there = ⊥

-- ---- what is known there

abbrev pub site_of : Elaboration → (fun : ℕ) → Signature → Site
site_of made fun own = record { table = made.table; sigs = made.sigs; fun = fun; own = own }

-- Some statement of the function stands at the place, and the run stands at the state that is elaborated in front of it: under some assignment its rows
-- hold and each visible variable has a value of its type.
pub record IsReached (program : core.Program) (made : Elaboration) (reach : Reach) : Type 0 where
  pub f : core.Fun
  pub function : slice_get program.funs reach.fun ≡ Some f
  pub segment : IsFunctionSegment program made reach.fun f
  pub reached : core.Stmt
  pub there : State
  pub place : StandsAt (site_of made reach.fun segment.own) [] 0 f.body segment.start reach.place reached there
  pub assignment : List ℤ
  pub stands : Stands (site_of made reach.fun segment.own) there reach.env assignment reach.store
