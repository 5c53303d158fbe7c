-- What is asked of the code of a statement, and of that of a block: from wherever it stands, it is typed between the states of elaboration.
use Rattle.std.proofs.Common.{◌≡◌, ℕ, Bool as Truth, List, ◌++◌, Ok}
use Rattle.state_types.specs.declared.state.StateType.{StateType}
use Rattle.value_lowering.specs.Frames.{Frame}
use Rattle.lowering.specs.StatementCode.{statement_code, statement_labels, block_code, block_labels}
use Rattle.xanadu_tree.specs.BodyRules.{Point, completes, completes_all, IsStatement, AreStatements}
use Rattle.xanadu_tree.specs.KindRules.{Setting}
use Rattle.xanadu_tree.specs.Plain as core
use Rattle.typed_core.specs.States.{State}
use Rattle.typed_core.specs.Statements as elaborated
use Rattle.type_carrier.specs.CarriedStatements as carried
use Rattle.type_carrier.specs.CarriedTests.{Labelled}
use Rattle.carrier_laws.proofs.ChainsTyped.{CodeAt}
use Rattle.carrier_laws.proofs.OperandsRun.{Walk}
use Rattle.carrier_laws.proofs.FragmentsTyped.{sources_of, AllAhead, Begins, Typed}
use Rattle.carrier_laws.proofs.PlacesKept.{Place}

pub record StatementTyped (w : Walk) (columns : List (List Truth)) (frame : Frame) (set : Setting) (s : core.Stmt) : Type 0 where
  pub is : (before after : Point) (p : ℕ) (t : StateType) (st : State) (l : Labelled) (coming : List ℕ) (more : State) → IsStatement set before s after → Place set w.site before st
      → Begins w p t st l (statement_labels s p ++ coming) → CodeAt w.body p (statement_code frame s p) → elaborated.statement w.site s st ≡ Ok more
      → AllAhead w more (carried.statement (sources_of w columns) s l)
      → Typed (completes s) w columns p t (statement_code frame s p) (statement_labels s p) l (carried.statement (sources_of w columns) s l) more coming

pub record BlockTyped (w : Walk) (columns : List (List Truth)) (frame : Frame) (set : Setting) (ss : core.Stmts) : Type 0 where
  pub is : (before after : Point) (p : ℕ) (t : StateType) (st : State) (l : Labelled) (coming : List ℕ) (more : State) → AreStatements set before ss after → Place set w.site before st
      → Begins w p t st l (block_labels ss p ++ coming) → CodeAt w.body p (block_code frame ss p) → elaborated.block w.site ss st ≡ Ok more
      → AllAhead w more (carried.block (sources_of w columns) ss l)
      → Typed (completes_all ss) w columns p t (block_code frame ss p) (block_labels ss p) l (carried.block (sources_of w columns) ss l) more coming
