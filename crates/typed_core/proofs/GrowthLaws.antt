-- Growth, as laws say it.
use Rattle.std.proofs.Common.{◌≡◌, ℕ, ◌≤◌, false, Ok}
use Rattle.std.specs.List.{All}
use Rattle.state_types.specs.PlaceTypes.{type_at}
use Rattle.state_types.specs.Tables.{IsClosed}
use Rattle.state_types.specs.Types.{TypeBelow}
use Rattle.state_types.specs.declared.types.Ty.{Ty}
use Rattle.xanadu_tree.specs.Plain as core
use Rattle.typed_core.specs.Growth.{Later, Grown, SidesGrown, NamesSoFar, SidesNamed}
use Rattle.typed_core.specs.Joins.{changes_any}
use Rattle.typed_core.specs.Operands.{operand}
use Rattle.typed_core.specs.States.{Site, State}
use Rattle.typed_core.specs.Statements.{block}
use Rattle.typed_core.specs.Tests.{Sides, tested}
use Rattle.typed_core.proofs.GrownOperands.{operand_goes}
use Rattle.typed_core.proofs.GrownTests.{tested_goes}
use Rattle.typed_core.proofs.GrownStatements.{block_goes}
use Rattle.typed_core.proofs.NamedOperands.{operand_stays, tested_stays}
use Rattle.typed_core.proofs.NamedStates.{Typed, typed_on, answered}

pub expression_grows : (site : Site) (e : core.Expr) (st more : State) (t : Ty) → operand site e st ≡ Ok (t, more) → Grown st more
expression_grows site e st more t is = (answered (operand site e st) (t, more) (operand_goes site e st) is).grown

typed_so_far : (own : ℕ) (st : State) → own ≤ st.ctx.vars → NamesSoFar st → Typed own st
typed_so_far own st le names = record { own_vars = le; types = names.types }

pub expression_names : (site : Site) (e : core.Expr) (st more : State) (t : Ty) → All IsClosed site.table → site.own.vars ≤ st.ctx.vars → NamesSoFar st
    → operand site e st ≡ Ok (t, more) → NamesSoFar more × TypeBelow more.ctx.vars t
expression_names site e st more t closed le names is =
    let typed = typed_so_far site.own.vars st le names in
    let went = answered (operand site e st) (t, more) (operand_stays site closed e st typed) is in
    let grown = answered (operand site e st) (t, more) (operand_goes site e st) is in
    (record { rows = grown.named closed names.rows; types = (typed_on site.own.vars st more went.0 typed).types }, went.1)

pub test_grows : (site : Site) (test : core.Test) (st : State) (sides : Sides) → tested site test st ≡ Ok sides → SidesGrown st sides
test_grows site test st sides is = (answered (tested site test st) sides (tested_goes site test st) is).grown

pub test_names : (site : Site) (test : core.Test) (st : State) (sides : Sides) → All IsClosed site.table → site.own.vars ≤ st.ctx.vars → NamesSoFar st
    → tested site test st ≡ Ok sides → SidesNamed sides
test_names site test st sides closed le names is =
    let typed = typed_so_far site.own.vars st le names in
    let went = answered (tested site test st) sides (tested_stays site closed test st typed) is in
    let grown = answered (tested site test st) sides (tested_goes site test st) is in
    record {
      on_true = grown.on_true closed names.rows;
      on_false = grown.on_false closed names.rows;
      types = (typed_on site.own.vars st sides.after went typed).types;
    }

pub block_later : (site : Site) (ss : core.Stmts) (st more : State) → block site ss st ≡ Ok more → Later st more
block_later site ss st more is = (answered (block site ss st) more (block_goes site ss st) is).later

pub block_types : (site : Site) (ss : core.Stmts) (st more : State) (x : ℕ) → block site ss st ≡ Ok more → changes_any ss x ≡ false → type_at x more.types ≡ type_at x st.types
block_types site ss st more x is h = (answered (block site ss st) more (block_goes site ss st) is).types x h
