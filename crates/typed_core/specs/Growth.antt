-- How a state grows along a walk.
use Rattle.std.specs.Prelude.{◌≡◌, ◌≤◌, List, ◌++◌}
use Rattle.std.specs.List.{All}
use Rattle.xan_lin.specs.Linear.{NamesBelow}
use Rattle.state_types.specs.Types.{TypeBelow}
use Rattle.typed_core.specs.States.{State}
use Rattle.typed_core.specs.Tests.{Sides}

-- the second list begins with the first
pub record Continues {A : Type 0} (before more : List A) : Type 0 where
  pub rest : List A
  pub is : more ≡ before ++ rest

-- Whichever way control takes, index variables, names of those of clauses, goals and notes only become more.
pub record Later (before more : State) : Type 0 where
  pub vars : before.ctx.vars ≤ more.ctx.vars
  pub naming : Continues before.naming more.naming
  pub goals : Continues before.goals more.goals
  pub notes : Continues before.notes more.notes

-- Along an expression rows only become more too, and types and names are as before.
pub record Grown (before more : State) : Type 0 where
  pub later : Later before more
  pub rows : Continues before.ctx.rows more.ctx.rows
  pub types : more.types ≡ before.types
  pub naming : more.naming ≡ before.naming

-- So it is along a test, on each of its sides.
pub record SidesGrown (before : State) (sides : Sides) : Type 0 where
  pub later : Later before sides.after
  pub on_true : Continues before.ctx.rows sides.on_true
  pub on_false : Continues before.ctx.rows sides.on_false
  pub types : sides.after.types ≡ before.types
  pub naming : sides.after.naming ≡ before.naming

-- ---- what is named

-- rows and types name only index variables so far
pub record NamesSoFar (st : State) : Type 0 where
  pub rows : All (NamesBelow st.ctx.vars) st.ctx.rows
  pub types : All (λ e. TypeBelow st.ctx.vars e.1) st.types

pub record SidesNamed (sides : Sides) : Type 0 where
  pub on_true : All (NamesBelow sides.after.ctx.vars) sides.on_true
  pub on_false : All (NamesBelow sides.after.ctx.vars) sides.on_false
  pub types : All (λ e. TypeBelow sides.after.ctx.vars e.1) sides.after.types
