-- When rows entail a row: over all integers, and with no word on how it is found out.
use Rattle.std.specs.Prelude.{ℤ, List}
use Rattle.std.specs.List.{All}
use Rattle.xan_lin.specs.Linear.{Linear}
use Rattle.xan_lin.specs.Value.{Holds}

-- each of the rows holds under the assignment
abbrev pub AllHold : List ℤ → List Linear → Type 0
AllHold values rows = All (Holds values) rows

-- every assignment under which all the rows hold makes the goal hold
pub record Entails (rows : List Linear) (goal : Linear) : Type 0 where
  pub follows : (values : List ℤ) → AllHold values rows → Holds values goal
