-- How far a run has come: what it has printed, and how it stands. Said of a source program and of a machine alike.
use Rattle.std.specs.Prelude.{◌≢◌, ℤ, List}

-- Running: the units of fuel, or the steps, that were given did not bring it to an end.
pub data How : Type 0 where
  Returned : (word : ℤ) → How
  NoStore : How
  Overflow : How
  Stuck : How
  Running : How

pub record Outcome : Type 0 where
  pub printed : List ℤ
  pub how : How

-- it has ended, in whichever way
abbrev pub IsOver : How → Type 0
IsOver how = how ≢ Running
