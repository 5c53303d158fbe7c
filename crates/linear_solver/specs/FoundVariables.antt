-- The variables that were found, and the map of those that are among them: no part of the promise.
use Rattle.std.specs.Prelude.{◌≡◌, ℕ, ◌<◌, ◌≤◌, ◌==◌, ◌||◌, Bool, false, List, vec_capacity}
use Rattle.std.specs.List.{slice_index_or}
use Rattle.proof_lines.specs.Variables.{is_among}
use Rattle.linear_solver.specs.declared.found.Found.TheInside.{Inside}

-- the map tells of each variable of a context whether it is among them
abbrev pub AreMapped : List ℕ → List Bool → Type 0
AreMapped vars map = (var : ℕ) → var < 1024 → slice_index_or map var false ≡ is_among var vars

-- one variable more is marked
abbrev pub AreMarked : List Bool → ℕ → List Bool → Type 0
AreMarked old var new = (other : ℕ) → other < 1024 → slice_index_or new other false ≡ (slice_index_or old other false || (var == other))

-- and there is room for the variables of 512 rows of 16 terms and of 64 variables
pub record IsFound (found : Inside) : Type 0 where
  pub mapped : AreMapped found.vars.items found.map
  pub room : 8272 ≤ vec_capacity found.vars
