-- Live positions of one place, as marks: passes over the code from its end, each of which marks positions in place, until one marks none.
use Rattle.std.specs.Prelude.{◌≡◌, ℕ, zero, suc, Bool, true, false, not, ◌&&◌, ◌||◌, List, length, Option, Some, None, slice_get, slice_set}
use Rattle.three_address.specs.LiveTables.{has}
use Rattle.three_address.specs.Liveness.{Live}
use Rattle.three_address.specs.Splits.{Parts, parts_of, marked, leads_by}
use Rattle.three_address.specs.declared.function.LowFun.{LowFun}
use Rattle.three_address.specs.declared.instruction.LowInstr.{LowInstr}

-- a mark for each position, at those where the place is live
pub record AreLive (fun : LowFun) (place : ℕ) (marks : List Bool) : Type 0 where
  pub each : length marks ≡ length fun.code
  pub live : (at : ℕ) → marked marks at ≡ true → Live fun at place
  pub all : (at : ℕ) → Live fun at place → marked marks at ≡ true

-- ---- one position

-- by its parts, and whether some position to which it leads is marked
abbrev pub lives_by : Option Parts → (place : ℕ) → (leads : Bool) → Bool
lives_by None place leads = false
lives_by (Some parts) place leads = has parts.1 place || (not (has parts.0 place) && leads)

abbrev pub lives_in : Option LowInstr → (labels : List ℕ) → (place : ℕ) → List Bool → (at : ℕ) → Bool
lives_in None labels place marks at = false
lives_in (Some i) labels place marks at = lives_by (parts_of i) place (leads_by i.op marks labels i.target at)

-- whether the place is live there, by what is marked
unfoldable pub place_lives : LowFun → (place : ℕ) → List Bool → (at : ℕ) → Bool
place_lives fun place marks at = lives_in (slice_get fun.code at) fun.labels place marks at

-- ---- a pass

-- the marks, and whether there are more than at the start
pub record Pass : Type 0 where
  pub marks : List Bool
  pub more : Bool

abbrev pub marking : (lives stands : Bool) → (at : ℕ) → Pass → Pass
marking true false at pass = record { marks = slice_set pass.marks at true; more = true }
marking true true at pass = pass
marking false stands at pass = pass

abbrev pub visited : LowFun → (place at : ℕ) → Pass → Pass
visited fun place at pass = marking (place_lives fun place pass.marks at) (marked pass.marks at) at pass

-- the positions below a number, the last one first
unfoldable pub passed : LowFun → (place below : ℕ) → Pass → Pass
passed fun place zero pass = pass
passed fun place (suc at) pass = passed fun place at (visited fun place at pass)

abbrev pub one_pass : LowFun → (place : ℕ) → List Bool → Pass
one_pass fun place marks = passed fun place (length fun.code) (record { marks = marks; more = false })
