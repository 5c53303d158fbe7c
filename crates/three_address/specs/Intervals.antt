-- For how long a place has to keep its word, and which functions have more words to keep at once than there are registers.
use Rattle.std.specs.Prelude.{ℕ, ◌<◌, ◌≤◌, List, length}
use Rattle.std.specs.List.{All, Contains}
use Rattle.three_address.specs.Flow.{writes_at}
use Rattle.three_address.specs.Instructions.{AreDifferent}
use Rattle.three_address.specs.Liveness.{Live}
use Rattle.three_address.specs.declared.assignment.TheConstants.{REGISTERS}
use Rattle.three_address.specs.declared.function.LowFun.{LowFun}

-- the place is live before the instruction at a position, or written there; a parameter holds its word from the start
pub data Held (fun : LowFun) : (place at : ℕ) → Type 0 where
  IsLive : (place at : ℕ) → Live fun at place → Held fun place at
  IsWritten : (place at : ℕ) → Contains (writes_at fun at) place → Held fun place at
  IsParameter : (place : ℕ) → place < length fun.sig.params → Held fun place 0

-- the least range of positions that has all of these
pub record IsInterval (fun : LowFun) (place first last : ℕ) : Type 0 where
  pub first_held : Held fun place first
  pub last_held : Held fun place last
  pub within : (at : ℕ) → Held fun place at → (first ≤ at) × (at ≤ last)

-- the position is in the place's interval
pub record Covers (fun : LowFun) (at place : ℕ) : Type 0 where
  pub first : ℕ
  pub last : ℕ
  pub interval : IsInterval fun place first last
  pub behind : first ≤ at
  pub before : at ≤ last

-- at some position more intervals overlap than there are registers
pub record NeedsSlots (fun : LowFun) : Type 0 where
  pub at : ℕ
  pub places : List ℕ
  pub differ : AreDifferent places
  pub cover : All (Covers fun at) places
  pub many : REGISTERS < length places
