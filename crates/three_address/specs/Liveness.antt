-- Which places are live: a later instruction may read what they hold now.
use Rattle.std.specs.Prelude.{ℕ}
use Rattle.std.specs.List.{Contains}
use Rattle.three_address.specs.Flow.{reads_at, writes_at, ways_from}
use Rattle.three_address.specs.declared.function.LowFun.{LowFun}

-- A place is live before the instruction at a position where that reads it, or where it is live at a position that comes next and is not
-- written between.
pub data Live (fun : LowFun) : (at place : ℕ) → Type 0 where
  Read : (at place : ℕ) → Contains (reads_at fun at) place → Live fun at place
  Kept : (at next place : ℕ) → Contains (ways_from fun at) next → ¬ (Contains (writes_at fun at) place) → Live fun next place → Live fun at place
