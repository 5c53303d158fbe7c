-- The goals of a source that are to be listed, and the room that it takes to answer them.
use Rattle.std.specs.Prelude.{◌≡◌, ◌+◌, ◌≤◌, length, Result, Ok, Err}
use Rattle.xan_pool.specs.Pool.{Pool}
use Rattle.command_reports.specs.declared.answer.Answer.{Answer}
use Rattle.command_reports.specs.declared.listing.Listing.{Listing}
use Rattle.command_reports.specs.Report.{Found, Answered, Listed}

-- the pool has rows of 65 cells, and room for an elimination
pub record HasPool (pool : Pool) : Type 0 where
  pub width : pool.width ≡ 65
  pub room : length pool.rows + 4001 ≤ pool.capacity

abbrev pub HasRoom : Listing → Type 0
HasRoom listing = HasPool listing.work.pool

-- what a command comes to, before it is said
abbrev pub found_of : Result Listing Answer → Found
found_of (Ok listing) = Listed listing.base.made.goals
found_of (Err answer) = Answered answer
