use Rattle.std.proofs.Common.{◌≡◌, ◌+◌, ◌≤◌, length, ℕ, List}
use Rattle.xan_read.specs.Names.{run}
use Rattle.xan_read.proofs.names.run_len.Given as goal

pub record Running (len : ℕ) (rest bytes : List ℕ) : Type 0 where
  pub so_far : len + length (run rest).0 ≡ length (run bytes).0
  pub within : len + length rest ≤ length bytes

abbrev pub invariant-run : goal.invariant-run
invariant-run l = Running l.len l.rest l.fn.bytes

abbrev pub decreases-run : goal.decreases-run
decreases-run l = length l.rest
