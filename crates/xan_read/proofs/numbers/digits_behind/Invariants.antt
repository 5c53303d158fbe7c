-- The digits that are left are still to be read behind the value so far.
use Rattle.std.proofs.Common.{◌≡◌, ◌<◌, ℕ, List, length}
use Rattle.xan_read.specs.Numbers.{digits_behind}
use Rattle.xan_read.proofs.numbers.digits_behind.Given as goal

pub record Reading (low high first value : ℕ) (bytes rest : List ℕ) : Type 0 where
  pub positive : 0 < value
  pub still : digits_behind low high value rest ≡ digits_behind low high first bytes

abbrev pub invariant-digits : goal.invariant-digits
invariant-digits l = Reading l.fn.low l.fn.high l.fn.first l.value l.fn.bytes l.rest

abbrev pub decreases-digits : goal.decreases-digits
decreases-digits l = length l.rest
