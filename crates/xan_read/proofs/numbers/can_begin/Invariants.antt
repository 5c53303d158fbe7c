-- The numbers with more digits are still to be tested, and the test of all is that of those.
use Rattle.std.proofs.Common.{◌≡◌, ◌-◌, ◌<◌, ◌≤◌, ℕ}
use Rattle.xan_read.specs.Numbers.{some_within, can_begin}
use Rattle.xan_read.proofs.numbers.can_begin.Given as goal

pub record Tested (low high value counter from width : ℕ) : Type 0 where
  pub some : 0 < width
  pub few : width ≤ from
  pub still : some_within (20 - counter) low high from width ≡ can_begin low high value

abbrev pub invariant-loop : goal.invariant-loop
invariant-loop l = Tested l.low l.high l.value l.counter l.from l.width
