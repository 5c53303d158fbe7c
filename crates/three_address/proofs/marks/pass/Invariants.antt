use Rattle.std.proofs.Common.{◌≡◌, ◌≤◌, length}
use Rattle.three_address.specs.PlaceLives.{one_pass, passed}
use Rattle.three_address.proofs.marks.pass.Given as goal

abbrev pub invariant-positions : goal.invariant-positions
invariant-positions l = record {
  within : l.at ≤ length l.fun.code;
  long : length l.marks.items ≡ length l.fun.code;
  same : passed l.fun l.place l.at (record { marks = l.marks.items; more = l.more }) ≡ one_pass l.fun l.place l.fn.marks.items;
}

abbrev pub decreases-positions : goal.decreases-positions
decreases-positions l = l.at
