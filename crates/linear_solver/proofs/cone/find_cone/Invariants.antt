use Rattle.std.proofs.Common.{◌≡◌, ◌-◌, length}
use Rattle.linear_solver.specs.Cone.{reached_in, cone}
use Rattle.linear_solver.proofs.cone.find_cone.Given as goal

abbrev pub invariant-walks : goal.invariant-walks
invariant-walks l = reached_in (length l.hyps - l._walk) l.found l.hyps ≡ cone l.hyps l.start
