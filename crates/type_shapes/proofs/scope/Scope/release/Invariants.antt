use Rattle.std.proofs.Common.{◌≡◌, ◌-◌, ◌≤◌, length, drop}
use Rattle.type_shapes.proofs.scope.Scope.release.Given as goal

abbrev pub invariant-loop : goal.invariant-loop
invariant-loop l = (l.counter - l.count ≤ length l.fn.self - l.count) × (l.self ≡ drop (l.counter - l.count) l.fn.self)
