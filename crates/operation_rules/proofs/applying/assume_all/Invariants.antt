use Rattle.std.proofs.Common.{◌≡◌, length}
use Rattle.std.specs.List.{All}
use Rattle.operation_rules.specs.Applied.{all_assuming}
use Rattle.operation_rules.specs.Named.{IsNamed}
use Rattle.operation_rules.proofs.applying.assume_all.Given as goal

abbrev pub invariant-loop-rows : goal.invariant-loop-rows
invariant-loop-rows l = (all_assuming l.rows l.ctx ≡ all_assuming l.fn.rows l.fn.ctx) × All (IsNamed l.ctx.vars) l.rows

abbrev pub decreases-loop-rows : goal.decreases-loop-rows
decreases-loop-rows l = length l.rows
