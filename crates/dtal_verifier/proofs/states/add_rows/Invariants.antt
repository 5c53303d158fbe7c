use Rattle.std.proofs.Common.{◌≡◌, length, map, All, Ok}
use Rattle.operation_rules.specs.Applied.{all_assuming}
use Rattle.xan_lin.specs.Linear.{NamesBelow}
use Rattle.dtal_verifier.proofs.states.add_rows.Given as goal

abbrev pub invariant-loop-rows : goal.invariant-loop-rows
invariant-loop-rows l = (all_assuming (map Ok l.rows) l.ctx ≡ all_assuming (map Ok l.fn.rows) l.fn.ctx) × All (NamesBelow l.ctx.vars) l.rows × (l.ctx.vars ≡ l.fn.ctx.vars)

abbrev pub decreases-loop-rows : goal.decreases-loop-rows
decreases-loop-rows l = length l.rows
