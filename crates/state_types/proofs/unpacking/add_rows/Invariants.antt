use Rattle.std.proofs.Common.{◌≡◌, ◌+◌, take, map, Ok}
use Rattle.state_types.specs.Unpacking.{shifted, with_rows}
use Rattle.state_types.proofs.unpacking.add_rows.Given as goal

abbrev pub invariant-loop-row : goal.invariant-loop-row
invariant-loop-row l = (with_rows l.fn.ctx (take l.row-index (map (shifted l.first) l.rows)) ≡ Ok l.ctx) × (l.ctx.vars ≡ l.first + l.vars)
