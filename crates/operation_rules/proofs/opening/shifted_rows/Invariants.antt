use Rattle.std.proofs.Common.{◌≡◌, take, map, Ok}
use Rattle.state_types.specs.Unpacking.{shifted}
use Rattle.operation_rules.proofs.opening.shifted_rows.Given as goal

abbrev pub invariant-loop-row : goal.invariant-loop-row
invariant-loop-row l = l.made.items ≡ map (λ row. Ok (shifted l.first row)) (take l.row-index l.rows)
