use Rattle.std.proofs.Common.{◌≡◌, ◌++◌, ◌+◌, ◌-◌}
use Rattle.operation_rules.specs.Forms.{variables_from}
use Rattle.header_elaborator.proofs.forms.push_variables.Given as goal

abbrev pub invariant-loop-turn : goal.invariant-loop-turn
invariant-loop-turn l = l.values.items ++ variables_from (l.number + l.turn) (l.first + l.turn) (l.count - l.turn) ≡ l.fn.values.items ++ variables_from l.number l.first l.count
