use Rattle.std.proofs.Common.{◌≡◌, length}
use Rattle.operation_rules.specs.Entry.{variable_value}
use Rattle.argument_checks.proofs.faults.variable_value.Given as goal

abbrev pub invariant-each : goal.invariant-each
invariant-each l = variable_value l.var l.args l.params ≡ variable_value l.var l.fn.args l.fn.params

abbrev pub decreases-each : goal.decreases-each
decreases-each l = length l.args
