use Rattle.std.proofs.Common.{◌≡◌, ◌-◌, ◌≤◌, ◌++◌, length}
use Rattle.operation_rules.specs.Entry.{variable_values}
use Rattle.argument_checks.proofs.faults.variable_values.Given as goal

abbrev pub invariant-each : goal.invariant-each
invariant-each l = record {
  values : l.values.items ++ variable_values l.var (l.vars - l.var) l.args l.params ≡ variable_values 0 l.vars l.args l.params;
  count : length l.values.items ≡ l.var;
  within : l.var ≤ l.vars;
}

abbrev pub decreases-each : goal.decreases-each
decreases-each l = l.vars - l.var
