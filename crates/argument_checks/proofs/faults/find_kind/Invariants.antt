use Rattle.std.proofs.Common.{◌≡◌, ◌+◌, length}
use Rattle.operation_rules.specs.Entry.{kind_fault}
use Rattle.argument_checks.proofs.faults.find_kind.Given as goal

abbrev pub invariant-each : goal.invariant-each
invariant-each l = record {
  fault : kind_fault l.number l.args l.params ≡ kind_fault 1 l.fn.args l.fn.params;
  many : length l.args ≡ length l.params;
  count : l.number + length l.args ≡ 1 + length l.fn.args;
}

abbrev pub decreases-each : goal.decreases-each
decreases-each l = length l.args
