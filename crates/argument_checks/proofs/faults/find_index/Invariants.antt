use Rattle.std.proofs.Common.{◌≡◌, ◌+◌, length}
use Rattle.operation_rules.specs.Entry.{index_fault}
use Rattle.std.specs.List.{All}
use Rattle.state_types.specs.Types.{TypeBelow}
use Rattle.argument_checks.proofs.faults.find_index.Given as goal

abbrev pub invariant-each : goal.invariant-each
invariant-each l = record {
  fault : index_fault l.number l.values l.args l.params ≡ index_fault 1 l.values l.fn.args l.fn.params;
  many : length l.args ≡ length l.params;
  below : All (TypeBelow (length l.values)) l.params;
  count : l.number + length l.args ≡ 1 + length l.fn.args;
}

abbrev pub decreases-each : goal.decreases-each
decreases-each l = length l.args
