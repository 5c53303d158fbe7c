use Rattle.std.proofs.Common.{◌≡◌, ◌+◌, length}
use Rattle.std.specs.List.{All}
use Rattle.xan_lin.specs.Linear.{NamesBelow}
use Rattle.operation_rules.specs.Entry.{row_fault}
use Rattle.argument_checks.proofs.faults.find_row.Given as goal

abbrev pub invariant-each : goal.invariant-each
invariant-each l = record {
  fault : row_fault l.number l.values l.rows ≡ row_fault 1 l.values l.fn.rows;
  below : All (NamesBelow (length l.values)) l.rows;
  count : l.number + length l.rows ≡ 1 + length l.fn.rows;
}

abbrev pub decreases-each : goal.decreases-each
decreases-each l = length l.rows
