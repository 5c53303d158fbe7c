use Rattle.std.proofs.Common.{◌≡◌, take, map}
use Rattle.xan_lin.specs.Subst.{subst_of}
use Rattle.operation_rules.proofs.calls.result_rows.Given as goal

abbrev pub invariant-loop-row : goal.invariant-loop-row
invariant-loop-row l = l.made.items ≡ map (subst_of l.values 0) (take l.row-index l.rows)
