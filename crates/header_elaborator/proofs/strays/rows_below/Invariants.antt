use Rattle.std.proofs.Common.{◌≡◌, length}
use Rattle.std.specs.List.{list_all}
use Rattle.typed_core.specs.Strays as spec
use Rattle.header_elaborator.proofs.strays.rows_below.Given as goal

abbrev pub invariant-loop-rows : goal.invariant-loop-rows
invariant-loop-rows l = list_all (spec.row_below l.vars) l.rows ≡ list_all (spec.row_below l.vars) l.fn.rows

abbrev pub decreases-loop-rows : goal.decreases-loop-rows
decreases-loop-rows l = length l.rows
