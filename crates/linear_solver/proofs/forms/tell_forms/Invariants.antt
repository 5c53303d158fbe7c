use Rattle.std.specs.List.{AllWithin}
use Rattle.xan_lin.specs.Linear.{IsForm}
use Rattle.linear_solver.proofs.forms.tell_forms.Given as goal

abbrev pub invariant-rows : goal.invariant-rows
invariant-rows l = AllWithin IsForm l.rows 0 l.row-index
