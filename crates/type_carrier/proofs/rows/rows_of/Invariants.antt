use Rattle.std.proofs.Common.{◌≡◌, [], length}
use Rattle.type_carrier.specs.ProvedRows.{rows_onto}
use Rattle.type_carrier.specs.Views.{proofs_of}
use Rattle.type_carrier.proofs.rows.rows_of.Given as goal

abbrev pub invariant-numbers : goal.invariant-numbers
invariant-numbers l = rows_onto (proofs_of l.site) l.rest l.made.items ≡ rows_onto (proofs_of l.site) l.numbers []

abbrev pub decreases-numbers : goal.decreases-numbers
decreases-numbers l = length l.rest
