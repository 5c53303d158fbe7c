use Rattle.std.proofs.Common.{◌≡◌, length}
use Rattle.type_carrier.specs.ProvedRows.{rows_among}
use Rattle.type_carrier.specs.Views.{proofs_of}
use Rattle.type_carrier.proofs.rows.push_all_among.Given as goal

abbrev pub invariant-rows : goal.invariant-rows
invariant-rows l =
    rows_among (proofs_of l.site) l.numbers l.place l.rest l.made.items ≡ rows_among (proofs_of l.site) l.numbers l.place l.rows l.fn.made.items

abbrev pub decreases-rows : goal.decreases-rows
decreases-rows l = length l.rest
