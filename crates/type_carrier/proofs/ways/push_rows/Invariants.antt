use Rattle.std.proofs.Common.{◌≡◌, length}
use Rattle.type_carrier.specs.ProvedRows.{way}
use Rattle.type_carrier.specs.Views.{proofs_of}
use Rattle.type_carrier.specs.Ways.{rows_by}
use Rattle.type_carrier.proofs.ways.push_rows.Given as goal

abbrev pub invariant-rows : goal.invariant-rows
invariant-rows l =
    rows_by (proofs_of l.site) (way l.values l.present l.numbers) l.below l.rest l.made.items
    ≡ rows_by (proofs_of l.site) (way l.values l.present l.numbers) l.below l.own l.fn.made.items

abbrev pub decreases-rows : goal.decreases-rows
decreases-rows l = length l.rest
