use Rattle.std.proofs.Common.{◌≡◌, length}
use Rattle.type_carrier.specs.ProvedRows.{row_among}
use Rattle.type_carrier.specs.Views.{proofs_of}
use Rattle.type_carrier.proofs.rows.push_among.Given as goal

abbrev pub invariant-numbers : goal.invariant-numbers
invariant-numbers l = record {
  same : row_among (proofs_of l.site) l.rest l.place l.row ≡ row_among (proofs_of l.site) l.numbers l.place l.row;
  made : l.made.items ≡ l.fn.made.items;
}

abbrev pub decreases-numbers : goal.decreases-numbers
decreases-numbers l = length l.rest
