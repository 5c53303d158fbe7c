use Rattle.std.proofs.Common.{◌≡◌, [], length}
use Rattle.type_carrier.specs.ProvedRows.{way}
use Rattle.type_carrier.specs.Views.{proofs_of}
use Rattle.type_carrier.specs.Ways.{places_by}
use Rattle.type_carrier.proofs.ways.places_by.Given as goal

abbrev pub invariant-places : goal.invariant-places
invariant-places l =
    places_by (proofs_of l.site) l.vars (way l.values l.present l.numbers) l.below l.rest l.made.items
    ≡ places_by (proofs_of l.site) l.vars (way l.values l.present l.numbers) l.below l.entries []

abbrev pub decreases-places : goal.decreases-places
decreases-places l = length l.rest
