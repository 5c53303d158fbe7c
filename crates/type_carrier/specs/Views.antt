-- How the code's values are seen.
use Rattle.type_carrier.specs.ProvedRows.{Proofs}
use Rattle.type_carrier.specs.CarriedTests.{Sources}
use Rattle.type_carrier.specs.declared.site.Site.{Site}

abbrev pub proofs_of : Site → Proofs
proofs_of site = record { goals = site.goals.now; lines = site.lines.now }

abbrev pub sources_of : Site → Sources
sources_of site = record { proofs = proofs_of site; columns = site.columns.now }
