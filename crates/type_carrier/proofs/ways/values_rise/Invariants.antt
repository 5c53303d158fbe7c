use Rattle.std.proofs.Common.{◌≡◌, length}
use Rattle.typed_core.specs.Strays.{values_rise}
use Rattle.type_carrier.proofs.ways.values_rise.Given as goal

abbrev pub invariant-values : goal.invariant-values
invariant-values l = values_rise l.low l.rest ≡ values_rise 0 l.values

abbrev pub decreases-values : goal.decreases-values
decreases-values l = length l.rest
