use Rattle.std.proofs.Common.{◌≡◌, length}
use Rattle.std.specs.List.{list_all}
use Rattle.typed_core.specs.Strays as spec
use Rattle.header_elaborator.proofs.strays.types_below.Given as goal

abbrev pub invariant-loop-types : goal.invariant-loop-types
invariant-loop-types l = list_all (spec.type_below l.vars) l.types ≡ list_all (spec.type_below l.vars) l.fn.types

abbrev pub decreases-loop-types : goal.decreases-loop-types
decreases-loop-types l = length l.types
