use Rattle.std.proofs.Common.{◌≡◌, length, []}
use Rattle.typed_core.specs.Forms.{types_from}
use Rattle.header_elaborator.proofs.forms.types_from.Given as goal

abbrev pub invariant-loop-types : goal.invariant-loop-types
invariant-loop-types l = types_from l.types l.made.items ≡ types_from l.fn.types []

abbrev pub decreases-loop-types : goal.decreases-loop-types
decreases-loop-types l = length l.types
