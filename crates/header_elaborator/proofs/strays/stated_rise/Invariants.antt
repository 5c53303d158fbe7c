use Rattle.std.proofs.Common.{◌≡◌, length}
use Rattle.std.specs.List.{list_all}
use Rattle.typed_core.specs.Strays as spec
use Rattle.header_elaborator.proofs.strays.stated_rise.Given as goal

abbrev pub invariant-loop-stated : goal.invariant-loop-stated
invariant-loop-stated l = list_all (λ s. spec.type_rises s.1) l.stated ≡ list_all (λ s. spec.type_rises s.1) l.fn.stated

abbrev pub decreases-loop-stated : goal.decreases-loop-stated
decreases-loop-stated l = length l.stated
