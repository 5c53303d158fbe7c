use Rattle.std.proofs.Common.{◌≡◌, length}
use Rattle.type_shapes.specs.Headers.{binder_names}
use Rattle.type_shapes.proofs.names.add_binder_names.Given as goal

abbrev pub invariant-loop-binders : goal.invariant-loop-binders
invariant-loop-binders l = binder_names l.binders l.number l.scope ≡ binder_names l.fn.binders 0 l.fn.scope

abbrev pub decreases-loop-binders : goal.decreases-loop-binders
decreases-loop-binders l = length l.binders
