use Rattle.std.proofs.Common.{◌≡◌, length}
use Rattle.type_shapes.specs.FrameOf.{frame_of}
use Rattle.type_shapes.specs.Quantifiers.{bind, empty_frame}
use Rattle.type_shapes.proofs.frame.bind.Given as goal

abbrev pub invariant-loop-binders : goal.invariant-loop-binders
invariant-loop-binders l = bind l.binders (frame_of l.frame) l.scope ≡ bind l.fn.binders (empty_frame l.fn.first) l.fn.scope

abbrev pub decreases-loop-binders : goal.decreases-loop-binders
decreases-loop-binders l = length l.binders
