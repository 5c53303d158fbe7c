use Rattle.std.proofs.Common.{◌≡◌, length}
use Rattle.type_shapes.specs.Quantifiers.{unindexed}
use Rattle.type_shapes.specs.FrameOf.{frame_of}
use Rattle.type_shapes.proofs.frame.Frame.unindexed.Given as goal

abbrev pub invariant-loop-binders : goal.invariant-loop-binders
invariant-loop-binders l = unindexed l.binders l.number (frame_of l.self).indices ≡ unindexed l.fn.binders l.self.first (frame_of l.self).indices

abbrev pub decreases-loop-binders : goal.decreases-loop-binders
decreases-loop-binders l = length l.binders
