use Rattle.std.proofs.Common.{◌≡◌, ◌++◌, None, length}
use Rattle.dtal_emit.specs.Emitted.{blocks_from}
use Rattle.dtal_emit.proofs.blocks.blocks_of.Given as goal

abbrev pub invariant-labels : goal.invariant-labels
invariant-labels l = l.blocks.items ++ blocks_from l.homes l.at l.state l.nexts l.states l.code_left l.edges_left l.front.items
    ≡ blocks_from l.homes 0 None l.positions l.labels l.code l.edges l.fn.front.items

abbrev pub decreases-labels : goal.decreases-labels
decreases-labels l = length l.nexts
