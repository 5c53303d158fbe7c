-- What is left of the literal is still to be read from what is left of the bytes.
use Rattle.std.proofs.Common.{◌≡◌, length}
use Rattle.xan_read.specs.Combinators.{literal}
use Rattle.xan_read.proofs.literals.literal.Given as goal

abbrev pub invariant-loop-wanted : goal.invariant-loop-wanted
invariant-loop-wanted l = literal l.wanted l.rest ≡ literal l.fn.text l.fn.bytes

abbrev pub decreases-loop-wanted : goal.decreases-loop-wanted
decreases-loop-wanted l = length l.wanted
