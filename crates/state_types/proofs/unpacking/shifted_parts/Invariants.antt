use Rattle.std.proofs.Common.{◌≡◌, take, map}
use Rattle.state_types.specs.Unpacking.{shifted_type}
use Rattle.state_types.proofs.unpacking.shifted_parts.Given as goal

abbrev pub invariant-loop-part : goal.invariant-loop-part
invariant-loop-part l = l.made.items ≡ map (shifted_type l.first) (take l.part-index l.parts)
