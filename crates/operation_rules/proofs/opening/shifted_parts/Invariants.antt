use Rattle.std.proofs.Common.{◌≡◌, take, map, Ok}
use Rattle.state_types.specs.Unpacking.{shifted_type}
use Rattle.operation_rules.proofs.opening.shifted_parts.Given as goal

abbrev pub invariant-loop-part : goal.invariant-loop-part
invariant-loop-part l = l.made.items ≡ map (λ part. Ok (shifted_type l.first part)) (take l.part-index l.parts)
