use Rattle.std.proofs.Common.{arith, sym}
use Rattle.expression_shapes.proofs.FollowingParts.{has_addend-some}
use Rattle.expression_shapes.proofs.places.has_addend.Goals as goal

pub returns-in-len1-up : goal.returns-in-len1-up
returns-in-len1-up c = sym (has_addend-some c.args.rest.now (omega arith))
