use Rattle.std.proofs.Common.{arith, sym}
use Rattle.expression_shapes.proofs.FollowingParts.{has_conjunction-some}
use Rattle.expression_shapes.proofs.places.has_conjunction.Goals as goal

pub returns-in-len1-up : goal.returns-in-len1-up
returns-in-len1-up c = sym (has_conjunction-some c.args.rest.now (omega arith))
