use Rattle.std.proofs.Common.{arith, sym}
use Rattle.expression_shapes.proofs.FollowingParts.{has_factor-some}
use Rattle.expression_shapes.proofs.places.has_factor.Goals as goal

pub returns-in-len1-up : goal.returns-in-len1-up
returns-in-len1-up c = sym (has_factor-some c.args.rest.now (omega arith))
