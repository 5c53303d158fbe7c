use Rattle.std.proofs.Common.{arith, sym}
use Rattle.expression_shapes.proofs.FollowingParts.{has_negation-some}
use Rattle.expression_shapes.proofs.places.has_negation.Goals as goal

pub returns-in-len1-up : goal.returns-in-len1-up
returns-in-len1-up c = sym (has_negation-some c.args.rest.now (omega arith))
