use Rattle.std.proofs.Common.{arith, sym}
use Rattle.expression_shapes.proofs.FollowingParts.{has_index-some}
use Rattle.expression_shapes.proofs.places.has_index.Goals as goal

pub returns-in-len1-up : goal.returns-in-len1-up
returns-in-len1-up c = sym (has_index-some c.args.indices.now (omega arith))
