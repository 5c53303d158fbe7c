use Rattle.expression_shapes.proofs.FollowingParts.{count-is}
use Rattle.expression_shapes.proofs.expressions.count.Goals as goal

pub returns : goal.returns
returns c = count-is c.args.given.now
