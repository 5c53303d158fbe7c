use Rattle.std.proofs.Common.{rules, ◌∙◌}
use Rattle.dtal_verifier.proofs.AloneTurns.{alone_turn}
use Rattle.dtal_verifier.proofs.alone.are_alone.Goals as goal

pub loop-left-preserved : goal.loop-left-preserved
loop-left-preserved c = (alone_turn c.loop-left.var c.loop-left.left c.args.types.now (search rules) (search rules) ∙ c.loop-left.invariant.0, search rules)
