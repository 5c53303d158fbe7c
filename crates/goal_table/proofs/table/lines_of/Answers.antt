use Rattle.std.proofs.Common.{◌∙◌}
use Rattle.goal_table.proofs.GoalFacts.{meant_by}
use Rattle.goal_table.proofs.table.lines_of.Goals as goal

pub returns-in-Ok : goal.returns-in-Ok
returns-in-Ok c = meant_by c.args.goal.now c.args.buf.now c.steps-few.result.now c.from_vec.result (c.from_vec.ensures ∙ c.in-Ok.ensures) c.steps-few.ensures.steps c.steps-few.ensures.few
