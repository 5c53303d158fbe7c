use Rattle.source_evaluator.specs.Views.{state_of}
use Rattle.source_evaluator.proofs.Firsts.{first_begun}
use Rattle.source_evaluator.proofs.statements.begin_block.Goals as goal

pub returns : goal.returns
returns c =
    first_begun c.args.statements.now c.statement-item.result (state_of c.args.m.now) (state_of c.push_block.new.m) (state_of c.begin.new.m)
    c.in-len1-up.len_at_least c.statement-item.is c.in_ok-push_block.ensures c.in_ok-begin.ensures
