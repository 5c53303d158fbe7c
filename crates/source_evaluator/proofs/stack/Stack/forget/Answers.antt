use Rattle.source_evaluator.proofs.Stacks.{kept_seen}
use Rattle.source_evaluator.proofs.stack.Stack.forget.Goals as goal

pub returns : goal.returns
returns g c =
    kept_seen c.as_slice.result.now c.self.inside.elements.items c.args.self.now c.args.count c.as_slice.ensures.value c.self.view_is c.requires
    c.truncate.new.self.items c.truncate.ensures.items
