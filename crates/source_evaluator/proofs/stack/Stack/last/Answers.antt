use Rattle.source_evaluator.proofs.Stacks.{last_seen}
use Rattle.source_evaluator.proofs.stack.Stack.last.Goals as goal

pub returns : goal.returns
returns g c =
    last_seen c.as_slice.result.now c.self.inside.elements.items c.args.self.now c.args.count c.as_slice.ensures.value c.self.view_is c.requires
    c.last_of.result.now c.last_of.ensures
