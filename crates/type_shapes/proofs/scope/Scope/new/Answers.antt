use Rattle.type_shapes.proofs.Scopes.{kept-none}
use Rattle.type_shapes.proofs.scope.Scope.new.Goals as goal

pub invariant_of-result : goal.invariant_of-result
invariant_of-result c = kept-none c.new.result.entries c.new-2.result.items c.new.ensures.empty c.new-2.ensures.items
