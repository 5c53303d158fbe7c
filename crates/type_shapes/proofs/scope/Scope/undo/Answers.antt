use Rattle.type_shapes.proofs.Scopes.{kept-less, latest-present}
use Rattle.type_shapes.proofs.scope.Scope.undo.Goals as goal

pub invariant_of-self : goal.invariant_of-self
invariant_of-self c =
    kept-less c.self.inside.meanings c.insert.new.self c.self.inside.declarations.items c.pop.new.self.items c.in-Some.latest c.in-Some.ensures.items c.self.invariant c.in-Ok.ensures.updates

pub unreachable-requires : goal.unreachable-requires
unreachable-requires c =
    latest-present c.self.inside.meanings.entries c.self.inside.declarations.items c.pop.new.self.items c.in-Some.latest c.in-Some.ensures.items c.self.invariant c.in_default-insert.ensures.absent
