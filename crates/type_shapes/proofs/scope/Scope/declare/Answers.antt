use Rattle.std.proofs.Common.{◌∙◌, sym, ap}
use Rattle.type_shapes.specs.Names.{meaning}
use Rattle.type_shapes.proofs.Scopes.{kept-more}
use Rattle.type_shapes.proofs.scope.Scope.declare.Goals as goal

pub invariant_of-self-in-Ok : goal.invariant_of-self-in-Ok
invariant_of-self-in-Ok c =
    kept-more c.self.inside.meanings c.insert.new.self c.self.inside.declarations.items c.push.new.self.items
    (record { name = c.args.name; number = c.args.number; before = c.meaning-before.result })
    c.in_ok-push.ensures.items c.self.invariant
    (c.meaning-before.ensures ∙ ap (λ scope. meaning c.args.name.now scope) (sym c.self.view_is))
    c.in-Ok.ensures.updates
