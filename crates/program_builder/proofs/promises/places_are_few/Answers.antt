use Rattle.std.proofs.Common.{◌∙◌, ap, subst}
use Rattle.typed_core.specs.Proving.{IsElaboration}
use Rattle.xanadu_tree.specs.PlainOf.{plain_core}
use Rattle.xanadu_tree.specs.Shaped.{Shaped}
use Rattle.program_builder.proofs.LoweredPlaces.{few_placed}
use Rattle.program_builder.proofs.promises.places_are_few.Goals as goal

pub returns : goal.returns
returns c =
    let program = c.args.proved.now in
    let shaped = subst (λ core. Shaped (plain_core core)) (c.core-core.ensures.core ∙ ap (λ base. base.core) c.base.ensures) c.funs-funs.ensures.rules in
    let elaborated = subst (λ base. IsElaboration base.core base.made) c.base.ensures c.core-core.ensures.elaborated in
    few_placed program.base elaborated shaped c.places_are_those_counted.ensures
