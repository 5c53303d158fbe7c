use Rattle.std.proofs.Common.{◌∙◌, ap, subst}
use Rattle.typed_core.specs.Proving.{IsElaboration}
use Rattle.xanadu_tree.specs.PlainOf.{plain_core}
use Rattle.xanadu_tree.specs.Shaped.{Shaped}
use Rattle.source_safety.proofs.NeverStuck.{never_stuck}
use Rattle.source_safety.proofs.proved_runs.proved_programs_are_never_stuck.Goals as goal

pub returns : goal.returns
returns c =
    let program = c.args.proved.now in
    let shape = subst (λ core. Shaped (plain_core core)) (c.core-core.ensures.core ∙ ap (λ base. base.core) c.base-base.ensures) c.funs-funs.ensures.rules in
    let is = subst (λ base. IsElaboration base.core base.made) c.base-base.ensures c.core-core.ensures.elaborated in
    never_stuck (plain_core program.base.core) program.base.made program.lines shape is c.lines-lines.ensures.proved
