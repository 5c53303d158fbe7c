use Rattle.std.proofs.Common.{◌∙◌, ap, subst}
use Rattle.typed_core.specs.Proving.{IsElaboration}
use Rattle.xanadu_tree.specs.PlainOf.{plain_core}
use Rattle.xanadu_tree.specs.Shaped.{Shaped}
use Rattle.program_builder.proofs.GrantedParts.{keeps_promises}
use Rattle.program_builder.proofs.promises.slotted_code_keeps_promises.Goals as goal

pub returns : goal.returns
returns c = λ typed homes parts.
    let program = c.args.proved.now in
    let shaped = subst (λ core. Shaped (plain_core core)) (c.core-core.ensures.core ∙ ap (λ base. base.core) c.base.ensures) c.funs-funs.ensures.rules in
    let elaborated = subst (λ base. IsElaboration base.core base.made) c.base.ensures c.core-core.ensures.elaborated in
    keeps_promises program shaped elaborated c.lines-lines.ensures.proved c.places_are_those_counted.ensures typed homes parts c.branches_are_leaves.ensures
    c.emitted_programs_follow.ensures c.carried_programs_are_accepted.ensures.accepted c.carried_programs_are_ready.ensures (record {
      never = c.proved_programs_are_never_stuck.ensures;
      agrees = c.proved_code_agrees.ensures.agrees;
      follows = c.proved_code_agrees.ensures.follows;
    })
