use Rattle.std.proofs.Common.{◌∙◌, ap}
use Rattle.type_carrier.proofs.CarriedWhole.{carries}
use Rattle.type_carrier.proofs.carrying.carry.Goals as goal

pub returns : goal.returns
returns c =
    carries c.args.program.now c.args.low c.goals.result.now c.lines.result.now c.funs.result.now c.notes.result.now c.as_slice.result.now c.in_ok-columns.columns.items
    c.as_slice-2.result.now c.in_ok-made.made.states.items c.from_vec.result c.in_ok-made.made.edges.items c.from_vec-2.result c.in_ok-made.made.rest.now
    (c.goals.ensures ∙ ap (λ b. b.made.goals) c.base-base.ensures) c.lines.ensures.lines
    (c.funs.ensures.funs ∙ ap (λ k. k.funs) c.core.ensures.core ∙ ap (λ b. b.core.funs) c.base-base.ensures) (c.notes.ensures ∙ ap (λ b. b.made.notes) c.base-base.ensures)
    c.as_slice.ensures c.as_slice-2.ensures.value c.from_vec.ensures c.from_vec-2.ensures c.in_ok-columns.ensures c.in_ok-made.ensures
