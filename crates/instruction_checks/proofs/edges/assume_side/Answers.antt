use Rattle.std.proofs.Common.{◌∙◌}
use Rattle.instruction_checks.proofs.VerdictParts.{sides_below}
use Rattle.instruction_checks.proofs.edges.assume_side.Goals as goal

pub assume_all-requires : goal.assume_all-requires
assume_all-requires c =
    sides_below c.args.ctx.now.vars c.args.taken c.args.op.now c.args.types.now c.as_slice.result.now (c.as_slice.ensures.value ∙ c.in_ok-rows.ensures) c.requires
