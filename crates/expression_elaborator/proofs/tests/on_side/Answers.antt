use Rattle.std.proofs.Common.{◌∙◌, sym, subst, All}
use Rattle.operation_rules.specs.Named.{IsNamed}
use Rattle.expression_elaborator.proofs.BranchSides.{sides_below}
use Rattle.expression_elaborator.proofs.tests.on_side.Goals as goal

pub assume_all-requires : goal.assume_all-requires
assume_all-requires c =
    let same = c.as_slice.ensures.value ∙ c.in_ok-rows.ensures in
    let below = sides_below c.args.ctx.now.vars c.args.taken c.args.op.now c.args.types.now c.as_slice.result.now same c.requires in
    subst (λ m. All (IsNamed m.vars) c.as_slice.result.now) (sym c.in_ok-made.ensures) below
