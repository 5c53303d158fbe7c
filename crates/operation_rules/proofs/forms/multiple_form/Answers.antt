use Rattle.std.proofs.Common.{w64}
use Rattle.std.proofs.lemmas.Int.{to_z-of_z}
use Rattle.operation_rules.proofs.FormsMade.{multiple-form}
use Rattle.state_types.proofs.ShiftFacts.{same_form}
use Rattle.operation_rules.proofs.forms.multiple_form.Goals as goal

pub unreachable-requires : goal.unreachable-requires
unreachable-requires c =
    c.in_default.not-Ok _ (multiple-form c.args.coef _ c.args.var c.args.constant _ c.from_terms.result c.from_terms.ensures (to_z-of_z w64 c.args.coef c.ranges.coef)
    (to_z-of_z w64 c.args.constant c.ranges.constant) c.requires.small c.requires.some c.requires.small_constant)

pub returns : goal.returns
returns c =
    same_form _ _ _ c.in-Ok.is (multiple-form c.args.coef _ c.args.var c.args.constant _ c.from_terms.result c.from_terms.ensures (to_z-of_z w64 c.args.coef c.ranges.coef)
    (to_z-of_z w64 c.args.constant c.ranges.constant) c.requires.small c.requires.some c.requires.small_constant)
