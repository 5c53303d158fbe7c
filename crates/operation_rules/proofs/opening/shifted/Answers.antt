use Rattle.std.proofs.Common.{rules, arith, w64, FitsSigned}
use Rattle.std.proofs.lemmas.Int.{to_z-of_z}
use Rattle.state_types.proofs.ShiftFacts.{shifted_ok, same_form}
use Rattle.operation_rules.proofs.opening.shifted.Goals as goal

pub unreachable-requires : goal.unreachable-requires
unreachable-requires c =
    let fits : FitsSigned w64 c.constant_part.result = search rules in
    c.in_default.not-Ok _
    (shifted_ok c.args.first c.args.form.now c.terms-term-items.result.now c.loop-term.terms.items c.as_slice.result.now c.loop-term.term-index _ c.constant_part.result c.from_terms.result
    c.terms-term-items.ensures.terms c.terms-term-items.ensures.rising c.terms-term-items.ensures.few c.terms-term-items.ensures.small c.loop-term.invariant.0 (omega arith)
    c.as_slice.ensures.value (to_z-of_z w64 c.constant_part.result fits) c.constant_part.ensures c.from_terms.ensures)

pub returns : goal.returns
returns c =
    let fits : FitsSigned w64 c.constant_part.result = search rules in
    same_form _ _ _ c.in-Ok.is
    (shifted_ok c.args.first c.args.form.now c.terms-term-items.result.now c.loop-term.terms.items c.as_slice.result.now c.loop-term.term-index _ c.constant_part.result c.from_terms.result
    c.terms-term-items.ensures.terms c.terms-term-items.ensures.rising c.terms-term-items.ensures.few c.terms-term-items.ensures.small c.loop-term.invariant.0 (omega arith)
    c.as_slice.ensures.value (to_z-of_z w64 c.constant_part.result fits) c.constant_part.ensures c.from_terms.ensures)
