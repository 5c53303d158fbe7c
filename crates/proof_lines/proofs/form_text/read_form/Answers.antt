use Rattle.std.proofs.Common.{rules, w64, FitsSigned}
use Rattle.std.proofs.lemmas.Int.{to_z-of_z}
use Rattle.proof_lines.proofs.FormLoop.{is_form, is_read}
use Rattle.proof_lines.proofs.form_text.read_form.Goals as goal

pub unreachable-requires : goal.unreachable-requires
unreachable-requires c =
    let fits : FitsSigned w64 c.in_ok-terms.constant = search rules in
    c.in_default.not-Ok _
    (is_form c.in_ok-terms.terms.items c.as_slice.result.now c.in_ok-terms.constant _ _ _ _ c.in_ok-terms.ensures c.as_slice.ensures.value
    (to_z-of_z w64 c.in_ok-terms.constant fits) c.from_terms.ensures)

pub returns : goal.returns
returns c =
    let fits : FitsSigned w64 c.in_ok-terms.constant = search rules in
    is_read _ _ _ _ _ c.in_ok-terms.ensures
    (is_form c.in_ok-terms.terms.items c.as_slice.result.now c.in_ok-terms.constant _ _ _ _ c.in_ok-terms.ensures c.as_slice.ensures.value
    (to_z-of_z w64 c.in_ok-terms.constant fits) c.from_terms.ensures)
    c.in-Ok.is
