use Rattle.std.proofs.Common.{rules, w64, FitsSigned, arith}
use Rattle.std.proofs.lemmas.Int.{to_z-of_z}
use Rattle.std.proofs.lemmas.Result.{err_from_is_err_and}
use Rattle.proof_lines.proofs.FormLoop.{part_term, part_constant, part_fails, at_part, last_constant, last_fails}
use Rattle.proof_lines.proofs.form_text.read_parts.Goals as goal

pub returns-in_err-part : goal.returns-in_err-part
returns-in_err-part c =
    let p = err_from_is_err_and c.from_residual.result c.from_residual.ensures.1 in
    rw (p.1, p.2) (part_fails _ _ _ _ _ _ c.parts.invariant c.parts-test.true (c.in_err-part.ensures {u = tt}))

pub push-requires : goal.push-requires
push-requires c = let few = c.parts.invariant.few in (omega arith, omega arith)

pub returns-in-Constant : goal.returns-in-Constant
returns-in-Constant c =
    let fits : FitsSigned w64 c.in-Constant.constant = search rules in
    part_constant _ _ _ _ _ _ _ _ c.parts.invariant c.parts-test.true (to_z-of_z w64 c.in-Constant.constant fits) (at_part _ _ _ _ c.in_ok-part.ensures c.in-Constant.is)

pub parts-preserved : goal.parts-preserved
parts-preserved c =
    let value = c.from-low.ensures in
    part_term _ _ _ _ _ _ _ _ _ c.parts.invariant c.parts-test.true (omega arith) (at_part _ _ _ _ c.in_ok-part.ensures c.in-Term.is) c.push.ensures.items c.push.ensures.len

pub returns-in_err-constant : goal.returns-in_err-constant
returns-in_err-constant c =
    let p = err_from_is_err_and c.from_residual-in_err-constant.result c.from_residual-in_err-constant.ensures.1 in
    rw (p.1, p.2) (last_fails _ _ _ _ _ _ c.parts.invariant c.parts-test.false (c.in_err-constant.ensures {u = tt}))

pub returns : goal.returns
returns c =
    let fits : FitsSigned w64 c.in_ok-constant.constant = search rules in
    last_constant _ _ _ _ _ _ _ _ c.parts.invariant c.parts-test.false (to_z-of_z w64 c.in_ok-constant.constant fits) c.in_ok-constant.ensures
