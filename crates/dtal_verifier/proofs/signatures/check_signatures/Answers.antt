use Rattle.std.proofs.Common.{sym, ◌∙◌, subst, arith}
use Rattle.std.proofs.lemmas.Result.{err_from_is_err_and}
use Rattle.dtal_verifier.specs.Code.{Refuses}
use Rattle.dtal_verifier.specs.Views.{table_with}
use Rattle.dtal_verifier.proofs.SignaturesTurns.{signed_turn, signed_refused}
use Rattle.dtal_verifier.proofs.signatures.check_signatures.Goals as goal

pub returns-in_err-check_signature_at : goal.returns-in_err-check_signature_at
returns-in_err-check_signature_at c =
    let p = err_from_is_err_and c.from_residual-in_err-check_signature_at.result c.from_residual-in_err-check_signature_at.ensures.1 in
    rw (p.1, p.2) (subst (λ w. Refuses c.in_err-check_signature_at.field-0.0 w) c.loop-number.invariant.0
    (signed_refused (table_with c.args.types.now) c.loop-number.number c.args.funs.now c.index-funs-number.result c.bytes.result.now c.loop-number.names _ _
    c.loop-number-test.true c.index-funs-number.is c.bytes.ensures c.loop-number.invariant.2 c.in_ok-is_new.ensures c.in_err-check_signature_at.field-0.0 c.in_err-check_signature_at.ensures))

pub loop-number-preserved : goal.loop-number-preserved
loop-number-preserved c =
    let s = signed_turn (table_with c.args.types.now) c.loop-number.number c.args.funs.now c.index-funs-number.result c.bytes.result.now c.loop-number.names _ _
    c.loop-number-test.true c.index-funs-number.is c.bytes.ensures c.loop-number.invariant.2 c.in_ok-is_new.ensures c.in_ok-check_signature_at.ensures in
    (sym s.walked ∙ c.loop-number.invariant.0, omega arith, s.names)
