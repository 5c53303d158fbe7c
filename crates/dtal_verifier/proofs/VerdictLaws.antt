-- What passes is accepted, and what is refused is not.
use Rattle.std.proofs.Common.{◌≡◌, ◌∙◌, Ok, Err, List, refl, ap}
use Rattle.std.specs.Prelude.{IsOk}
use Rattle.state_types.specs.declared.state.StateType.{StateType}
use Rattle.dtal_code.specs.Acceptance.{Accepted}
use Rattle.dtal_code.specs.Grammar.{InGrammar}
use Rattle.dtal_code.specs.Refusing.{verified}
use Rattle.dtal_code.specs.Verdicts.{Walk}
use Rattle.dtal_code.specs.declared.program.DtalProgram.{DtalProgram}
use Rattle.dtal_code.specs.declared.refusal.Refusal.{Refusal}
use Rattle.dtal_code.proofs.VerifiedPrograms.{verified_is_accepted, accepted_is_verified}
use Rattle.dtal_verifier.specs.Code.{Refuses}
use Rattle.dtal_verifier.specs.Walks.{forgotten, program_passed}
use Rattle.dtal_verifier.specs.declared.error.VerifyError.{VerifyError}
use Rattle.dtal_verifier.specs.declared.error.VerifyError.TheVariants as verify_error
use Rattle.dtal_verifier.proofs.WalksSame.{program_same}

ok_of : {A : Type 0} (m : Walk A) → forgotten m ≡ Ok tt → IsOk m
ok_of (Ok x) e = refl
ok_of (Err refusal) e = absurd (let bad : ⊥ = cc in bad)

err_of : {A : Type 0} (m : Walk A) (refusal : Refusal) → forgotten m ≡ Err refusal → m ≡ Err refusal
err_of (Ok x) refusal e = absurd (let bad : ⊥ = cc in bad)
err_of (Err other) refusal e = (let same : other ≡ refusal = cc in ap (λ r. let w : Walk _ = Err r in w) same)

pub passed_is_verified : (program : DtalProgram) → program_passed program ≡ Ok tt → IsOk (verified program)
passed_is_verified program e = ok_of (verified program) (program_same program ∙ e)

accepted_by : (program : DtalProgram) (m : Walk (List (List StateType))) → InGrammar program → verified program ≡ m → forgotten m ≡ Ok tt → Accepted program
accepted_by program (Ok states) grammar is e = (verified_is_accepted program states grammar is).accepted
accepted_by program (Err refusal) grammar is e = absurd (let bad : ⊥ = cc in bad)

pub passed_is_accepted : (program : DtalProgram) → InGrammar program → program_passed program ≡ Ok tt → Accepted program
passed_is_accepted program grammar e = accepted_by program (verified program) grammar refl (program_same program ∙ e)

pub refused_so : (program : DtalProgram) (error : VerifyError) → Refuses error (program_passed program) → Refuses error (verified program)
refused_so program (verify_error.Refused at rule) e = err_of (verified program) (record { at = at; rule = rule }) (program_same program ∙ e)
refused_so program verify_error.Memory e = tt

pub accepted_is_not_refused : (program : DtalProgram) (error : VerifyError) → Refuses error (program_passed program) → Accepted program → error ≡ verify_error.Memory
accepted_is_not_refused program (verify_error.Refused at rule) e accepted =
    let is : verified program ≡ Ok accepted.states = accepted_is_verified program accepted in
    let refused : verified program ≡ Err (record { at = at; rule = rule }) = err_of (verified program) (record { at = at; rule = rule }) (program_same program ∙ e) in
    absurd (let bad : ⊥ = cc in bad)
accepted_is_not_refused program verify_error.Memory e accepted = refl
