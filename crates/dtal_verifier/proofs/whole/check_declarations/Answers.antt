use Rattle.dtal_verifier.proofs.DeclaredNames.{declared_by}
use Rattle.dtal_verifier.proofs.RefusedPlaces.{always}
use Rattle.dtal_verifier.proofs.whole.check_declarations.Goals as goal

pub returns-clause-declared : goal.returns-clause-declared
returns-clause-declared c =
    always c.check_program.result _
    (declared_by c.args.program.now c.as_slice-types.result.now c.as_slice.result.now c.as_slice-types.ensures c.as_slice.ensures c.in_ok-check_types.ensures c.in_ok-check_signatures.ensures)
