use Rattle.dtal_verifier.proofs.DeclaredNames.{first_stands}
use Rattle.dtal_verifier.proofs.states.begin_function.Goals as goal

pub returns-in-Ok-clause-standing : goal.returns-in-Ok-clause-standing
returns-in-Ok-clause-standing c =
    first_stands c.args.sig.now.vars c.args.sig.now.params c.in-Ok.state c.requires.header.params c.in-Ok.ensures.variables.0 c.in-Ok.ensures.variables.1
