use Rattle.std.proofs.Common.{◌∙◌, sym}
use Rattle.operation_rules.proofs.CallsMade.{if_ok}
use Rattle.dtal_verifier.proofs.DeclaredNames.{label_stands}
use Rattle.dtal_verifier.proofs.states.written_state.Goals as goal

pub returns-clause-standing : goal.returns-clause-standing
returns-clause-standing c =
    if_ok c.state_with.result _ _
    (λ state is. label_stands c.args.sig.now.vars c.args.state.now.vars _ c.args.state.now.places state c.in_ok-asks-2.ensures.holds (sym c.names_own.ensures ∙ c.in_ok-asks-3.ensures.holds)
    is.0 (is.1 ∙ c.in_ok-copy.ensures)) c.state_with.ensures.variables
