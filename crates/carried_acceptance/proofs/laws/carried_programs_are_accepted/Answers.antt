use Rattle.carried_acceptance.proofs.CarriedAccepted.{is_accepted, is_in_grammar}
use Rattle.carried_acceptance.proofs.laws.carried_programs_are_accepted.Goals as goal

pub returns : goal.returns
returns c = record { accepted = λ program typed homes whole. is_accepted program typed homes whole; written = λ program typed homes whole. is_in_grammar program typed homes whole }
