use Rattle.emission_laws.proofs.EmittedPrograms.{program_in}
use Rattle.emission_acceptance.proofs.TypedStretches.{accepted_programs}
use Rattle.emission_acceptance.proofs.laws.emitted_programs_are_accepted.Goals as goal
use Rattle.std.proofs.Common.{◌≡◌, true}

pub returns : goal.returns
returns c = λ typed homes kept is ranged acceptable. accepted_programs typed homes (λ number at place. kept number at place ≡ true) is ranged acceptable (program_in typed homes ranged)
