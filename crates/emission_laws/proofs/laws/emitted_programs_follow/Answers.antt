use Rattle.std.proofs.Common.{◌≡◌, true}
use Rattle.emission_laws.proofs.ProgramsFollow.{program_follows}
use Rattle.emission_laws.proofs.laws.emitted_programs_follow.Goals as goal

pub returns : goal.returns
returns c = λ typed homes kept are args heap depth. program_follows typed homes (λ number at place. kept number at place ≡ true) are args heap depth
