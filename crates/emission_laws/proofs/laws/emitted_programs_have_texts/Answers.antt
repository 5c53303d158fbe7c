use Rattle.emission_laws.proofs.EmittedPrograms.{program_in}
use Rattle.emission_laws.proofs.laws.emitted_programs_have_texts.Goals as goal

pub returns : goal.returns
returns c = λ typed homes ranged. program_in typed homes ranged
