use Rattle.xan_io.proofs.ArgumentLaws.{found, only}
use Rattle.xan_io.proofs.arguments.words_spell_one_argument.Goals as goal

pub returns-clause-found : goal.returns-clause-found
returns-clause-found c = found

pub returns-clause-only : goal.returns-clause-only
returns-clause-only c = only
