use Rattle.dtal_text.proofs.ProgramTexts.{program_is_read}
use Rattle.dtal_text.proofs.laws.program_texts_are_read.Goals as goal

pub returns : goal.returns
returns c = program_is_read
