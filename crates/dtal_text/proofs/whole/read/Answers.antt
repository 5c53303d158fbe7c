use Rattle.dtal_text.proofs.WholePrograms.{reads_program, refuses_bytes}
use Rattle.dtal_text.proofs.whole.read.Goals as goal

pub returns-in-Ok-clause-read : goal.returns-in-Ok-clause-read
returns-in-Ok-clause-read c = reads_program c.args.bytes.now c.in-Ok.program c.in-Ok.ensures

pub returns-in-Err-clause-refused : goal.returns-in-Err-clause-refused
returns-in-Err-clause-refused c = refuses_bytes c.args.bytes.now c.in-Err.e c.told.result c.told.ensures c.in-Err.ensures
