use Rattle.proof_lines.proofs.LineTexts.{reads_lines, refuses_bytes}
use Rattle.proof_lines.proofs.line_text.read_lines.Goals as goal

pub returns-in-Ok-clause-read : goal.returns-in-Ok-clause-read
returns-in-Ok-clause-read c = reads_lines c.args.bytes.now c.in-Ok.lines.items c.in-Ok.ensures

pub returns-in-Err-clause-refused : goal.returns-in-Err-clause-refused
returns-in-Err-clause-refused c = refuses_bytes c.args.bytes.now c.in-Err.e c.said.result c.said.ensures c.in-Err.ensures
