use Rattle.proof_lines.proofs.FormLoop.{Reading}
use Rattle.proof_lines.proofs.form_text.read_parts.Given as goal

abbrev pub invariant-parts : goal.invariant-parts
invariant-parts l = Reading l.terms.items l.counter l.low l.rest l.fn.bytes
