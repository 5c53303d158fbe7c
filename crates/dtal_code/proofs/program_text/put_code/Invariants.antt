use Rattle.std.proofs.Common.{◌≡◌, ◌++◌, drop}
use Rattle.dtal_code.specs.Spelling.{each, instr_text}
use Rattle.dtal_code.proofs.program_text.put_code.Given as goal

abbrev pub invariant-code : goal.invariant-code
invariant-code l = l.out.items ++ each instr_text (drop l.instr-index l.code) ≡ l.initial.out.items ++ each instr_text l.code
