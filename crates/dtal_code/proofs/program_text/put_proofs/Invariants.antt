use Rattle.std.proofs.Common.{◌≡◌, ◌++◌, drop}
use Rattle.dtal_code.specs.Spelling.{each, by_line}
use Rattle.dtal_code.proofs.program_text.put_proofs.Given as goal

abbrev pub invariant-by : goal.invariant-by
invariant-by l = l.out.items ++ each by_line (drop l.lines-index l.by) ≡ l.initial.out.items ++ each by_line l.by
