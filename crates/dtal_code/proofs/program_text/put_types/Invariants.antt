use Rattle.std.proofs.Common.{◌≡◌, ◌++◌, drop}
use Rattle.dtal_code.specs.Spelling.{each, type_line}
use Rattle.dtal_code.proofs.program_text.put_types.Given as goal

abbrev pub invariant-types : goal.invariant-types
invariant-types l = l.out.items ++ each type_line (drop l.packed-index l.types) ≡ l.initial.out.items ++ each type_line l.types
