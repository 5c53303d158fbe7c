use Rattle.std.proofs.Common.{◌≡◌, ◌++◌, drop}
use Rattle.dtal_code.specs.Spelling.{each, function_text}
use Rattle.dtal_code.proofs.program_text.put_functions.Given as goal

abbrev pub invariant-funs : goal.invariant-funs
invariant-funs l = l.out.items ++ each function_text (drop l.fun-index l.funs) ≡ l.initial.out.items ++ each function_text l.funs
