use Rattle.std.proofs.Common.{◌≡◌, ◌+◌, ◌++◌, drop}
use Rattle.dtal_code.specs.ObjectCode.{functions_code, starts_from, program_size}
use Rattle.dtal_code.specs.ObjectWords.{object_words}
use Rattle.dtal_assembler.proofs.assembling.put_functions.Given as goal

abbrev pub invariant-each : goal.invariant-each
invariant-each l = (l.start + program_size (drop l.fun-index l.funs) ≡ program_size l.funs)
    × (l.words.items ++ object_words (functions_code l.past l.start (drop l.fun-index l.funs)) ≡ l.fn.words.items ++ object_words (functions_code l.past 0 l.funs))
    × (l.starts.items ++ starts_from l.start (drop l.fun-index l.funs) ≡ l.fn.starts.items ++ starts_from 0 l.funs)
