use Rattle.std.proofs.Common.{◌≡◌, ◌+◌, length}
use Rattle.dtal_code.specs.ObjectCode.{program_size}
use Rattle.dtal_assembler.proofs.counting.count_in_functions.Given as goal

abbrev pub invariant-each : goal.invariant-each
invariant-each l = l.count + program_size l.funs ≡ program_size l.fn.funs

abbrev pub decreases-each : goal.decreases-each
decreases-each l = length l.funs
