use Rattle.std.proofs.Common.{◌≡◌, ◌+◌, option_map, length}
use Rattle.dtal_code.specs.Declarations.{main_of}
use Rattle.dtal_assembler.proofs.main_function.find_main.Given as goal

abbrev pub invariant-each : goal.invariant-each
invariant-each l = (option_map (λ main. l.number + main.0) (main_of l.funs) ≡ option_map (λ main. main.0) (main_of l.fn.funs)) × (l.number + length l.funs ≡ length l.fn.funs)

abbrev pub decreases-each : goal.decreases-each
decreases-each l = length l.funs
