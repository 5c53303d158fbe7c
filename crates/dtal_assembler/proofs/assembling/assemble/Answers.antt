use Rattle.std.proofs.Common.{◌<◌, ◌^◌, sym, subst, IsSome}
use Rattle.dtal_code.specs.Declarations.{main_of}
use Rattle.dtal_code.specs.ObjectCode.{program_size}
use Rattle.dtal_assembler.proofs.AcceptedSizes.{program_few, main_there}
use Rattle.dtal_assembler.proofs.assembling.assemble.Goals as goal

pub count_in_functions-past-requires : goal.count_in_functions-past-requires
count_in_functions-past-requires c = subst (λ funs. program_size funs < 2 ^ 64) (sym c.as_slice-funs.ensures) (program_few c.args.program.now c.requires.grammar)

pub find_main-main-requires-clause-there : goal.find_main-main-requires-clause-there
find_main-main-requires-clause-there c = subst (λ funs. IsSome (main_of funs)) (sym c.as_slice-funs.ensures) (main_there c.args.program.now c.requires.main)
