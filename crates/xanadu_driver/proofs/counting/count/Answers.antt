use Rattle.std.proofs.Common.{◌<◌, ◌^◌, List, sym, subst}
use Rattle.dtal_code.specs.declared.program.Function.{Function}
use Rattle.program_builder.specs.Counts.{functions_instructions}
use Rattle.xanadu_driver.proofs.CountedInstructions.{few_instructions}
use Rattle.xanadu_driver.proofs.counting.count.Goals as goal

pub count_in_functions-requires-clause-few : goal.count_in_functions-requires-clause-few
count_in_functions-requires-clause-few c =
    subst (λ (funs : List Function). functions_instructions funs < 2 ^ 64) (sym c.as_slice-funs.ensures) (few_instructions c.args.program.now c.requires.grammar)
