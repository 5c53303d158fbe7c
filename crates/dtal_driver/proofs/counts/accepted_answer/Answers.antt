use Rattle.std.proofs.Common.{◌<◌, ◌^◌, List, sym, subst}
use Rattle.dtal_code.specs.declared.program.Function.{Function}
use Rattle.dtal_driver.specs.VerifiedTexts.{instructions_of}
use Rattle.dtal_driver.proofs.InstructionCounts.{few_instructions}
use Rattle.dtal_driver.proofs.counts.accepted_answer.Goals as goal

pub count_in_functions-requires-clause-few : goal.count_in_functions-requires-clause-few
count_in_functions-requires-clause-few c =
    subst (λ (funs : List Function). instructions_of funs < 2 ^ 64) (sym c.as_slice-funs.ensures) (few_instructions c.args.program.now c.requires)
