use Rattle.source_evaluator.proofs.CallMeanings.{step_tells}
use Rattle.source_evaluator.proofs.laws.a_step_tells_what_the_machine_comes_to.Goals as goal

pub returns : goal.returns
returns c = λ funs depth m printed. step_tells funs depth m printed
