use Rattle.source_evaluator.proofs.CallMeanings.{main_begins}
use Rattle.source_evaluator.proofs.laws.the_first_machine_is_the_run.Goals as goal

pub returns : goal.returns
returns c = λ funs depth main f values st fit. main_begins funs depth main f values st fit
