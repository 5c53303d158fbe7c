use Rattle.typed_core.proofs.PrintedMore.{call_prints, value_prints, test_prints, statement_prints, block_prints}
use Rattle.typed_core.proofs.run_laws.output_only_grows.Goals as goal

pub returns-clause-calls : goal.returns-clause-calls
returns-clause-calls g c = λ recorder funs depth bound live fun values st. call_prints recorder funs depth bound live fun values st

pub returns-clause-values : goal.returns-clause-values
returns-clause-values g c = λ call env e st calls. value_prints call env e st calls

pub returns-clause-tests : goal.returns-clause-tests
returns-clause-tests g c = λ call env test st calls. test_prints call env test st calls

pub returns-clause-statements : goal.returns-clause-statements
returns-clause-statements g c = λ recorder call fun bound place s env st calls. statement_prints recorder call fun bound place s env st calls

pub returns-clause-blocks : goal.returns-clause-blocks
returns-clause-blocks g c = λ recorder call fun bound place number ss env st calls. block_prints recorder call fun bound place number ss env st calls
