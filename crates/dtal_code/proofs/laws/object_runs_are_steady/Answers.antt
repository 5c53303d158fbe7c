use Rattle.dtal_code.proofs.ObjectRuns.{code_runs_are_steady}
use Rattle.dtal_code.proofs.laws.object_runs_are_steady.Goals as goal

pub returns : goal.returns
returns c = code_runs_are_steady
