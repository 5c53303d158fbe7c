use Rattle.source_safety.proofs.NeverStuck.{begins_well}
use Rattle.source_safety.proofs.run_laws.arguments_fit.Goals as goal

pub returns : goal.returns
returns c = λ program made args heap words new shape is fault e. begins_well program made shape is args fault heap words new e
