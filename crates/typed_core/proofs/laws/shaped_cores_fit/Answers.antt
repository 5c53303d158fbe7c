use Rattle.typed_core.proofs.FitPrograms.{shaped_fits}
use Rattle.typed_core.proofs.laws.shaped_cores_fit.Goals as goal

pub returns : goal.returns
returns c = shaped_fits
