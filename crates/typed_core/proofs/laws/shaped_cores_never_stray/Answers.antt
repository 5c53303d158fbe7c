use Rattle.typed_core.proofs.NamedPrograms.{never_strays}
use Rattle.typed_core.proofs.laws.shaped_cores_never_stray.Goals as goal

pub returns : goal.returns
returns c = never_strays
