use Rattle.source_safety.proofs.NeverStuck.{never_stuck}
use Rattle.source_safety.proofs.run_laws.proved_sources_are_never_stuck.Goals as goal

pub returns : goal.returns
returns c = never_stuck
