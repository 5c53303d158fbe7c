use Rattle.program_builder.proofs.SmallRuns.{small_source_ends, small_machine_ends}
use Rattle.program_builder.proofs.small.small_programs_end.Goals as goal

pub returns : goal.returns
returns c = record { source = small_source_ends; machine = small_machine_ends }
