use Rattle.std.specs.List.{AllWithin}
use Rattle.carried_acceptance.specs.WrittenParts.{HaveMultipliers}
use Rattle.program_builder.proofs.written.tell_proofs.Given as goal

abbrev pub invariant-loop-lines : goal.invariant-loop-lines
invariant-loop-lines l = AllWithin HaveMultipliers l.proofs 0 l.lines-index
