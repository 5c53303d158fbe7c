use Rattle.std.specs.List.{AllWithin}
use Rattle.carried_acceptance.specs.WrittenParts.{HasMultipliers}
use Rattle.program_builder.proofs.written.tell_lines.Given as goal

abbrev pub invariant-loop-line : goal.invariant-loop-line
invariant-loop-line l = AllWithin HasMultipliers l.lines 0 l.line-index
