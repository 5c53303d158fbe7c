use Rattle.std.specs.List.{AllWithin}
use Rattle.carried_acceptance.specs.WrittenParts.{HasNumbers}
use Rattle.program_builder.proofs.written.tell_code.Given as goal

abbrev pub invariant-loop-instr : goal.invariant-loop-instr
invariant-loop-instr l = AllWithin HasNumbers l.code 0 l.instr-index
