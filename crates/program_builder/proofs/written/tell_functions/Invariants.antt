use Rattle.std.specs.List.{AllWithin}
use Rattle.carried_acceptance.specs.WrittenParts.{HaveNumbers}
use Rattle.program_builder.proofs.written.tell_functions.Given as goal

abbrev pub invariant-loop-fun : goal.invariant-loop-fun
invariant-loop-fun l = AllWithin HaveNumbers l.funs 0 l.fun-index
