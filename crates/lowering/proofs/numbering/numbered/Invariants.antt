use Rattle.std.proofs.Common.{◌≡◌, ◌++◌}
use Rattle.lowering.specs.Lowered.{numbered}
use Rattle.lowering.proofs.numbering.numbered.Given as goal

abbrev pub invariant-loop-instr : goal.invariant-loop-instr
invariant-loop-instr l = l.made.items ++ numbered l.labels l.instr-iterator.rest.items ≡ numbered l.labels l.fn.code.items
