use Rattle.std.proofs.Common.{◌≡◌, ◌++◌, length}
use Rattle.dtal_emit.specs.Emitted.{emitted_all}
use Rattle.dtal_emit.proofs.instructions.emit_all.Given as goal

abbrev pub invariant-code : goal.invariant-code
invariant-code l = l.out.items ++ emitted_all l.homes l.instrs l.others ≡ l.fn.out.items ++ emitted_all l.homes l.code l.edges

abbrev pub decreases-code : goal.decreases-code
decreases-code l = length l.instrs
