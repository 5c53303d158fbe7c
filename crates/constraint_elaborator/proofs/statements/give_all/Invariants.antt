use Rattle.std.proofs.Common.{◌≡◌, length}
use Rattle.expression_elaborator.specs.Views.{state_of}
use Rattle.typed_core.specs.Statements.{all_given}
use Rattle.constraint_elaborator.proofs.statements.give_all.Given as goal

abbrev pub invariant-loop-xs : goal.invariant-loop-xs
invariant-loop-xs l = (all_given l.xs l.types (state_of l.st) ≡ all_given l.fn.xs l.fn.types (state_of l.fn.st)) × (l.st.ctx ≡ l.fn.st.ctx)

abbrev pub decreases-loop-xs : goal.decreases-loop-xs
decreases-loop-xs l = length l.xs
