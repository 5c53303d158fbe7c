use Rattle.std.proofs.Common.{◌≡◌, length}
use Rattle.source_evaluator.specs.Steps.{unwound}
use Rattle.source_evaluator.specs.Views.{works}
use Rattle.source_evaluator.proofs.control.unwind.Given as goal

abbrev pub invariant-loop-task : goal.invariant-loop-task
invariant-loop-task l = unwound (works l.work) ≡ unwound (works l.fn.work)

abbrev pub decreases-loop-task : goal.decreases-loop-task
decreases-loop-task l = length l.work
