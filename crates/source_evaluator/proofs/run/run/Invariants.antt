use Rattle.std.proofs.Common.{[], map}
use Rattle.xanadu_tree.specs.PlainOf.{plain_fun}
use Rattle.source_evaluator.specs.Pending.{meaning}
use Rattle.source_evaluator.specs.Views.{state_of}
use Rattle.source_evaluator.proofs.DrivenRuns.{RunsOn, all_bodies}
use Rattle.source_evaluator.proofs.WorkSizes.{measure}
use Rattle.source_evaluator.proofs.run.run.Given as goal

abbrev pub invariant-turns : goal.invariant-turns
invariant-turns g l =
    RunsOn (map plain_fun l.funs) l.depth (meaning (map plain_fun l.fn.funs) l.fn.depth (state_of l.fn.machine) []) (state_of l.machine)
    (g.S.Sink.written l.initial.sink) (g.S.Sink.written l.sink) (g.S.Sink.faults l.initial.sink) (g.S.Sink.faults l.sink)

abbrev pub decreases-turns : goal.decreases-turns
decreases-turns g l = measure (all_bodies (map plain_fun l.funs)) (state_of l.machine)
