use Rattle.std.proofs.Common.{◌-◌, []}
use Rattle.dtal_machine.specs.Steps.{run_on}
use Rattle.dtal_driver.proofs.MachineRuns.{RunsOn}
use Rattle.dtal_driver.proofs.run.run.Given as goal

abbrev pub invariant-loop-step : goal.invariant-loop-step
invariant-loop-step g l =
    RunsOn (run_on l.fn.machine l.fn.steps []) l.machine (l.fn.steps - l.step) (g.O.Sink.written l.initial.out) (g.O.Sink.written l.out) (g.O.Sink.faults l.initial.out)
    (g.O.Sink.faults l.out)
