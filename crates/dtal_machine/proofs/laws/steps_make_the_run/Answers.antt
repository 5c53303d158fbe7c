use Rattle.dtal_machine.proofs.DrivenMachines.{run-begins, run-live, run-spent, run-without_store, run-going, run-print, run-returned, run-no_store, run-overflow}
use Rattle.dtal_machine.proofs.laws.steps_make_the_run.Goals as goal

pub returns : goal.returns
returns c = record {
  begins = run-begins;
  live = run-live;
  spent = run-spent;
  without_store = run-without_store;
  going = run-going;
  print = run-print;
  returned = run-returned;
  no_store = run-no_store;
  overflow = run-overflow;
}
