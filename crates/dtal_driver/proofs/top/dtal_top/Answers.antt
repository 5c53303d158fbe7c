use Rattle.std.proofs.Common.{refl}
use Rattle.dtal_driver.specs.Words.{Verify, Run}
use Rattle.dtal_driver.proofs.Promises.{clause-too_long, clause-no_program, clause-refused, clause-faults, clause-no_store, clause-overflow, clause-steps_ended, clause-ran, clause-accepted, clause-accepts, clause-refuses}
use Rattle.dtal_driver.proofs.Statuses.{clause-statuses, clause-said, clause-put_failed, clause-cut, clause-rises, clause-no_command, clause-words, clause-read_failed, clause-memory, clause-reported, clause-complete}
use Rattle.dtal_driver.proofs.top.dtal_top.Goals as goal

pub returns : goal.returns
returns g c = record {
  statuses = clause-statuses _ _ _ _ _ _ _ _ _ c.execute.ensures.went;
  no_command = clause-no_command _ _ _ _ _ _ _ _ _ c.execute.ensures.went;
  words = clause-words _ _ _ _ _ _ _ _ _ c.execute.ensures.went;
  read_failed = clause-read_failed _ _ _ _ _ _ _ _ _ c.execute.ensures.went;
  put_failed = clause-put_failed _ _ _ _ _ _ _ _ _ c.execute.ensures.went;
  put_rises = clause-rises _ _ _ _ _ _ _ _ _ c.execute.ensures.went;
  too_long = clause-too_long _ _ _ _ _ _ _ _ _ c.execute.ensures.went;
  no_program = clause-no_program _ _ _ _ _ _ _ _ _ c.execute.ensures.went;
  refused = clause-refused _ _ _ _ _ _ _ _ _ c.execute.ensures.went;
  faults = clause-faults _ _ _ _ _ _ _ _ _ c.execute.ensures.went;
  no_store = clause-no_store _ _ _ _ _ _ _ _ _ c.execute.ensures.went c.accepted_programs_run_safely.ensures;
  overflow = clause-overflow _ _ _ _ _ _ _ _ _ c.execute.ensures.went c.accepted_programs_run_safely.ensures;
  steps_ended = clause-steps_ended _ _ _ _ _ _ _ _ _ c.execute.ensures.went c.accepted_programs_run_safely.ensures;
  unchanged = c.execute.ensures.unchanged;
  said = clause-said _ _ _ _ _ _ _ _ _ c.execute.ensures.went;
  cut = clause-cut _ _ _ _ _ _ _ _ _ c.execute.ensures.went;
  memory = clause-memory _ _ _ _ _ _ _ _ _ c.execute.ensures.went;
  accepted = λ name bytes means here zero. clause-accepted _ _ _ _ _ _ _ _ _ c.execute.ensures.went (Verify name) bytes means here c.accepted_programs_run_safely.ensures name refl zero;
  ran = λ name bytes limits args means here ended. clause-ran _ _ _ _ _ _ _ _ _ c.execute.ensures.went (Run name limits args) bytes means here c.accepted_programs_run_safely.ensures name limits args refl ended;
  reported = λ command bytes report means here. clause-reported _ _ _ _ _ _ _ _ _ c.execute.ensures.went command bytes means here c.program_texts_are_read.ensures.one_value report;
  complete = λ command bytes report means here. clause-complete _ _ _ _ _ _ _ _ _ c.execute.ensures.went command bytes means here c.program_texts_are_read.ensures.one_value report;
  accepts = λ name bytes program means here text accepted. clause-accepts _ _ _ _ _ _ _ _ _ c.execute.ensures.went c.program_texts_are_read.ensures.one_value name bytes program means here text accepted;
  refuses = λ name bytes program at rule means here text refused. clause-refuses _ _ _ _ _ _ _ _ _ c.execute.ensures.went c.program_texts_are_read.ensures.one_value name bytes program means here text at rule refused;
}
