use Rattle.std.proofs.Common.{◌≡◌, length}
use Rattle.dtal_code.specs.Passing.{unknown, are_proved}
use Rattle.instruction_checks.specs.Proving.{IsReady}
use Rattle.instruction_checks.specs.Views.{AreCountable}
use Rattle.instruction_checks.proofs.lines.are_proved.Given as goal

abbrev pub invariant-loop-demands : goal.invariant-loop-demands
invariant-loop-demands l = (are_proved l.ctx (unknown l.ctx l.demands) l.by ≡ are_proved l.ctx (unknown l.ctx l.fn.demands) l.fn.by) × IsReady l.checker × AreCountable l.by

abbrev pub decreases-loop-demands : goal.decreases-loop-demands
decreases-loop-demands l = length l.demands
