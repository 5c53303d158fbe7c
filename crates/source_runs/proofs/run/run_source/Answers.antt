use Rattle.std.proofs.Common.{Err, refl, subst}
use Rattle.xan_io.specs.Entry as fault
use Rattle.xanadu_tree.specs.PlainOf.{plain_core}
use Rattle.typed_core.specs.Meaning.{source_fault, source_outcome}
use Rattle.source_evaluator.specs.Evaluating.{Evaluated}
use Rattle.source_evaluator.specs.declared.end.EvalError.{EvalError}
use Rattle.command_reports.specs.declared.run_end.RunEnd.{RunEnd}
use Rattle.command_reports.specs.declared.run_end.RunEnd.TheVariants as end
use Rattle.command_reports.specs.Report.{end_report}
use Rattle.command_reports.specs.Said.{Says}
use Rattle.source_runs.proofs.SaidRuns.{as_number, ended_said, faulted_said, short_said, broken_said}
use Rattle.source_runs.proofs.run.run_source.Goals as goal

pub returns-in-Ok : goal.returns-in-Ok
returns-in-Ok g c =
    ended_said (plain_core c.args.program.now.base.core) c.args.limits c.args.args.now _ _ _ _ _ _ _ c.in-Ok.end c.in-Ok.ensures
    (subst
    (λ (e : RunEnd).
    Says (end_report e) c.say_end.result (g.O.Sink.faults c.eval.new.sink) (g.O.Sink.faults c.say_end.new.out) (g.O.Sink.written c.eval.new.sink)
    (g.O.Sink.written c.say_end.new.out)) c.end_of.ensures c.say_end.ensures)

pub returns-in-Err-ArgCount : goal.returns-in-Err-ArgCount
returns-in-Err-ArgCount g c =
    faulted_said (plain_core c.args.program.now.base.core) c.args.limits c.args.args.now _ _ _ _ _ _ _ fault.ArgCount
    (subst
    (λ (e : EvalError).
    Evaluated (source_fault (plain_core c.args.program.now.base.core) c.args.args.now)
    (source_outcome (plain_core c.args.program.now.base.core) c.args.args.now c.args.limits.heap c.args.limits.depth c.args.limits.units)
    (g.O.Sink.written c.args.out.now) (g.O.Sink.written c.eval.new.sink) (g.O.Sink.faults c.args.out.now) (g.O.Sink.faults c.eval.new.sink) (Err e))
    c.in-Err-ArgCount.field-0-is c.in-Err-ArgCount.ensures)
    c.say_end-in-Err-ArgCount.ensures

pub returns-in-Err-ArgKind : goal.returns-in-Err-ArgKind
returns-in-Err-ArgKind g c =
    faulted_said (plain_core c.args.program.now.base.core) c.args.limits c.args.args.now _ _ _ _ _ _ _ (fault.ArgKind c.in-Err-ArgKind.argument)
    (subst
    (λ (e : EvalError).
    Evaluated (source_fault (plain_core c.args.program.now.base.core) c.args.args.now)
    (source_outcome (plain_core c.args.program.now.base.core) c.args.args.now c.args.limits.heap c.args.limits.depth c.args.limits.units)
    (g.O.Sink.written c.args.out.now) (g.O.Sink.written c.eval.new.sink) (g.O.Sink.faults c.args.out.now) (g.O.Sink.faults c.eval.new.sink) (Err e))
    c.in-Err-ArgKind.field-0-is c.in-Err-ArgKind.ensures)
    (as_number end.ArgKind _ c.in-Err-ArgKind.argument _ _ _ _ _ c.say_end-in-Err-ArgKind.ensures (rw c.in-Err-ArgKind.field-0-is refl))

pub returns-in-Err-ArgIndex : goal.returns-in-Err-ArgIndex
returns-in-Err-ArgIndex g c =
    faulted_said (plain_core c.args.program.now.base.core) c.args.limits c.args.args.now _ _ _ _ _ _ _ (fault.ArgIndex c.in-Err-ArgIndex.argument)
    (subst
    (λ (e : EvalError).
    Evaluated (source_fault (plain_core c.args.program.now.base.core) c.args.args.now)
    (source_outcome (plain_core c.args.program.now.base.core) c.args.args.now c.args.limits.heap c.args.limits.depth c.args.limits.units)
    (g.O.Sink.written c.args.out.now) (g.O.Sink.written c.eval.new.sink) (g.O.Sink.faults c.args.out.now) (g.O.Sink.faults c.eval.new.sink) (Err e))
    c.in-Err-ArgIndex.field-0-is c.in-Err-ArgIndex.ensures)
    (as_number end.ArgIndex _ c.in-Err-ArgIndex.argument _ _ _ _ _ c.say_end-in-Err-ArgIndex.ensures (rw c.in-Err-ArgIndex.field-0-is refl))

pub returns-in-Err-EntryRow : goal.returns-in-Err-EntryRow
returns-in-Err-EntryRow g c =
    faulted_said (plain_core c.args.program.now.base.core) c.args.limits c.args.args.now _ _ _ _ _ _ _ (fault.EntryRow c.in-Err-EntryRow.row)
    (subst
    (λ (e : EvalError).
    Evaluated (source_fault (plain_core c.args.program.now.base.core) c.args.args.now)
    (source_outcome (plain_core c.args.program.now.base.core) c.args.args.now c.args.limits.heap c.args.limits.depth c.args.limits.units)
    (g.O.Sink.written c.args.out.now) (g.O.Sink.written c.eval.new.sink) (g.O.Sink.faults c.args.out.now) (g.O.Sink.faults c.eval.new.sink) (Err e))
    c.in-Err-EntryRow.field-0-is c.in-Err-EntryRow.ensures)
    (as_number end.EntryRow _ c.in-Err-EntryRow.row _ _ _ _ _ c.say_end-in-Err-EntryRow.ensures (rw c.in-Err-EntryRow.field-0-is refl))

pub returns-in-Err-WriteFault : goal.returns-in-Err-WriteFault
returns-in-Err-WriteFault g c =
    broken_said (plain_core c.args.program.now.base.core) c.args.limits c.args.args.now _ _ (g.O.Sink.faults c.eval.new.sink) _ _ (g.O.Sink.written c.eval.new.sink) _
    c.proved_programs_are_never_stuck.ensures
    (subst
    (λ (e : EvalError).
    Evaluated (source_fault (plain_core c.args.program.now.base.core) c.args.args.now)
    (source_outcome (plain_core c.args.program.now.base.core) c.args.args.now c.args.limits.heap c.args.limits.depth c.args.limits.units)
    (g.O.Sink.written c.args.out.now) (g.O.Sink.written c.eval.new.sink) (g.O.Sink.faults c.args.out.now) (g.O.Sink.faults c.eval.new.sink) (Err e))
    c.in-Err-WriteFault.field-0-is c.in-Err-WriteFault.ensures)
    refl

pub returns-in-Err-Memory : goal.returns-in-Err-Memory
returns-in-Err-Memory g c =
    short_said (plain_core c.args.program.now.base.core) c.args.limits c.args.args.now _ _ _ _ _ _ _
    (subst
    (λ (e : EvalError).
    Evaluated (source_fault (plain_core c.args.program.now.base.core) c.args.args.now)
    (source_outcome (plain_core c.args.program.now.base.core) c.args.args.now c.args.limits.heap c.args.limits.depth c.args.limits.units)
    (g.O.Sink.written c.args.out.now) (g.O.Sink.written c.eval.new.sink) (g.O.Sink.faults c.args.out.now) (g.O.Sink.faults c.eval.new.sink) (Err e))
    c.in-Err-Memory.field-0-is c.in-Err-Memory.ensures)
    c.say.ensures
