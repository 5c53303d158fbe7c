use Rattle.std.proofs.Common.{◌≡◌, ◌≢◌, ◌∙◌, ℕ, List, None, Some, Ok, Err, sym, ap, subst}
use Rattle.std.specs.Prelude.{slice_get}
use Rattle.xan_io.specs.Entry.{unless_faulty}
use Rattle.xan_io.specs.Outcome.{Outcome, Stuck}
use Rattle.argument_checks.specs.Checking.{HasNoFault}
use Rattle.state_types.specs.declared.closed.Signature.{Signature}
use Rattle.xanadu_tree.specs.PlainOf.{CoreParts, plain_core}
use Rattle.typed_core.specs.Goals.{elaborated}
use Rattle.typed_core.specs.Meaning.{source_fault, source_outcome}
use Rattle.typed_core.specs.Proving.{ElaboratedParts}
use Rattle.source_safety.specs.Whole.{NoneIsStuck}
use Rattle.source_evaluator.specs.Evaluating.{Evaluated}
use Rattle.source_evaluator.specs.declared.end.EvalError.{EvalError}
use Rattle.source_evaluator.proofs.MainSignature.{main_fault, main_runs}
use Rattle.source_evaluator.proofs.StartedRuns.{refused, sig_there}
use Rattle.source_evaluator.proofs.evaluation.eval.Goals as goal

pub unreachable-requires : goal.unreachable-requires
unreachable-requires g c =
    let k = c.core-core.result.now in
    let b = c.base-base.result.now in
    let is : elaborated (plain_core k) ≡ Ok b.made = ap (λ (p : CoreParts). elaborated (plain_core p)) c.core-core.ensures.core ∙ c.core-core.ensures.elaborated in
    sig_there (plain_core k) b.made c.funs-funs.ensures.rules is
    (c.in_default.ensures ∙ ap (λ (l : List Signature). slice_get l c.main.result) c.sigs.ensures ∙ ap (slice_get b.made.sigs) c.main.ensures)

pub check_arguments-requires : goal.check_arguments-requires
check_arguments-requires g c =
    let k = c.core-core.result.now in
    let b = c.base-base.result.now in
    let is : elaborated (plain_core k) ≡ Ok b.made = ap (λ (p : CoreParts). elaborated (plain_core p)) c.core-core.ensures.core ∙ c.core-core.ensures.elaborated in
    let there = sym (c.in-Some.ensures ∙ ap (λ (l : List Signature). slice_get l c.main.result) c.sigs.ensures ∙ ap (slice_get b.made.sigs) c.main.ensures) in
    main_runs (plain_core k) b.made is c.funs-funs.ensures.rules c.in-Some.sig.now there

pub start-requires-clause-clean : goal.start-requires-clause-clean
start-requires-clause-clean g c =
    let k = c.core-core.result.now in
    let b = c.base-base.result.now in
    let is : elaborated (plain_core k) ≡ Ok b.made = ap (λ (p : CoreParts). elaborated (plain_core p)) c.core-core.ensures.core ∙ c.core-core.ensures.elaborated in
    let there = sym (c.in-Some.ensures ∙ ap (λ (l : List Signature). slice_get l c.main.result) c.sigs.ensures ∙ ap (slice_get b.made.sigs) c.main.ensures) in
    main_fault (plain_core k) b.made is c.funs-funs.ensures.rules c.in-Some.sig.now there c.args.args.now ∙ c.in-Ok.ensures

pub start-requires-clause-safe : goal.start-requires-clause-safe
start-requires-clause-safe g c =
    let k = c.core-core.result.now in
    let b = c.base-base.result.now in
    let is : elaborated (plain_core k) ≡ Ok b.made = ap (λ (p : CoreParts). elaborated (plain_core p)) c.core-core.ensures.core ∙ c.core-core.ensures.elaborated in
    let there = sym (c.in-Some.ensures ∙ ap (λ (l : List Signature). slice_get l c.main.result) c.sigs.ensures ∙ ap (slice_get b.made.sigs) c.main.ensures) in
    let clean = main_fault (plain_core k) b.made is c.funs-funs.ensures.rules c.in-Some.sig.now there c.args.args.now ∙ c.in-Ok.ensures in
    let same : k ≡ c.args.program.now.base.core = c.core-core.ensures.core ∙ ap (λ (e : ElaboratedParts). e.core) c.base-base.ensures in
    let all = subst (λ (p : CoreParts). NoneIsStuck (unless_faulty (source_fault (plain_core p) c.args.args.now) (source_outcome (plain_core p) c.args.args.now c.args.heap c.args.depth))) (sym same)
    (c.proved_programs_are_never_stuck.ensures c.args.args.now c.args.heap c.args.depth) in
    subst (λ o. NoneIsStuck (unless_faulty o (source_outcome (plain_core k) c.args.args.now c.args.heap c.args.depth))) clean all c.args.fuel

pub returns-in-Ok : goal.returns-in-Ok
returns-in-Ok g c =
    let k = c.core-core.result.now in
    let b = c.base-base.result.now in
    let is : elaborated (plain_core k) ≡ Ok b.made = ap (λ (p : CoreParts). elaborated (plain_core p)) c.core-core.ensures.core ∙ c.core-core.ensures.elaborated in
    let there = sym (c.in-Some.ensures ∙ ap (λ (l : List Signature). slice_get l c.main.result) c.sigs.ensures ∙ ap (slice_get b.made.sigs) c.main.ensures) in
    let clean = main_fault (plain_core k) b.made is c.funs-funs.ensures.rules c.in-Some.sig.now there c.args.args.now ∙ c.in-Ok.ensures in
    let same : k ≡ c.args.program.now.base.core = c.core-core.ensures.core ∙ ap (λ (e : ElaboratedParts). e.core) c.base-base.ensures in
    subst (λ (p : CoreParts). Evaluated (source_fault (plain_core p) c.args.args.now) (source_outcome (plain_core p) c.args.args.now c.args.heap c.args.depth c.args.fuel) (g.S.Sink.written c.args.sink.now) (g.S.Sink.written c.start.new.sink) (g.S.Sink.faults c.args.sink.now) (g.S.Sink.faults c.start.new.sink) c.start.result) same
    (subst (λ o. Evaluated o (source_outcome (plain_core k) c.args.args.now c.args.heap c.args.depth c.args.fuel) (g.S.Sink.written c.args.sink.now) (g.S.Sink.written c.start.new.sink) (g.S.Sink.faults c.args.sink.now) (g.S.Sink.faults c.start.new.sink) c.start.result) (sym clean) c.start.ensures)

pub returns-in-Err : goal.returns-in-Err
returns-in-Err g c =
    let k = c.core-core.result.now in
    let b = c.base-base.result.now in
    let is : elaborated (plain_core k) ≡ Ok b.made = ap (λ (p : CoreParts). elaborated (plain_core p)) c.core-core.ensures.core ∙ c.core-core.ensures.elaborated in
    let there = sym (c.in-Some.ensures ∙ ap (λ (l : List Signature). slice_get l c.main.result) c.sigs.ensures ∙ ap (slice_get b.made.sigs) c.main.ensures) in
    let found = main_fault (plain_core k) b.made is c.funs-funs.ensures.rules c.in-Some.sig.now there c.args.args.now in
    let same : k ≡ c.args.program.now.base.core = c.core-core.ensures.core ∙ ap (λ (e : ElaboratedParts). e.core) c.base-base.ensures in
    let run = source_outcome (plain_core c.args.program.now.base.core) c.args.args.now c.args.heap c.args.depth c.args.fuel in
    let fault = sym (ap (λ (p : CoreParts). source_fault (plain_core p) c.args.args.now) same) ∙ found in
    let out = g.S.Sink.written c.args.sink.now in
    let faults = g.S.Sink.faults c.args.sink.now in
    let all = source_fault (plain_core c.args.program.now.base.core) c.args.args.now in
    subst (λ (e : EvalError). Evaluated all run out out faults faults (Err e)) (sym c.refuse.ensures)
    (refused all run out faults c.in-Err.error (subst (λ o. HasNoFault o (Err c.in-Err.error)) (sym fault) c.in-Err.ensures))
