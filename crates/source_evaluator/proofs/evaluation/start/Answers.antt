use Rattle.std.proofs.Common.{◌≡◌, ◌≢◌, ◌∙◌, ℕ, List, [], map, length, None, Some, Err, sym, ap, subst, arith}
use Rattle.std.specs.Prelude.{slice_get}
use Rattle.xan_io.specs.Outcome.{How, Outcome}
use Rattle.xanadu_tree.specs.Plain as core
use Rattle.xanadu_tree.specs.PlainOf.{plain_core, plain_fun}
use Rattle.xanadu_tree.specs.declared.program.CoreFun.{CoreFun}
use Rattle.typed_core.specs.Meaning.{outcome_of, source_outcome}
use Rattle.source_evaluator.specs.Evaluating.{Evaluated, begun}
use Rattle.source_evaluator.specs.Pending.{meaning}
use Rattle.source_evaluator.specs.Views.{state_of}
use Rattle.source_evaluator.proofs.BegunRuns.{begun_in, run_begun, run_none}
use Rattle.source_evaluator.proofs.StartedRuns.{begun_ends, begun_well, found_in, found_many}
use Rattle.source_evaluator.proofs.evaluation.start.Goals as goal

pub run-requires-clause-safe : goal.run-requires-clause-safe
run-requires-clause-safe g c =
    let program = plain_core c.args.core.now in
    let f = plain_fun c.in-Some.fun.now in
    let fs = map plain_fun c.funs-funs.result.now in
    let m = state_of c.in-Ok.machine in
    let same : fs ≡ program.funs = ap (map plain_fun) c.funs-funs.ensures.funs in
    let in_fs = found_in c.funs-funs.result.now c.main.result c.in-Some.fun.now c.in-Some.ensures in
    let there : slice_get program.funs program.main ≡ Some f = sym (ap (λ (l : List core.Fun). slice_get l c.main.result) same ∙ ap (slice_get program.funs) c.main.ensures) ∙ in_fs in
    let many = found_many program c.funs-funs.ensures.rules f c.args.args.now there c.requires.clean in
    let some : c.args.depth ≢ 0 = λ e. omega (arith, e, c.if-depth-eq0.false) in
    let is = run_begun program f c.args.args.now c.args.heap c.args.depth c.args.fuel m there many some c.in-Ok.ensures
    ∙ ap (λ (l : List core.Fun). outcome_of (meaning l c.args.depth m [])) (sym same) in
    λ e. c.requires.safe (ap (λ (o : Outcome). o.how) is ∙ e)

pub run-requires-clause-begins : goal.run-requires-clause-begins
run-requires-clause-begins g c =
    let in_fs = found_in c.funs-funs.result.now c.main.result c.in-Some.fun.now c.in-Some.ensures in
    begun_in (map plain_fun c.funs-funs.result.now) c.main.result (plain_fun c.in-Some.fun.now) c.args.args.now c.args.heap c.args.fuel (state_of c.in-Ok.machine) in_fs c.in-Ok.ensures

pub end-requires : goal.end-requires
end-requires g c =
    let program = plain_core c.args.core.now in
    let f = plain_fun c.in-Some.fun.now in
    let same : map plain_fun c.funs-funs.result.now ≡ program.funs = ap (map plain_fun) c.funs-funs.ensures.funs in
    let in_fs = found_in c.funs-funs.result.now c.main.result c.in-Some.fun.now c.in-Some.ensures in
    let there : slice_get program.funs program.main ≡ Some f = sym (ap (λ (l : List core.Fun). slice_get l c.main.result) same ∙ ap (slice_get program.funs) c.main.ensures) ∙ in_fs in
    let many = found_many program c.funs-funs.ensures.rules f c.args.args.now there c.requires.clean in
    let some : c.args.depth ≢ 0 = λ e. omega (arith, e, c.if-depth-eq0.false) in
    begun_well (begun f c.args.args.now c.args.heap c.args.fuel) (source_outcome program c.args.args.now c.args.heap c.args.depth c.args.fuel)
    (λ how e. run_none program f c.args.args.now c.args.heap c.args.depth c.args.fuel how there many some e) c.in-Err.halt c.requires.safe c.in-Err.ensures

pub returns-in-Ok : goal.returns-in-Ok
returns-in-Ok g c =
    let program = plain_core c.args.core.now in
    let f = plain_fun c.in-Some.fun.now in
    let fs = map plain_fun c.funs-funs.result.now in
    let m = state_of c.in-Ok.machine in
    let same : fs ≡ program.funs = ap (map plain_fun) c.funs-funs.ensures.funs in
    let in_fs = found_in c.funs-funs.result.now c.main.result c.in-Some.fun.now c.in-Some.ensures in
    let there : slice_get program.funs program.main ≡ Some f = sym (ap (λ (l : List core.Fun). slice_get l c.main.result) same ∙ ap (slice_get program.funs) c.main.ensures) ∙ in_fs in
    let many = found_many program c.funs-funs.ensures.rules f c.args.args.now there c.requires.clean in
    let some : c.args.depth ≢ 0 = λ e. omega (arith, e, c.if-depth-eq0.false) in
    let is = run_begun program f c.args.args.now c.args.heap c.args.depth c.args.fuel m there many some c.in-Ok.ensures
    ∙ ap (λ (l : List core.Fun). outcome_of (meaning l c.args.depth m [])) (sym same) in
    subst (λ (o : Outcome). Evaluated None o (g.S.Sink.written c.args.sink.now) (g.S.Sink.written c.run.new.sink) (g.S.Sink.faults c.args.sink.now) (g.S.Sink.faults c.run.new.sink) c.run.result) (sym is) c.run.ensures

pub returns-in-Err : goal.returns-in-Err
returns-in-Err g c =
    let program = plain_core c.args.core.now in
    let f = plain_fun c.in-Some.fun.now in
    let same : map plain_fun c.funs-funs.result.now ≡ program.funs = ap (map plain_fun) c.funs-funs.ensures.funs in
    let in_fs = found_in c.funs-funs.result.now c.main.result c.in-Some.fun.now c.in-Some.ensures in
    let there : slice_get program.funs program.main ≡ Some f = sym (ap (λ (l : List core.Fun). slice_get l c.main.result) same ∙ ap (slice_get program.funs) c.main.ensures) ∙ in_fs in
    let many = found_many program c.funs-funs.ensures.rules f c.args.args.now there c.requires.clean in
    let some : c.args.depth ≢ 0 = λ e. omega (arith, e, c.if-depth-eq0.false) in
    let made = begun f c.args.args.now c.args.heap c.args.fuel in
    let run = source_outcome program c.args.args.now c.args.heap c.args.depth c.args.fuel in
    let ends : (how : How) → made ≡ Err how → run ≡ record { printed = []; how = how } =
    λ how e. run_none program f c.args.args.now c.args.heap c.args.depth c.args.fuel how there many some e in
    let well = begun_well made run ends c.in-Err.halt c.requires.safe c.in-Err.ensures in
    subst (Evaluated None run _ _ _ _) (sym c.end.ensures) (begun_ends made run ends (g.S.Sink.written c.args.sink.now) (g.S.Sink.faults c.args.sink.now) c.in-Err.halt well c.in-Err.ensures)
