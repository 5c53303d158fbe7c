use Rattle.std.proofs.Common.{rules, ◌≡◌, ◌∙◌, FitsSigned, w64, map, None, Ok, sym, ap, subst}
use Rattle.std.proofs.lemmas.Int.{to_z-of_z}
use Rattle.xanadu_tree.specs.PlainOf.{plain_fun}
use Rattle.source_values.specs.Values.{Ending}
use Rattle.source_evaluator.specs.Evaluating.{Evaluated}
use Rattle.source_evaluator.specs.Steps.{Event, Machine}
use Rattle.source_evaluator.specs.Views.{event_of, state_of}
use Rattle.source_evaluator.specs.declared.machine.Event as code
use Rattle.source_evaluator.proofs.DrivenRuns.{runs_begin, runs_go, runs_say, runs_cut, runs_return, runs_end, not_stuck, steps_less}
use Rattle.source_evaluator.proofs.run.run.Goals as goal

-- which event it is
known : (made : Ending (Event × Machine)) (ev is : code.Event) (next : Machine) → made ≡ Ok (event_of ev, next) → ev ≡ is → made ≡ Ok (event_of is, next)
known made ev is next e same = e ∙ ap (λ v. let r : Ending (Event × Machine) = Ok (event_of v, next) in r) same

pub turns-init : goal.turns-init
turns-init g c =
    runs_begin (map plain_fun c.args.funs.now) c.args.depth (state_of c.args.machine) (g.S.Sink.written c.args.sink.now) (g.S.Sink.faults c.args.sink.now) c.requires.begins

pub turns-smaller-in-Ok-Goes : goal.turns-smaller-in-Ok-Goes
turns-smaller-in-Ok-Goes g c = (steps_less _ _ _ _ _ c.turns.invariant.fits c.in-Ok-Goes.ensures).0

pub turns-preserved-in-Ok-Goes : goal.turns-preserved-in-Ok-Goes
turns-preserved-in-Ok-Goes g c = runs_go _ _ _ _ _ _ _ _ c.turns.invariant _ (known _ _ _ _ c.in-Ok-Goes.ensures c.in-Ok-Goes.field-0-is)

pub turns-smaller : goal.turns-smaller
turns-smaller g c = (steps_less _ _ _ _ _ c.turns.invariant.fits c.in-Ok-Says.ensures).0

pub turns-preserved : goal.turns-preserved
turns-preserved g c =
    let fits : FitsSigned w64 c.in-Ok-Says.number = search rules in
    runs_say _ _ _ _ _ _ _ _ c.turns.invariant _ c.in-Ok-Says.number _ _ _ (known _ _ _ _ c.in-Ok-Says.ensures c.in-Ok-Says.field-0-is)
    (to_z-of_z w64 c.in-Ok-Says.number fits) c.in-Ok.ensures.appended c.in-Ok.ensures.counted

pub returns-in-Err-put_number : goal.returns-in-Err-put_number
returns-in-Err-put_number g c =
    let fits : FitsSigned w64 c.in-Ok-Says.number = search rules in
    runs_cut _ _ _ _ _ _ _ _ c.turns.invariant _ c.in-Ok-Says.number _ _ _ (known _ _ _ _ c.in-Ok-Says.ensures c.in-Ok-Says.field-0-is)
    (to_z-of_z w64 c.in-Ok-Says.number fits) c.in-Err-put_number.ensures.prefix c.in-Err-put_number.ensures.failed c.in-Err-put_number.ensures.never_falls

pub returns-in-Ok-Returns : goal.returns-in-Ok-Returns
returns-in-Ok-Returns g c =
    let fits : FitsSigned w64 c.in-Ok-Returns.word = search rules in
    runs_return _ _ _ _ _ _ _ _ c.turns.invariant _ c.in-Ok-Returns.word _ (known _ _ _ _ c.in-Ok-Returns.ensures c.in-Ok-Returns.field-0-is)
    (to_z-of_z w64 c.in-Ok-Returns.word fits)

pub end-requires : goal.end-requires
end-requires g c = not_stuck _ _ _ _ _ _ _ _ c.turns.invariant c.in-Err.halt c.requires.safe c.in-Err.ensures

pub returns-in-Err : goal.returns-in-Err
returns-in-Err g c =
    let well = not_stuck _ _ _ _ _ _ _ _ c.turns.invariant c.in-Err.halt c.requires.safe c.in-Err.ensures in
    subst (Evaluated None _ _ _ _ _) (sym c.end.ensures) (runs_end _ _ _ _ _ _ _ _ c.turns.invariant c.in-Err.halt well c.in-Err.ensures)
